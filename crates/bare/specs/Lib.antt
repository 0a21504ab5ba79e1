-- Definitions.
pub mod Bare
-- Laws.
pub mod BareLaws
