-- Definitions.
pub mod Trace
-- Laws.
pub mod TraceLaws
