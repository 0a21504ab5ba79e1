-- Definitions.
pub mod Map
-- Laws.
pub mod MapLaws
