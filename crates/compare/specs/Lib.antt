-- Definitions.
pub mod Compare
-- Laws.
pub mod CompareLaws
pub mod WordLaws
