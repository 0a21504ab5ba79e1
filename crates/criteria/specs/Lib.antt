-- Definitions.
pub mod Meets
-- Laws.
pub mod MeetsLaws
