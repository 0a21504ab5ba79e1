-- Definitions.
pub mod Project
-- Laws.
pub mod ProjectLaws
