-- Definitions.
pub mod Outcomes
-- Laws.
pub mod OutcomeLaws
