-- Definitions.
pub mod Check
pub mod RegroupCheck
-- Laws.
pub mod CheckLaws
pub mod RegroupCheckLaws
