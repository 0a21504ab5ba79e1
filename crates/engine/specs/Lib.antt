-- Definitions.
pub mod Perform
-- Laws.
pub mod PerformLaws
pub mod RegroupLaws
