-- Definitions.
pub mod Finish
pub mod Lines
-- Laws.
pub mod FinishLaws
pub mod LinesLaws
