-- Definitions.
pub mod Refusal
pub mod Run
pub mod Regroup
pub mod Tracer
pub mod Answer
pub mod Day
pub mod Lines
pub mod Cut
pub mod Program
-- Laws.
pub mod AnswerLaws
pub mod Examples
