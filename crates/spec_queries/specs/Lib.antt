-- Definitions.
pub mod Query
pub mod Bytes
pub mod Decode
pub mod Rules
pub mod Again
-- Laws.
pub mod PathLaws
pub mod CriterionLaws
pub mod DataLaws
pub mod QueryLaws
pub mod ByteLaws
pub mod CutLaws
pub mod AgainLaws
pub mod RegroupingLaws
pub mod Examples
