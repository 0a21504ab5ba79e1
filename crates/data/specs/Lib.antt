-- Definitions.
pub mod Integer
pub mod Value
pub mod Write
-- Laws.
pub mod IntegerLaws
pub mod ValueLaws
pub mod WritePathLaws
pub mod WriteDataLaws
