-- Definitions.
pub mod Group
pub mod Grouping
-- Laws.
pub mod GroupLaws
