-- Definitions.
pub mod MergeBytes
-- Laws.
pub mod MergeBytesLaws
