-- Definitions.
pub mod First
-- Laws.
pub mod FirstLaws
