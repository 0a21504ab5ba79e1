-- Definitions.
pub mod Exact
pub mod Sum
pub mod Write
-- Laws.
pub mod ExactLaws
pub mod SumLaws
pub mod SumPathLaws
pub mod WriteLaws
