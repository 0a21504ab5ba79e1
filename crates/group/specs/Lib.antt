-- Definitions.
pub mod Grow
pub mod Class
-- Laws.
pub mod GrowLaws
pub mod PairLaws
pub mod ClassLaws
