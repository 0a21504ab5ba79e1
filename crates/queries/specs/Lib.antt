-- Definitions.
pub mod Table
pub mod Numbers
pub mod Accept
pub mod Steps
pub mod Places
-- Laws.
pub mod ShapeLaws
pub mod TableLaws
pub mod NumbersLaws
pub mod CheckLaws
pub mod PartLaws
pub mod PlaceLaws
pub mod StepLaws
pub mod TreesLaws
pub mod TestLaws
