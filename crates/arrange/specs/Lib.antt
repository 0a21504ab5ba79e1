-- Definitions.
pub mod Arrange
-- Laws.
pub mod KeptLaws
pub mod OriginLaws
pub mod FrontLaws
pub mod ClassLaws
pub mod SubsetLaws
pub mod ArrangeLaws
