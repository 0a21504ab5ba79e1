-- Definitions.
pub mod Limits
pub mod Message
pub mod Reading
pub mod Values
pub mod Traced
-- Laws.
pub mod FrontLaws
pub mod LineLaws
pub mod MessageLaws
