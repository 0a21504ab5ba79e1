-- Definitions.
pub mod Links
pub mod Index
pub mod Entering
-- Laws.
pub mod LinksLaws
pub mod EnterLaws
pub mod SpotsLaws
pub mod IndexLaws
pub mod StandingLaws
pub mod CountLaws
pub mod SearchLaws
pub mod EnteringLaws
pub mod AllLaws
