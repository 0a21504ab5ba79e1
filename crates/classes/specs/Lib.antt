-- Definitions.
pub mod Read
pub mod Fit
-- Laws.
pub mod ReadLaws
pub mod FitLaws
