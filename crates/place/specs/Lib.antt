-- Definitions.
pub mod Writers
pub mod Place
pub mod Kept
-- Laws.
pub mod WriterLaws
pub mod PlaceLaws
pub mod KeptLaws
