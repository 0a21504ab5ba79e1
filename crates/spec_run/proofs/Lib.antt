-- What follows from the definitions alone.
pub mod RunLaws
pub mod CutLaws
pub mod RegroupLaws
pub mod DayLaws
pub mod LinesLaws
pub mod TotalLaws
pub mod TracerLaws
pub mod Conditions
