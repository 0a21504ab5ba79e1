-- Definitions.
pub mod Stand
pub mod Fields
pub mod Named
pub mod Labels
pub mod Head
pub mod View
pub mod Check
-- Laws.
pub mod StandLaws
pub mod FieldsLaws
pub mod LabelLaws
pub mod HeadedLaws
pub mod DepthLaws
pub mod HeadLaws
pub mod CheckLaws
