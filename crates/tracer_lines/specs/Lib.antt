-- Definitions.
pub mod Named
pub mod Piece
pub mod Label
pub mod Line
pub mod Places
-- Laws.
pub mod PieceLaws
pub mod LabelLaws
pub mod LineLaws
pub mod PlacesLaws
pub mod PieceStepLaws
