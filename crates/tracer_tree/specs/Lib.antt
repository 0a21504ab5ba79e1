-- Definitions.
pub mod Number
pub mod Values
pub mod Labels
pub mod Array
-- Laws.
pub mod NumberLaws
pub mod ValuesLaws
pub mod LabelsLaws
pub mod ArrayLaws
