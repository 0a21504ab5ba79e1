-- Definitions.
pub mod Area
pub mod Number
-- Laws.
pub mod AreaLaws
pub mod NumberLaws
