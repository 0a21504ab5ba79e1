-- Definitions.
pub mod Walk
pub mod Hash
-- Laws.
pub mod WalkLaws
pub mod ElementLaws
pub mod ComparedLaws
pub mod OperandLaws
pub mod SameLaws
pub mod EqualLaws
pub mod HashLaws
