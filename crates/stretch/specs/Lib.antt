-- Definitions.
pub mod Carry
pub mod Next
-- Laws.
pub mod CarryLaws
pub mod NextLaws
