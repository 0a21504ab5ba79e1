-- Definitions.
pub mod JoinedGroup
-- Laws.
pub mod JoinLaws
pub mod JoinedGroupLaws
