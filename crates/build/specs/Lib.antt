-- Definitions.
pub mod Build
pub mod Behind
pub mod Made
-- Laws.
pub mod BuildLaws
pub mod BehindLaws
pub mod MadeLaws
