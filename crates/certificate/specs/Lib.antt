-- Definitions.
pub mod Cut
pub mod Alone
-- Laws.
pub mod CutLaws
pub mod AloneLaws
