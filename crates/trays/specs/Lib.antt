-- Definitions.
pub mod TrayGroup
pub mod Again
-- Laws.
pub mod TargetLaws
pub mod TrayGroupLaws
pub mod AgainLaws
