-- Definitions.
pub mod Keys
pub mod KeyHash
-- Laws.
pub mod KeyLaws
pub mod KeyHashLaws
