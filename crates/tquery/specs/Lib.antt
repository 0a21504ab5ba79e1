-- Definitions.
pub mod Interface
-- Laws.
pub mod InterfaceLaws
