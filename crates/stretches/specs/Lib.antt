-- Definitions.
pub mod Ended
pub mod Later
-- Laws.
pub mod LaterLaws
pub mod AllLaws
pub mod Failure
