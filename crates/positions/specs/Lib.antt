-- Definitions.
pub mod Bearing
pub mod Entries
-- Laws.
pub mod BearingLaws
pub mod EntriesLaws
