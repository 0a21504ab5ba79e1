-- Definitions.
pub mod Matching
pub mod Lookup
-- Laws.
pub mod MatchingLaws
pub mod LookupLaws
