-- Definitions.
pub mod Collector
pub mod Feed
pub mod Tails
pub mod Unwinding
-- Laws.
pub mod TailLaws
pub mod CollectorLaws
pub mod FeedLaws
pub mod UnwindLaws
