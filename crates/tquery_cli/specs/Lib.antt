-- Definitions.
pub mod Text
pub mod Split
pub mod Respond
-- Laws.
pub mod TextLaws
pub mod SplitLaws
pub mod RespondLaws
