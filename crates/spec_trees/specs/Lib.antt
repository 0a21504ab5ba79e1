-- Definitions.
pub mod Options
pub mod Lists
pub mod Limits
pub mod Tree
pub mod Size
pub mod Bytes
pub mod Readers
pub mod Decode
pub mod Within
-- Laws.
pub mod OptionLaws
pub mod ListLaws
pub mod FilterLaws
pub mod NumberLaws
pub mod SizeLaws
pub mod FindLaws
pub mod ByteLaws
pub mod Examples
