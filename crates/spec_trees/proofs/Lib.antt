-- What follows from the definitions alone.
pub mod FieldLaws
pub mod ReaderLaws
pub mod ArrayLaws
