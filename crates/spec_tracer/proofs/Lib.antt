-- What follows from the definitions alone.
pub mod ValueLaws
pub mod TracedLaws
pub mod Examples
