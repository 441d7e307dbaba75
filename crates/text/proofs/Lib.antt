-- What is written stays.
pub mod Growing
