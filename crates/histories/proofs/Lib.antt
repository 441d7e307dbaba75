-- What holds of every history of calls of both engines over one account.
pub mod Both
pub mod NeverAgain
pub mod Serials
pub mod Told
pub mod Stock
pub mod HeapAndObjects
pub mod AnyOrder
pub mod SetsReturned
pub mod Marks
pub mod Mixed
pub mod Answers
pub mod Grants
