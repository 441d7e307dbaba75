pub mod Numbers
pub mod Header
pub mod Record
