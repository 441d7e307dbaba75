pub mod Column
pub mod Order
