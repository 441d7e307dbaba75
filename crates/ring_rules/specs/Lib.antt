pub mod Ring
pub mod Test
