pub mod Facts
pub mod Splitting
pub mod SplitTables
pub mod Days
