-- What the worked days come to.
pub mod SplitWorked
pub mod SplitTabled
pub mod Worked
