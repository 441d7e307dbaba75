-- What the turns of the test's loops show, and how its groups come to the whole row.
pub mod Sizes
pub mod Turns
pub mod Groups
pub mod Whole
