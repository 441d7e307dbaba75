-- What each part of the test comes to, and how the parts come to the whole row.
pub mod Parts
pub mod Apart
pub mod Trees
pub mod Whole
