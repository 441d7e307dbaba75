-- What each call leaves where the lent words are right, and where they are not.
pub mod Branches
