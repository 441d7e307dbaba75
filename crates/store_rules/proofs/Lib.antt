-- What follows from the definitions that both engines share.
pub mod Signed
pub mod Tested
pub mod Said
pub mod Refused
pub mod Fates
pub mod Loaned
pub mod Bytes
pub mod Placed
pub mod Accounts
pub mod Keyed
pub mod Going
pub mod Releasing
pub mod Permuted
pub mod Lessening
pub mod Holders
pub mod Shares
pub mod Amid
