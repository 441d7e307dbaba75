-- What the code of a buddy store's moves asks of the words.
pub mod Footing
pub mod Ready
pub mod Roomy
