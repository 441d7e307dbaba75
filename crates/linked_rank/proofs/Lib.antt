-- The laws of these definitions, as the code writes rows.
pub mod Rows
