pub mod Adding
pub mod Bytes
pub mod Rows
