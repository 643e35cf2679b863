pub mod Coding
pub mod Marked
pub mod Claims
