pub mod Fields
pub mod Writes
pub mod Prescribed
pub mod Marked
