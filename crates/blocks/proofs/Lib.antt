pub mod Sizes
pub mod Capacity
pub mod Fields
pub mod Writes
pub mod Marked
