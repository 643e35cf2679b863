pub mod Terms
pub mod Folded
