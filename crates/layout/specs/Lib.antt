pub mod Chains
pub mod Held
pub mod Index
pub mod Claims
