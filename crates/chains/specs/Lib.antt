pub mod Chains
pub mod Going
pub mod Parts
