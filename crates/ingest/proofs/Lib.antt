pub mod Places
pub mod Standing
pub mod Plans
pub mod Writing
pub mod Calls
