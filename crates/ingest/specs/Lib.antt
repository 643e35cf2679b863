pub mod Report
pub mod Needs
