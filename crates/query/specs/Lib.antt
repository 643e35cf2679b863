pub mod Listing
pub mod Needs
pub mod Marks
pub mod Windows
