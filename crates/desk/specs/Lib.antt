pub mod Text
pub mod Desk
pub mod Needs
pub mod Claims
