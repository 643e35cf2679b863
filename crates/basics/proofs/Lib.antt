pub mod Cases
pub mod Lists
pub mod Mapped
pub mod Parts
pub mod Stores
pub mod Table
pub mod Words
