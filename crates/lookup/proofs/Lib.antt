pub mod Names
pub mod Search
pub mod Table
