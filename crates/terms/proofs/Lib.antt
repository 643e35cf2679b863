pub mod Folding
pub mod Laws
