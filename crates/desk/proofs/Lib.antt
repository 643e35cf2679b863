pub mod Texts
pub mod OtherKinds
pub mod Cutting
pub mod Serving
pub mod Turns
pub mod LastFrames
pub mod LedgerTold
pub mod Example
