pub mod Examined
pub mod Fields
pub mod Laws
pub mod Opened
pub mod Packed
pub mod Parts
pub mod Sealed
pub mod Sums
mod Examples
