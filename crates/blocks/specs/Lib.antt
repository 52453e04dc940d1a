pub mod Check
pub mod Sealing
pub mod Opening
pub mod Laws
