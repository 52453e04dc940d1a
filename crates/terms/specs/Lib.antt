pub mod Fitting
pub mod Heads
pub mod Reading
pub mod Pointers
pub mod Finding
pub mod Views
