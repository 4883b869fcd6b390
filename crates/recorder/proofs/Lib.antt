pub mod Heads
pub mod Joining
pub mod Sizing
