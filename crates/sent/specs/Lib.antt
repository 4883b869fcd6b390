pub mod Message
pub mod Dispatch
pub mod Side
