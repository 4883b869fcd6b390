pub mod Asking
pub mod Messages
