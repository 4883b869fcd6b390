pub mod Serving
pub mod Messages
