pub mod Apart
pub mod Marked
pub mod Samples
pub mod Sending
