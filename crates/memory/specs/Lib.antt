pub mod Room
pub mod Putting
pub mod Numbers
pub mod Stretch
