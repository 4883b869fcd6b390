pub mod Framing
pub mod Digesting
pub mod Fronts
pub mod Promises
pub mod Bounds
