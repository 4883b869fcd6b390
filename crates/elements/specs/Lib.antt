pub mod Elements
pub mod Meaning
pub mod Scan
pub mod Single
pub mod SoFar
pub mod Walk
