pub mod Cause
pub mod Element
