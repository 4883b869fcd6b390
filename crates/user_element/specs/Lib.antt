pub mod Element
pub mod Writable
