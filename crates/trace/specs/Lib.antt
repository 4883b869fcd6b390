pub mod Reading
pub mod Kind
pub mod Ranges
pub mod ElementField
pub mod Values
