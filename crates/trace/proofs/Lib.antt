pub mod Blank
pub mod First
pub mod Naming
pub mod Rows
