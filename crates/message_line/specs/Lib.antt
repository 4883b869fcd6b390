pub mod Columns
pub mod Line
pub mod Column
