pub mod Splitting
pub mod Noting
pub mod Turns
