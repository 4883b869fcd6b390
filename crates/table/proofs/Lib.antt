pub mod Live
pub mod Searched
