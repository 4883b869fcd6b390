pub mod Course
pub mod Run
pub mod Front
pub mod Entry
