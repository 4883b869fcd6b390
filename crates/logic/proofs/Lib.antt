pub mod Only
pub mod Decide
pub mod Tests
