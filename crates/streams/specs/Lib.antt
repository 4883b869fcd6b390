pub mod Outcome
pub mod Refill
