pub mod Table
pub mod Halves
pub mod Step
pub mod Verdict
pub mod Choice
pub mod Settle
pub mod Plan
pub mod Sought
