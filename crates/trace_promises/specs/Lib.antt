pub mod Instances
pub mod Names
pub mod Records
pub mod RoundTrip
pub mod WholeRun
pub mod Heeded
pub mod Means
