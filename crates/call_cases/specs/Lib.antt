pub mod Cases
pub mod Instances
pub mod Handed
pub mod MoreInstances
