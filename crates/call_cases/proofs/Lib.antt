pub mod Instances
pub mod MoreInstances
pub mod Handed
