pub mod Promises
pub mod Ours
pub mod ReadingDemands
pub mod OtherReaders
