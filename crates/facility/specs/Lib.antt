pub mod Facility
pub mod Forms
pub mod Filling
