pub mod Fitting
pub mod Writing
pub mod Pen
