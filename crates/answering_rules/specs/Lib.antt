pub mod Fates
pub mod Effects
