pub mod Refilling
