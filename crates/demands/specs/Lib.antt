pub mod Demand1
pub mod Demands
pub mod WrongCores
pub mod OneReply
pub mod EveryPromise
