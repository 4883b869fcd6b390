pub mod Meets
pub mod Decided
pub mod WrongCores
pub mod OneReply
pub mod Demand1
pub mod EveryPromise
