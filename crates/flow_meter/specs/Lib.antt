pub mod Meter
pub mod Passage
pub mod Lent
pub mod CallMeters
