pub mod Decimal
pub mod Hex
pub mod Columns
pub mod Octets
pub mod Page
pub mod Line
pub mod Service
