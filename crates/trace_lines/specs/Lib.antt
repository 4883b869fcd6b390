pub mod InPlace
pub mod Notices
pub mod Items
pub mod Line
pub mod Words
