pub mod Alone
pub mod Replies
pub mod Table
pub mod Halves
