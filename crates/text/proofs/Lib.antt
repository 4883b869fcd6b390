pub mod Digits
pub mod Pieced
pub mod Spelling
pub mod Paging
