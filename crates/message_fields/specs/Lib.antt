pub mod Width
pub mod Numbers
