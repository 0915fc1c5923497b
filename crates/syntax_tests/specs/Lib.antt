pub mod Escapes
pub mod Foreign
