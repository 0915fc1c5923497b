pub mod Law
pub mod Same
