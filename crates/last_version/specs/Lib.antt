pub mod Gates
pub mod Standing
pub mod Lasts
