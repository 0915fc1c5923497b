pub mod Ties
pub mod Placing
pub mod Deciding
pub mod Digesting
