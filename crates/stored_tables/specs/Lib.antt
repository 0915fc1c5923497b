pub mod Held
pub mod Named
pub mod Values
pub mod Trees
pub mod Places
pub mod Schemas
pub mod Contents
