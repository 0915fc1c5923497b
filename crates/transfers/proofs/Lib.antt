pub mod Closed
pub mod AskedForms
