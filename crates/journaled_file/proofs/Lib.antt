pub mod Laying
pub mod Showing
pub mod Renewing
pub mod Shutting
