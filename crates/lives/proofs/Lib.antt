pub mod Scripted
pub mod Listed
pub mod OneRun
pub mod Continued
