pub mod Rules
pub mod Changed
pub mod Settled
pub mod Stopped
pub mod Foreseen
pub mod Alone
pub mod Keys
pub mod Matched
