pub mod Settled
pub mod Device
pub mod ToldLimits
pub mod Played
pub mod Shown
pub mod Playing
