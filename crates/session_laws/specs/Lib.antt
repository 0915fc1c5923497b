pub mod Sound
pub mod Left
pub mod Damage
pub mod Reopening
