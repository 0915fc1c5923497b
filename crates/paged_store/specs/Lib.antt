pub mod Orderly
pub mod Shown
pub mod Sound
pub mod Store
pub mod Saved
pub mod SeenLemmas
pub mod Counted
