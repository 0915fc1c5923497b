pub mod Rollbacks
pub mod ReadTexts
