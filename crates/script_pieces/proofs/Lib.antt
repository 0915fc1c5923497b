pub mod Places
pub mod Texts
pub mod Skipping
pub mod Cutting
pub mod OneRequest
pub mod OnePiece
pub mod Cutters
