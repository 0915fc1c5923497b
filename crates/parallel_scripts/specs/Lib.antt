pub mod Cut
pub mod Ends
pub mod Handed
pub mod Shown
pub mod Many
pub mod Words
pub mod Alone
