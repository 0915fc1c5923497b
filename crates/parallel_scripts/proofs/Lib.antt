pub mod Cutting
pub mod Showing
pub mod ScriptsShown
pub mod Histories
pub mod Endings
pub mod AllCut
pub mod Alone
