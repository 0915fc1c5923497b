pub mod JoinKeys
pub mod Standing
