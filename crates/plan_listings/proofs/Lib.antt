pub mod LoopNodes
pub mod Reading
pub mod ScanNodes
pub mod Refusing
