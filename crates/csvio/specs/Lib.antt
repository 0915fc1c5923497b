pub mod Loading
pub mod Batches
pub mod TableName
pub mod Dumping
pub mod Forms
pub mod Formed
