pub mod GoodDatabases
pub mod ChangesMade
pub mod RowsGiven
pub mod ToldLimits
