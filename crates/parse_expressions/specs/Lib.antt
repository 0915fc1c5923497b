pub mod ReadExpressions
pub mod ReadQueries
pub mod Levels
