pub mod Again
pub mod Leads
pub mod Found
pub mod FoundExpressions
pub mod FoundQueries
pub mod FoundStatements
pub mod Inside
