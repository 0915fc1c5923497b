pub mod TypeFindings
pub mod TypeParts
pub mod Expressions
pub mod TypeSelects
pub mod Rolled
pub mod TypeTrees
pub mod TypeStatements
mod ColumnFindings
mod Columns
mod ColumnFitting
mod ColumnParts
mod Froms
mod ColumnSelects
mod Sets
mod ColumnTrees
mod ColumnStatements
mod Walk
mod Numbers
mod Existence
mod Places
mod FunctionFitting
mod NumberedColumns
mod Turns
mod Standing
mod Placing
mod Valued
mod Lists
mod Values
mod Rows
mod ValueTrees
mod ValueAnswers
mod Databases
mod Kept
