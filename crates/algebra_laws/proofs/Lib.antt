mod Made
mod Kept
mod NoKeys
mod Ordered
pub mod Evaluations
mod Rows
mod Queries
mod Joins
mod Sides
mod Sets
mod Groups
pub mod Trees
mod Sorting
mod Replies
pub mod RolledTrees
mod Safe
mod Plain
mod Meanings
