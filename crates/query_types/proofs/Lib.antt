pub mod Conjuncts
pub mod FunctionLists
pub mod Items
pub mod Joined
pub mod Misplaced
pub mod Nodes
pub mod Selected
pub mod Turns
