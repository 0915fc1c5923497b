pub mod Made
pub mod Born
pub mod Dropped
pub mod Listed
pub mod Inserted
pub mod Replied
pub mod Owned
