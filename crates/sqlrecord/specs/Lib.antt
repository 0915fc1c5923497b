pub mod Storable
pub mod Row
pub mod Key
pub mod Page
pub mod Build
pub mod Splice
pub mod Cell
