pub mod StoredNodes
