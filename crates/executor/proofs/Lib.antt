pub mod Nodes
pub mod GivesLemmas
pub mod PutsLemmas
pub mod GroupLemmas
pub mod HalfLemmas
pub mod SubqueryLemmas
pub mod SideLemmas
