pub mod StandingLemmas
pub mod ShownLemmas
pub mod HoldLemmas
pub mod LastLemmas
