pub mod Matches
