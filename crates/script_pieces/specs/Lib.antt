pub mod Pieces
pub mod PieceMeaning
pub mod Place
pub mod Cutter
