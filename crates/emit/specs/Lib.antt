pub mod Pieces
pub mod Rooms
