pub mod Faults
pub mod Books
pub mod Moves
pub mod Laws
