pub mod Words
pub mod Bids
pub mod Rules
pub mod Laws
pub mod Figures
