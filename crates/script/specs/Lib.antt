pub mod Lines
pub mod Reading
pub mod Bids
pub mod Listings
pub mod Commands
pub mod Options
pub mod Faults
