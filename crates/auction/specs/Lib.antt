pub mod Volumes
pub mod Prices
pub mod Pairs
pub mod Fair
pub mod Openings
