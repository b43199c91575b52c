pub mod Written
pub mod Moved
pub mod Tabled
pub mod Listed
pub mod Holdings
pub mod Kept
