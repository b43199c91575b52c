pub mod Entries
pub mod Sheets
pub mod Prices
pub mod Texts
