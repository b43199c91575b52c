pub mod Balances
pub mod Tables
pub mod Lists
