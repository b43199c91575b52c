pub mod Places
pub mod Perms
pub mod Ranked
pub mod Ties
pub mod Lookups
pub mod Slots
