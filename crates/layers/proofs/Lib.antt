pub mod Capping
pub mod Piling
