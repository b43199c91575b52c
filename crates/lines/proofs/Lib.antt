pub mod Plain
pub mod Decimals
pub mod Parts
pub mod ReadBack
