pub mod Terminal
pub mod Figures
