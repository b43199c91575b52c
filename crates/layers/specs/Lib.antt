pub mod Layers
pub mod Piles
pub mod Splitting
pub mod Agreeing
