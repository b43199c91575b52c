pub mod Heads
pub mod Named
pub mod Filed
