pub mod Cut
pub mod Digits
pub mod Quotes
pub mod Choices
