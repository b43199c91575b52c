pub mod Growing
pub mod Lending
