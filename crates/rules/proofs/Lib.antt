pub mod Obligations
