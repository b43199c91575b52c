pub mod Granting
pub mod Dealt
pub mod Turns
pub mod Facing
pub mod Voided
