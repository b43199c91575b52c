pub mod Exchanges
pub mod Dealing
pub mod Meetings
pub mod Enterings
pub mod Closings
