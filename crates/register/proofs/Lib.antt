pub mod Sums
pub mod Accounts
pub mod Grants
pub mod Totals
pub mod Proved
pub mod Chains
