pub mod Tiers
pub mod Order
