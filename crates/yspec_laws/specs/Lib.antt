-- The words of the laws.
pub mod Told
pub mod Stateless
pub mod Listed
