-- Types, the values that they take, and restrictions.
pub mod Ranges
pub mod Numerals
pub mod Names
pub mod Identities
pub mod Octets
pub mod Types
pub mod Restriction
pub mod Values
pub mod TypeExamples
pub mod OctetExamples
pub mod Order
