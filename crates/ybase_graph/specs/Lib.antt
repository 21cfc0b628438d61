pub mod Reaching
pub mod Search
pub mod Edges
pub mod Derivation
pub mod Derivations
pub mod DerivationSamples
