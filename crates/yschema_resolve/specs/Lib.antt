pub mod Values
pub mod TuplesView
pub mod ResolvedView
pub mod Guarding
pub mod Standing
pub mod UnfitKeys
pub mod Placing
