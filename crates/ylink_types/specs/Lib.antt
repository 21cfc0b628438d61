pub use Rattle.ylink_values.specs.KeptView
pub mod TypeView
pub mod TypedefView
pub mod DerivedView
pub mod IdentityView
