pub use Rattle.ytype_simple.specs.Identities
pub use Rattle.ytype_simple.specs.View
pub use Rattle.ytype_simple.specs.Patterns
pub mod Shapes
pub mod Refusals
pub mod Laws
