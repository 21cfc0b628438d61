pub mod Added
pub mod Made
pub mod Phases
pub use Rattle.yschema_model.specs.View
