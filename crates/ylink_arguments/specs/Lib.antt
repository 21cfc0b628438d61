pub mod Cut
pub mod NameView
