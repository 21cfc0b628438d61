pub mod Applying
pub mod Binding
pub mod EditView
