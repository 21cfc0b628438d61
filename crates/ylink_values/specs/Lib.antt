pub mod KeptView
pub mod KindView
