pub mod Walk
pub mod Said
pub mod WalkView
