pub mod Circles
pub mod References
pub mod Conditions
pub mod Places
pub mod WayView
pub mod BarredView
pub mod KindView
pub mod Samples
