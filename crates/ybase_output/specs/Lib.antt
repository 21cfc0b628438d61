pub mod Cut
pub mod Sink
pub mod Writing
