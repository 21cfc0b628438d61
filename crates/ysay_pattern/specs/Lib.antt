pub mod Stop
pub mod Said
pub mod ReaderView
pub mod Samples
