pub mod Forms
pub mod Counts
pub mod Said
pub mod View
