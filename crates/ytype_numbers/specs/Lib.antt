pub mod Covering
pub mod Digits
pub mod Positions
pub mod Sets
pub mod Tables
pub mod View
pub mod Words
