-- The command that opens a session.
pub mod Opening
pub mod Closing
