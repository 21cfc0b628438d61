-- Edits of documents, and the live document.
pub mod Edit
pub mod EditText
pub mod Editing
pub mod Live
pub mod Examples
