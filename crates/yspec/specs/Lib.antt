pub mod Results
pub mod Forest
pub mod document
pub mod edit
pub mod linking
pub mod schema
pub mod text
pub mod types
