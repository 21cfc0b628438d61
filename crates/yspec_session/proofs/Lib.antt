pub mod SessionLemmas
pub mod RememberingLemmas
