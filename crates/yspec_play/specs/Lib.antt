pub mod Absences
pub mod Merging
pub mod Worked
pub mod Over
