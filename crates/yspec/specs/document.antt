-- Documents: reading, writing, what is in play, and faults.
pub mod FaultCode
pub mod Document
pub mod Path
pub mod Reading
pub mod Fitting
pub mod Writing
pub mod Fault
pub mod Play
pub mod Instances
pub mod Faults
pub mod StateData
pub mod RowFaults
pub mod Sorting
pub mod FrontFaults
