pub mod FaultData
pub mod RefusalData
pub mod RefusalView
