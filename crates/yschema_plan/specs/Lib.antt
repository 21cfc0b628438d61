pub mod PlannedView
pub mod OwnView
pub mod Finding
pub mod PlanView
pub mod NodesView
pub mod Planning
pub mod Needs
