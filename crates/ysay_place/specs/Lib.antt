pub mod Places
pub mod Instances
pub mod KeyedPath
pub mod Targets
