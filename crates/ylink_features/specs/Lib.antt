pub mod AskedView
pub mod ConditionView
pub mod FeatureView
pub mod VersionView
