pub mod AskingView
pub mod ChosenView
pub mod ConditionView
pub mod StandingView
