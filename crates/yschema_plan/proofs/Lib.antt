pub mod PartLemmas
pub mod OwnLemmas
pub mod PlanLemmas
pub mod NeedLemmas
pub mod FactLemmas
pub mod NodeLemmas
pub mod FindLemmas
