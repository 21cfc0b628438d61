pub mod NodeLemmas
pub mod LeastLemmas
pub mod NumberLemmas
pub mod MemberLemmas
pub mod AmongLemmas
