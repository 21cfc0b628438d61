pub mod NodeLemmas
pub mod MemberLemmas
