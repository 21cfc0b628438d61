pub mod SavingLemmas
pub mod TalkingLemmas
