pub mod CommandLemmas
pub mod HelpLemmas
