pub mod RunningLemmas
pub mod ContentsLemmas
pub mod DocumentLemmas
pub mod NotedLemmas
mod SessionLemmas
mod SearchedLemmas
