mod ListLemmas
mod KeyLemmas
mod CountLemmas
mod CarryLemmas
mod IndexLemmas
mod ComparingLemmas
mod TurningLemmas
