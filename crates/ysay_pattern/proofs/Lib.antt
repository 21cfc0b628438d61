pub mod StopLemmas
