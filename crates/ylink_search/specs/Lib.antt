pub mod WantedView
