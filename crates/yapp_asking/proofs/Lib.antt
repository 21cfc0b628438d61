mod PlaceLemmas
mod FaultLemmas
mod ValueLemmas
