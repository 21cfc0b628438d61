-- What writing to a sink comes to.
use Rattle.std.specs.Prelude.{◌≡◌, ℕ, ◌+◌, List, Option, Result, Ok, Err, take}
use Rattle.ybase_output.specs.Sink.{followed_by}

-- a side, as its sink tells of it: the bytes that it has taken, where it tells them, and how many of its calls failed
pub record Side : Type 0 where
  pub taken : Option (List ℕ)
  pub failures : ℕ

abbrev pub side : {S : Type 0} → (S → Option (List ℕ)) → (S → ℕ) → S → Side
side taken failures s = record { taken = taken s; failures = failures s }

-- these bytes were taken, and no call failed
pub record Wrote (before after : Side) (bytes : List ℕ) : Type 0 where
  pub taken : after.taken ≡ followed_by before.taken bytes
  pub failures : after.failures ≡ before.failures

-- a beginning of these bytes was taken, and then one call failed
pub record Broke (before after : Side) (bytes : List ℕ) : Type 0 where
  pub count : ℕ
  pub taken : after.taken ≡ followed_by before.taken (take count bytes)
  pub failures : after.failures ≡ before.failures + 1

abbrev pub Writes : {X E : Type 0} → Side → Side → List ℕ → Result X E → Type 0
Writes before after bytes (Ok x) = Wrote before after bytes
Writes before after bytes (Err e) = Broke before after bytes
