-- A sink for tests as contracts see it.
use Rattle.std.specs.Prelude.{◌≡◌, ℕ, ◌+◌, ◌-◌, ◌^◌, min, List, length, Option}
use Rattle.ybase_output.specs.declared.sink.Cut.{Cut}

-- how many bytes it takes a call
abbrev pub bytes_per_call : Cut → ℕ
bytes_per_call c = c.bytes_per_call

-- which of its calls fails, counted from 1
abbrev pub failing_call : Cut → Option ℕ
failing_call c = c.failing_call

-- how many bytes it still has room for
abbrev pub room : Cut → ℕ
room c = c.room

-- how many calls it got, up to the largest number
abbrev pub calls : Cut → ℕ
calls c = c.calls

abbrev pub next_call : Cut → ℕ
next_call c = min (calls c + 1) (2 ^ 64 - 1)

-- how much of a part is taken at once
abbrev pub share : Cut → List ℕ → ℕ
share c part = min (length part) (min (bytes_per_call c) (room c))

-- what stays as it was
pub record KeepsWay (before after : Cut) : Type 0 where
  pub bytes_per_call : bytes_per_call after ≡ bytes_per_call before
  pub failing_call : failing_call after ≡ failing_call before
