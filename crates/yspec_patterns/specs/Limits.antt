-- What is too large to be read as a pattern.
use Rattle.std.specs.Prelude.{ℕ, Option, Some, None, nat_le, if◌then◌else◌}

-- how often something may be repeated, and how large a pattern may be
abbrev pub largest : ℕ
largest = 500_000

-- how many groups may stand in one another
abbrev pub deepest : ℕ
deepest = 200

-- a number that isn't above the largest
abbrev pub bounded : ℕ → Option ℕ
bounded n = if nat_le n largest then Some n else None
