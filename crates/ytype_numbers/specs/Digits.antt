-- How many digits a decimal64 may have after its point.
use Rattle.std.specs.Prelude.{◌≡◌, ℕ, ◌≤◌, Option, Some, None}

-- 1 to 18 are such numbers, and no others
abbrev pub IsDigits : Option ℕ → ℕ → Type 0
IsDigits (Some d) n = (1 ≤ n) × (n ≤ 18) × (d ≡ n)
IsDigits None n = ¬ ((1 ≤ n) × (n ≤ 18))
