-- Texts with numbers, in the order of the texts.
use Rattle.std.specs.Prelude.{◌≡◌, ℕ, ◌+◌, ◌<◌, true, false, not, List, length, Some, slice_index_or}
use Rattle.std.specs.Borrow.{Bor}
use Rattle.std.specs.Cmp.Lexicographic.{slice_cmp}
use Rattle.std.specs.List.{list_all}
use Rattle.std.specs.Ordering.{is_lt, nat_cmp}
use Rattle.std.specs.declared.cmp.Ordering.{Ordering}
use Rattle.yspec.specs.text.Text.{Text}
use Rattle.ybase_index.specs.Names.{ascends, number_among}

-- a text with a number
abbrev pub Named : Type 0
Named = Bor Text × ℕ

abbrev pub compared : Text → Text → Ordering
compared = slice_cmp nat_cmp

-- each is the text of its number
abbrev pub AreOwn : (ℕ → Text) → List Named → Type 0
AreOwn text_at names = (k : ℕ) (d : Named) → k < length names → text_at (slice_index_or names k d).1 ≡ (slice_index_or names k d).0.now

-- each number is less than one
abbrev pub AreBelow : ℕ → List Named → Type 0
AreBelow n names = (k : ℕ) (d : Named) → k < length names → (slice_index_or names k d).1 < n

-- each number that is less than one is there
abbrev pub HaveAll : ℕ → List Named → Type 0
HaveAll n names = (number : ℕ) → number < n → (k : ℕ) × (k < length names) × ((d : Named) → (slice_index_or names k d).1 ≡ number)

-- no text comes after the next
abbrev pub Ascend : List Named → Type 0
Ascend names = (k : ℕ) (d : Named) → k + 1 < length names
    → is_lt (compared (slice_index_or names (k + 1) d).0.now (slice_index_or names k d).0.now) ≡ false

-- Names so far, none of which comes after a text that has a number.
abbrev pub Stands : (ℕ → Text) → List ℕ → Named → Type 0
Stands text_at ordered last = (ascends text_at ordered ≡ true)
    × (list_all (λ n. not (is_lt (compared last.0.now (text_at n)))) ordered ≡ true)
    × (number_among text_at ordered last.0.now ≡ Some last.1)
