-- Patterns put together as trees of the engine: by the same walk, with the engine's forms.
use Rattle.std.specs.Prelude.{ℕ, zero, suc, ◌+◌, ◌==◌, true, List, [], ◌∷◌, Option, Some, None, option_map, if◌then◌else◌, ⊤}
use Rattle.regex_class.specs.Ranges.{Range}
use Rattle.regex_hir.specs.Re.{Re, char_in}
use Rattle.regex_hir.specs.Meaning.{cat_all, alt_all, repeat}
use Rattle.yspec_patterns.specs.Sets.{Set}
use Rattle.yspec_patterns.specs.Pattern.{Pattern}
use Rattle.yspec_patterns.specs.Reading.{Building}
use Rattle.ytype_patterns.specs.Means.{Means}

-- ranges that rise from behind a number, and that number
abbrev pub extended : ℕ → List Range → List Range
extended low [] = (low, low) ∷ []
extended low (r ∷ rs) = if r.0 == low + 1 then (low, r.1) ∷ rs else (low, low) ∷ r ∷ rs

-- of so many numbers from one on
unfoldable pub ranges_within : Set → ℕ → ℕ → List Range
ranges_within set low zero = []
ranges_within set low (suc n) = if set low then extended low (ranges_within set (low + 1) n) else ranges_within set (low + 1) n

-- the one row of ranges that rise with gaps and hold the characters of a set
unfoldable pub ranges_of : Set → List Range
ranges_of set = ranges_within set 0 0x11_0000

abbrev pub engine : Building Set Re
engine = record {
  single = λ set. char_in (ranges_of set);
  sequence = cat_all;
  choice = alt_all;
  times = λ t re. repeat t.0 (option_map (λ more. t.0 + more) t.1) true re;
}

-- both are none, or the one means the other
abbrev pub Meets : Option Re → Option Pattern → Type 0
Meets (Some re) (Some p) = Means re p
Meets None None = ⊤
Meets (Some re) None = ⊥
Meets None (Some p) = ⊥
