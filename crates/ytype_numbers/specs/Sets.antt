-- Sets of words.
use Rattle.std.specs.Prelude.{◌≡◌, Bool, true, false, List, Option, Some, None}
use Rattle.std.specs.Borrow.{Bor}
use Rattle.std.specs.Ordering.{nat_cmp}
use Rattle.std.specs.Cmp.Lexicographic.{slice_cmp}
use Rattle.std.specs.BTreeSet.{BTreeSet, contains_by}
use Rattle.yspec.specs.text.Text.{Text}
use Rattle.yspec.specs.types.Names.{is_among, has_twice}

abbrev pub holds_word : BTreeSet (Bor Text) → Text → Bool
holds_word set text = contains_by (λ k. slice_cmp nat_cmp text k.now) set

-- a set has some words, and no others
abbrev pub HoldsWords : BTreeSet (Bor Text) → List Text → Type 0
HoldsWords set words = (text : Text) → holds_word set text ≡ is_among words text

-- a set of words, where none comes twice
abbrev pub IsSetOf : Option (BTreeSet (Bor Text)) → List Text → Type 0
IsSetOf None words = has_twice words ≡ true
IsSetOf (Some set) words = (has_twice words ≡ false) × HoldsWords set words
