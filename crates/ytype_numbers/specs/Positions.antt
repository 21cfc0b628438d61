-- Sets of positions.
use Rattle.std.specs.Prelude.{ℤ, Bool}
use Rattle.std.specs.Ordering.{int_cmp}
use Rattle.std.specs.BTreeSet.{BTreeSet, contains}

abbrev pub holds_position : BTreeSet ℤ → ℤ → Bool
holds_position set z = contains int_cmp set z
