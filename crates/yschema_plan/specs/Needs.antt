-- Of each node whether one right below it must be stored, as nodes tell those above them, the last first, where some don't stand.
use Rattle.std.specs.Prelude.{ℕ, ◌+◌, ◌&&◌, ◌||◌, Bool, true, false, List, [], ◌∷◌, ◌++◌, Option, Some, None, get_or, slice_get, slice_set, unwrap_or, if◌then◌else◌}
use Rattle.yspec.specs.Forest.{Forest, end, node}
use Rattle.yspec.specs.linking.Planned.{Planned, Plan}
use Rattle.yspec.specs.linking.NodeBreaks.{must_be, row_below}
use Rattle.ybase_preorder.specs.Layout.{Place}

-- whether a node stands itself, where it is told by number; one of which nothing is told does
abbrev pub stands_in : List Bool → Planned → Bool
stands_in standing p = get_or standing p.number true

abbrev pub all_stand : Planned → Bool
all_stand p = true

-- what is told so far to the node of a number
abbrev pub is_told : List Bool → ℕ → Bool
is_told told number = unwrap_or (slice_get told number) false

abbrev pub told_above : Option ℕ → Bool → List Bool → List Bool
told_above None b told = told
told_above (Some above) b told = if b then slice_set told above true else told

module _ (stands : Planned → Bool) where
  -- whether a node stands and must be stored where the one above it is, given whether one right below it must
  abbrev pub must_stand : Planned → Bool → Bool
  must_stand p inside = stands p && must_be p inside

  -- whether a row has such a node
  abbrev pub has_mandatory_by : Forest Planned → Bool
  has_mandatory_by end = false
  has_mandatory_by (node p below after) = must_stand p (has_mandatory_by below) || has_mandatory_by after

  abbrev pub is_needed_by : Plan → Planned → Bool
  is_needed_by plan p = must_stand p (has_mandatory_by (row_below plan p.number))

  -- of each node of a forest, in preorder
  abbrev pub needs_below : Forest Planned → List Bool
  needs_below end = []
  needs_below (node p below after) = has_mandatory_by below ∷ (needs_below below ++ needs_below after)

  -- the node of a number tells the one above it
  abbrev pub one_told : ℕ → Place Planned → List Bool → List Bool
  one_told number p told = told_above p.parent (must_stand p.label (is_told told number)) told

  -- so does each from a number on, the last first
  abbrev pub told_by : ℕ → List (Place Planned) → List Bool → List Bool
  told_by number [] told = told
  told_by number (p ∷ ps) told = one_told number p (told_by (number + 1) ps told)
