-- Changes of rows of stored nodes.
use Rattle.std.specs.Prelude.{ℕ, zero, suc, ◌+◌, ◌-◌, ◌==◌, List, [], ◌∷◌, Bool, nat_lt, if◌then◌else◌}
use Rattle.std.specs.Option.{option_map_or}
use Rattle.yspec.specs.Forest.{end, node}
use Rattle.yspec.specs.document.Document as document
use Rattle.yspec.specs.document.Document.{Tree, Step}
use Rattle.yspec.specs.edit.Edit.{instance_index}
use Rattle.yspec.specs.edit.Editing.{Branch, with_branch, with_instead, without, instance_branch, goes_before, with_branch_behind}
use Rattle.yinst_tree.specs.View.{view}
use Rattle.yinst_tree.specs.declared.tree.Stored.{Stored}
use Rattle.yinst.specs.Locating.{spot_view}
use Rattle.yinst.specs.declared.rows.Change.{Change}
use Rattle.yinst.specs.declared.rows.Change.TheVariants.{Add, Put, TakeAway, Move}

abbrev pub number_of : Stored → ℕ
number_of s = (view s).0.schema_number

abbrev pub has_number : ℕ → Stored → Bool
has_number number s = number_of s == number

abbrev pub is_behind : ℕ → Stored → Bool
is_behind number s = nat_lt number (number_of s)

abbrev pub branch_view : Stored → Branch
branch_view s = record { label = (view s).0; below = (view s).1 }

-- the index in a row of the instance of a schema node that has an index among those of that node, or the row's length
abbrev pub nth_index : ℕ → ℕ → List Stored → ℕ
nth_index number place [] = 0
nth_index number zero (s ∷ ss) = if has_number number s then 0 else 1 + nth_index number zero ss
nth_index number (suc place) (s ∷ ss) =
    1 + (if has_number number s then nth_index number place ss else nth_index number (suc place) ss)

-- a row with its first node changed, given what stands below and after it
abbrev pub change_first : (document.Stored → Tree → Tree → Tree) → Tree → Tree
change_first change end = end
change_first change (node s below after) = change s below after

abbrev pub behind_first : Tree → Tree
behind_first end = end
behind_first (node s below after) = after

-- the index in a row behind so many of a schema node, or all of them
abbrev pub index_among : ℕ → ℕ → List Stored → ℕ
index_among number count [] = 0
index_among number count (s ∷ ss) = if goes_before number count (view s).0 then 0
    else 1 + index_among number (if has_number number s then count - 1 else count) ss

-- with the node that a step means taken out, and put in behind so many of its number
abbrev pub with_moved : Step → ℕ → Tree → Tree
with_moved step count row = option_map_or (λ b. with_branch_behind b count (without step row))
    (instance_branch step.schema_number (instance_index step) row) row

-- what a change makes of a row
abbrev pub change_view : Change → Tree → Tree
change_view (Add s) row = with_branch (branch_view s) row
change_view (Put spot s) row = with_instead (spot_view spot) (branch_view s) row
change_view (TakeAway spot) row = without (spot_view spot) row
change_view (Move spot count) row = with_moved (spot_view spot) count row
