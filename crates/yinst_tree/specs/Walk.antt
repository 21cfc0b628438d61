-- What one walk over a row of schema nodes and the row that is stored under it puts in. Siblings stand in the order of
-- their schema nodes' numbers, so that each node finds its instances at the front of what is left.
use Rattle.std.specs.Prelude.{ℕ, ◌==◌, not, nat_le, Bool, List, [], ◌∷◌, Option, Some, if◌then◌else◌}
use Rattle.serde_json.specs.Data.{Members, no_members}
use Rattle.yspec.specs.Forest.{Forest, end, node}
use Rattle.yspec.specs.schema.Schema.{Schema, SchemaNode, is_data, written_name}
use Rattle.yspec.specs.document.Document.{Tree}
use Rattle.yspec.specs.document.Sorting.{from_number}
use Rattle.yspec.specs.document.Writing.{with_instances}
use Rattle.yinst_tree.specs.View.{view}
use Rattle.yinst_tree.specs.declared.tree.Stored.{Stored}

-- ---- instances

-- the instances of a schema node with which a row begins, and the nodes behind them
abbrev pub front : ℕ → Tree → Tree
front number end = end
front number (node s below after) = if s.schema_number == number then node s below (front number after) else end

abbrev pub behind : ℕ → Tree → Tree
behind number end = end
behind number (node s below after) = if s.schema_number == number then behind number after else node s below after

-- those in what is left of a row, and what is left behind them
abbrev pub mine : ℕ → Tree → Tree
mine number rest = front number (from_number number rest)

abbrev pub others : ℕ → Tree → Tree
others number rest = behind number (from_number number rest)

-- ---- the same as the nodes lie

abbrev pub is_not_before : ℕ → Stored → Bool
is_not_before number s = nat_le number (view s).0.schema_number

abbrev pub is_other : ℕ → Stored → Bool
is_other number s = not ((view s).0.schema_number == number)

-- those before the first that passes a test, and those from it on
abbrev pub before_first : (Stored → Bool) → List Stored → List Stored
before_first test [] = []
before_first test (s ∷ ss) = if test s then [] else s ∷ before_first test ss

abbrev pub from_first : (Stored → Bool) → List Stored → List Stored
from_first test [] = []
from_first test (s ∷ ss) = if test s then s ∷ ss else from_first test ss

-- ---- members

-- the members so far, and what is left of the stored row
abbrev pub Left : Type 0
Left = Members × Tree

-- both behind a row of schema nodes below a parent of a module
unfoldable pub walked : Schema → Option ℕ → Forest SchemaNode → Left → Left
walked schema parent end left = left
walked schema parent (node n below after) left = walked schema parent after (if is_data n.kind
    then (
      with_instances (written_name schema parent n) n.kind (λ inner. (walked schema (Some n.module_number) below (no_members, inner)).0)
          (mine n.number left.1) left.0,
      others n.number left.1,
    )
    else walked schema parent below left)

-- the members of a stored row alone
abbrev pub members_in : Schema → Option ℕ → Forest SchemaNode → Tree → Members
members_in schema parent children row = (walked schema parent children (no_members, row)).0
