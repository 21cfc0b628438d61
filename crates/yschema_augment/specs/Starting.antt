-- What is found before any augment is applied: the first child of a name among all nodes as they lie.
use Rattle.std.specs.Prelude.{ℕ, ◌+◌, ◌&&◌, ◌||◌, Bool, List, [], ◌∷◌, Option, Some, None, is_some, nat_lt, if◌then◌else◌}
use Rattle.yspec.specs.Forest.{first_of}
use Rattle.yspec.specs.linking.Parts.{Part}
use Rattle.yspec.specs.linking.Prefixes.{NodeName}
use Rattle.yspec.specs.linking.Expansion.{is_step}
use Rattle.yspec.specs.linking.Planned.{same_number}
use Rattle.ybase_preorder.specs.Layout.{Place}

-- A node is a child of the one above it. At the top only those before a number are: what augments add isn't there yet.
abbrev pub is_child : ℕ → Option ℕ → ℕ → Option ℕ → Bool
is_child first above number parent = same_number above parent && (nat_lt number first || is_some parent)

-- the number of the first child of a name, among places counted from a number on
abbrev pub first_child : ℕ → Option ℕ → NodeName → ℕ → List (Place Part) → Option ℕ
first_child first above name number [] = None
first_child first above name number (p ∷ ps) = first_of
    (if is_child first above number p.parent && is_step name p.label then Some number else None)
    (first_child first above name (number + 1) ps)
