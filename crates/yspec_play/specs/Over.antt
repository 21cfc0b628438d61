-- The child of a row of schema nodes that a node is, or below which it stands; and what is in play of it.
use Rattle.std.specs.Prelude.{◌≡◌, ℕ, suc, ◌+◌, ◌==◌, ◌||◌, Bool, true, nat_lt, List, [], ◌∷◌, ◌++◌, take, drop, is_some, Option, Some, None, option_map, if◌then◌else◌}
use Rattle.yspec.specs.Forest.{Forest, end, node}
use Rattle.yspec.specs.schema.Schema.{SchemaNode, node_in}
use Rattle.yspec_play.specs.Absences.{Absent, Default, told_at, used_at}

-- the node of that number, with what stands below it
abbrev pub child_over : Forest SchemaNode → ℕ → Option (SchemaNode × Forest SchemaNode)
child_over end number = None
child_over (node n below after) number =
    if n.number == number || is_some (node_in below number) then Some (n, below) else child_over after number

-- what is told of its nodes that aren't stored, and the defaults in use there; nothing where no child is over the node
abbrev pub told_over : (ℕ → ℕ) → Option (SchemaNode × Forest SchemaNode) → List Absent
told_over stored None = []
told_over stored (Some child) = told_at stored [] child.0 child.1

abbrev pub used_over : (ℕ → ℕ) → Option (SchemaNode × Forest SchemaNode) → List Default
used_over stored None = []
used_over stored (Some child) = used_at stored [] child.0 child.1

-- ---- in place of what was told of them

-- whether a number stands before that of a child
abbrev pub is_before : Option ℕ → ℕ → Bool
is_before None number = true
is_before (Some child) number = nat_lt number child

-- how many are told first of nodes before a child
abbrev pub told_before : Option ℕ → List Absent → ℕ
told_before child [] = 0
told_before child (a ∷ told) = if is_before child a.1 then suc (told_before child told) else 0

abbrev pub number_over : Option (SchemaNode × Forest SchemaNode) → Option ℕ
number_over = option_map (λ child. child.0.number)

-- what is told of a row, with something else in place of so many that are told from a child on
abbrev pub told_instead : Option ℕ → ℕ → List Absent → List Absent → List Absent
told_instead child count new told =
    take (told_before child told) told ++ (new ++ drop (told_before child told + count) told)

-- two lists are the same but for a part of each
pub record AlikeBut {X : Type 0} (old_part new_part old new : List X) : Type 0 where
  pub front : List X
  pub back : List X
  pub old_is : old ≡ front ++ (old_part ++ back)
  pub new_is : new ≡ front ++ (new_part ++ back)
