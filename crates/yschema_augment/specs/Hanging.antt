-- Rows that are hung below nodes of a forest, one after another.
use Rattle.std.specs.Prelude.{ℕ, suc, ◌+◌, ◌==◌, Bool, List, [], ◌∷◌, Option, Some, None, find, option_and_then, if◌then◌else◌}
use Rattle.yspec.specs.Forest.{Forest, end, node, size, row, join, relabelled, below_nth}
use Rattle.yspec.specs.linking.Parts.{Part}
use Rattle.yschema_expand.specs.NumberedView.{Numbered}
use Rattle.yspec.specs.linking.Prefixes.{NodeName}
use Rattle.yspec.specs.linking.Expansion.{is_step}

-- a row that comes last below the node of a number; which row may rest on the node
pub record Hung (L : Type 0) : Type 0 where
  pub target : ℕ
  pub row : Numbered L → Forest (Numbered L)

module _ {L : Type 0} where
  -- a forest with what each node is given behind the nodes below it
  abbrev pub given_by : (Numbered L → Forest (Numbered L)) → Forest (Numbered L) → Forest (Numbered L)
  given_by give end = end
  given_by give (node l below after) = node l (join (given_by give below) (give l)) (given_by give after)

  -- what a node is given, in what it is given the later ones being hung too
  abbrev pub hung_at : List (Hung L) → Numbered L → Forest (Numbered L)
  hung_at [] l = end
  hung_at (h ∷ later) l = if h.target == l.number
      then join (given_by (hung_at later) (h.row l)) (hung_at later l) else hung_at later l

  abbrev pub hung : List (Hung L) → Forest (Numbered L) → Forest (Numbered L)
  hung all f = given_by (hung_at all) f

  -- a forest with one row more
  abbrev pub put : Hung L → Forest (Numbered L) → Forest (Numbered L)
  put h end = end
  put h (node l below after) =
      node l (if h.target == l.number then join (put h below) (h.row l) else put h below) (put h after)

  -- how often a number stands in a forest
  abbrev pub times : ℕ → Forest (Numbered L) → ℕ
  times n end = 0
  times n (node l below after) = (if l.number == n then 1 else 0) + (times n below + times n after)

-- ---- parts with numbers

abbrev pub plain : Forest (Numbered Part) → Forest Part
plain f = relabelled (λ l. l.label) f

abbrev pub is_step_of : NodeName → Numbered Part → Bool
is_step_of name l = is_step name l.label

-- the node at a path: the first child of each name
abbrev pub label_at : List NodeName → Forest (Numbered Part) → Option (Numbered Part)
label_at [] f = None
label_at (step ∷ []) f = find (is_step_of step) (row f)
label_at (step ∷ next ∷ steps) f = option_and_then (label_at (next ∷ steps)) (below_nth (is_step_of step) 0 f)

-- parts numbered in preorder from a number on
abbrev pub numbered : ℕ → Forest Part → Forest (Numbered Part)
numbered next end = end
numbered next (node p below after) = node (record { number = next; label = p }) (numbered (next + 1) below)
    (numbered (next + suc (size below)) after)

-- what stands in the nodes of a row
abbrev pub inner : {L : Type 0} → Forest L → Forest L
inner end = end
inner (node l below after) = join below (inner after)

-- the nodes of a row, told by which augment they came
abbrev pub marked_by : ℕ → Forest (Numbered Part) → Forest (Numbered Part)
marked_by augment end = end
marked_by augment (node l below after) =
    node (record l { label = record l.label { added_by = Some augment } }) below (marked_by augment after)
