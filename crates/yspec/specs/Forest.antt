-- Rows of trees, as one plain recursive type: nothing, or a first label with the forest below it and the forest after
-- it. Statements, schema nodes and stored nodes are three such forests.
use Rattle.std.specs.Prelude.{ℕ, zero, suc, ◌+◌, List, [], ◌∷◌, ◌++◌, Bool, if◌then◌else◌, Option, Some, None, option_and_then, max, ◌≡◌}

pub data Forest (L : Type 0) : Type 0 where
  end : Forest L
  node : L → Forest L → Forest L → Forest L

module _ {L : Type 0} where
  -- how many labels there are
  abbrev pub size : Forest L → ℕ
  size end = 0
  size (node l below after) = suc (size below + size after)

  -- how many labels stand on the longest way down
  abbrev pub levels : Forest L → ℕ
  levels end = 0
  levels (node l below after) = max (suc (levels below)) (levels after)

  -- the labels of the row itself, and all labels in preorder
  abbrev pub row : Forest L → List L
  row end = []
  row (node l below after) = l ∷ row after

  abbrev pub preorder : Forest L → List L
  preorder end = []
  preorder (node l below after) = l ∷ (preorder below ++ preorder after)

  -- one row after another
  abbrev pub join : Forest L → Forest L → Forest L
  join end others = others
  join (node l below after) others = node l below (join after others)

  -- the sum of what each label weighs
  abbrev pub weigh : (L → ℕ) → Forest L → ℕ
  weigh weight end = 0
  weigh weight (node l below after) = weight l + (weigh weight below + weigh weight after)

  -- the sum of what each label weighs with the forest below it
  abbrev pub weigh_nodes : (L → Forest L → ℕ) → Forest L → ℕ
  weigh_nodes weight end = 0
  weigh_nodes weight (node l below after) = weight l below + (weigh_nodes weight below + weigh_nodes weight after)

  -- the same of the labels of the row itself
  abbrev pub weigh_row : (L → Forest L → ℕ) → Forest L → ℕ
  weigh_row weight end = 0
  weigh_row weight (node l below after) = weight l below + weigh_row weight after

  abbrev pub first_of : Option L → Option L → Option L
  first_of (Some l) other = Some l
  first_of None other = other

  -- the first label in preorder that passes a test, and what stands below it
  abbrev pub find_label : (L → Bool) → Forest L → Option L
  find_label test end = None
  find_label test (node l below after) =
      if test l then Some l else first_of (find_label test below) (find_label test after)

  abbrev pub joined_below : Option (Forest L) → Option (Forest L) → Option (Forest L)
  joined_below (Some f) other = Some f
  joined_below None other = other

  abbrev pub find_below : (L → Bool) → Forest L → Option (Forest L)
  find_below test end = None
  find_below test (node l below after) =
      if test l then Some below else joined_below (find_below test below) (find_below test after)

  -- ---- changes

  -- the row with one node changed, given what stands below and after it: that of an index, from 0, among those that pass a
  -- test
  abbrev pub change_nth : (L → Bool) → ℕ → (L → Forest L → Forest L → Forest L) → Forest L → Forest L
  change_nth test place change end = end
  change_nth test zero change (node l below after) =
      if test l then change l below after else node l below (change_nth test zero change after)
  change_nth test (suc place) change (node l below after) = if test l
      then node l below (change_nth test place change after) else node l below (change_nth test (suc place) change after)

  -- the row with what stands below that node changed
  abbrev pub change_below : (L → Bool) → ℕ → (Forest L → Forest L) → Forest L → Forest L
  change_below test place change f = change_nth test place (λ l below after. node l (change below) after) f

  -- the forest with the row changed to which steps lead, each to the node at a place among those that pass its test; no
  -- steps lead to the top row
  abbrev pub edit_at : List ((L → Bool) × ℕ) → (Forest L → Forest L) → Forest L → Forest L
  edit_at [] change f = change f
  edit_at ((test, place) ∷ steps) change f = change_below test place (edit_at steps change) f

  -- the row below that node, and the row to which steps lead, where they lead to one
  abbrev pub below_nth : (L → Bool) → ℕ → Forest L → Option (Forest L)
  below_nth test place end = None
  below_nth test zero (node l below after) = if test l then Some below else below_nth test zero after
  below_nth test (suc place) (node l below after) =
      if test l then below_nth test place after else below_nth test (suc place) after

  abbrev pub row_to : List ((L → Bool) × ℕ) → Forest L → Option (Forest L)
  row_to [] f = Some f
  row_to ((test, place) ∷ steps) f = option_and_then (row_to steps) (below_nth test place f)

module _ {L M : Type 0} where
  abbrev pub relabelled : (L → M) → Forest L → Forest M
  relabelled label end = end
  relabelled label (node l below after) = node (label l) (relabelled label below) (relabelled label after)

-- ---- sums that a change leaves as they were but for one row and the node above it

-- a weight that depends on a node's label and on the labels below it
abbrev pub IsLocal : {L : Type 0} → (L → Forest L → ℕ) → Type 0
IsLocal weight = (l : _) (f g : Forest _) → row f ≡ row g → weight l f ≡ weight l g

-- a row, and the weight of the node above it as a function of the row
pub record Place (L : Type 0) : Type 0 where
  pub top : Forest L → ℕ
  pub below : Forest L

module _ {L : Type 0} where
  -- the weight of a row with that of the node above it
  abbrev pub total : (Forest L → ℕ) → (L → Forest L → ℕ) → Forest L → ℕ
  total top weight f = top f + weigh_nodes weight f

  abbrev pub place_in : (L → Forest L → ℕ) → (L → Bool) → ℕ → Forest L → Option (Place L)
  place_in weight test place end = None
  place_in weight test zero (node l below after) =
      if test l then Some (record { top = weight l; below = below }) else place_in weight test zero after
  place_in weight test (suc place) (node l below after) =
      if test l then place_in weight test place after else place_in weight test (suc place) after

  -- the place to which steps lead, below a node whose weight is given
  abbrev pub place_at : (L → Forest L → ℕ) → (Forest L → ℕ) → List ((L → Bool) × ℕ) → Forest L → Option (Place L)
  place_at weight top [] f = Some (record { top = top; below = f })
  place_at weight top ((test, place) ∷ steps) f =
      option_and_then (λ p. place_at weight p.top steps p.below) (place_in weight test place f)
