-- What is done while nodes are put in their places, and how many tasks come of it.
use Rattle.std.specs.Prelude.{◌≡◌, ◌++◌, ◌<◌, ◌≤◌, ℕ, ◌+◌, List, [], ◌∷◌, length, drop, map, get_or, slice_get, Option, Some, None}
use Rattle.yspec.specs.Forest.{Forest, end, node}
use Rattle.yspec.specs.linking.Parts.{Part}
use Rattle.ybase_preorder.specs.Layout.{places, closed, laid}
use Rattle.ybase_preorder.specs.View.{row_by, label_by}
use Rattle.yschema_augment.specs.Hanging.{given_by, hung_at, inner, marked_by, plain}
use Rattle.yschema_expand.specs.NumberedView.{Numbered, with_number}
use Rattle.yschema_augment.specs.Arranging.{hung_view, rows_of}
use Rattle.yschema_expand.specs.TableView.{slots_of, parts_in}
use Rattle.yschema_expand.specs.Turns.{Leaves}
use Rattle.yschema_augment.specs.declared.applied.Applied.{Applied}
use Rattle.yschema_augment.specs.declared.arranging.Arrangement.{Arrangement}
use Rattle.yschema_augment.specs.declared.arranging.Spot.{Spot}
use Rattle.yschema_augment.specs.declared.arranging.Task.{Task}
use Rattle.yschema_augment.specs.declared.arranging.Task.TheVariants.{Row, Inner, Hang, Close}
use Rattle.yschema_augment.specs.declared.places.Places.{Places}
use Rattle.yschema_expand.specs.declared.table.NodeTable.{NodeTable}

-- ---- the places of a target

-- no augment from a place up to another adds below the node of a number
abbrev pub Others : List Applied → ℕ → ℕ → ℕ → Type 0
Others order target from past = (place : ℕ) (a : Applied) → from ≤ place → place < past → slice_get order place ≡ Some a → a.target ≡ target → ⊥

-- the first place of each target is known, of those from a place on, and the next one of each
pub record FindsFrom (first next : List ℕ) (order : List Applied) (from : ℕ) : Type 0 where
  pub first_is : (target : ℕ) → Others order target from (get_or first target 0)
  pub next_is : (place : ℕ) (a : Applied) → from ≤ place → slice_get order place ≡ Some a → Others order a.target (place + 1) (get_or next place 0)

abbrev pub Finds : Places → List Applied → Type 0
Finds t order = FindsFrom t.first.items t.next.items order 0

-- ---- what is done

-- what the augments from a place on give a node
abbrev pub given : Arrangement → ℕ → Numbered Part → Forest (Numbered Part)
given x from l = hung_at (map (hung_view x.starts.now (slots_of x.nodes.now) x.numbers.now) (drop from x.order.now)) l

abbrev pub marked : Option ℕ → Forest (Numbered Part) → Forest (Numbered Part)
marked None f = f
marked (Some number) f = marked_by number f

abbrev pub Adds : Option ℕ → Forest (Numbered Part) → NodeTable → NodeTable → Type 0
Adds parent f old new = parts_in new ≡ parts_in old ++ places parent (length (slots_of old)) (plain f)

abbrev pub Copies : Arrangement → Spot → Forest (Numbered Part) → NodeTable → NodeTable → Type 0
Copies x spot f = Adds spot.parent (given_by (given x spot.from) (marked spot.added_by f))

abbrev pub Does : Arrangement → Task → NodeTable → NodeTable → Type 0
Does x (Row spot nodes) old new = Copies x spot (row_by with_number nodes) old new
Does x (Inner spot nodes) old new = Copies x spot (inner (row_by with_number nodes)) old new
Does x (Hang parent original place) old new = Adds parent (given x place (label_by with_number original)) old new
Does x (Close number) old new = laid (slots_of new) ≡ closed number (laid (slots_of old))

-- ---- how many tasks come of it

-- of a row, given how many come of what a node is given
abbrev pub steps : ℕ → Forest (Numbered Part) → ℕ
steps more end = 0
steps more (node l below after) = 4 + (more + (steps more below + steps more after))

abbrev pub steps_in : (Applied → Forest (Numbered Part)) → List Applied → ℕ
steps_in rows [] = 0
steps_in rows (a ∷ later) = 2 + (steps (steps_in rows later) (rows a) + steps_in rows later)

-- of what the augments from a place on give a node
abbrev pub steps_from : Arrangement → ℕ → ℕ
steps_from x from = steps_in (λ a. rows_of x.starts.now (slots_of x.nodes.now) a.augment) (drop from x.order.now)

abbrev pub toll : Arrangement → Task → ℕ
toll x (Row spot nodes) = steps (steps_from x spot.from) (row_by with_number nodes)
toll x (Inner spot nodes) = steps (steps_from x spot.from) (row_by with_number nodes)
toll x (Hang parent original place) = steps_from x place
toll x (Close number) = 0

abbrev pub Always : Task → Type 0
Always t = Unit {0}

-- what a step leaves behind
abbrev pub Leads : Arrangement → (NodeTable → NodeTable → Type 0) → ℕ → List Task → List Task → NodeTable → NodeTable → Type 0
Leads x = Leaves (Does x) (toll x) Always
