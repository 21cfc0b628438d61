-- What a walk over the faults of a store has still to give.
use Rattle.std.specs.Prelude.{◌≡◌, ℕ, zero, suc, ◌+◌, ◌<◌, ◌==◌, ◌++◌, true, false, nat_lt, List, [], ◌∷◌, map, drop, Option, Some, None, option_map, if◌then◌else◌}
use Rattle.std.specs.List.{sum_by}
use Rattle.std.specs.Option.{option_map_or}
use Rattle.yspec.specs.schema.Breaks.{level_limit}
use Rattle.yspec.specs.schema.Schema.{Schema}
use Rattle.yspec.specs.document.Document.{Step}
use Rattle.yspec.specs.document.Fault.{Fault}
use Rattle.yspec.specs.document.Faults.{Told, under}
use Rattle.yschema_model.specs.View as schema_view
use Rattle.yschema_model.specs.declared.node.SchemaId.{SchemaId}
use Rattle.ycheck.specs.Walk.{marks_told}
use Rattle.ycheck.specs.declared.fault.FaultCode.{FaultCode}
use Rattle.yspec_play.specs.Merging.{absence_fault, merged_behind, step_of}
use Rattle.ystore_rows.specs.Rows.{Child}
use Rattle.ystore.specs.Store.{children_at, play_at, same_at, total_at}
use Rattle.ystore.specs.Viewed.{viewed}
use Rattle.ystore.specs.declared.nodes.Nodes.{Nodes}
use Rattle.ystore_rows.specs.declared.row.Row.{Row}
use Rattle.ystore_rows.specs.declared.row.Row.TheVariants.{Top, Below}
use Rattle.ylive_list.specs.Listed.{absence_of, absences_of, child_told, children_told, is_item, judged_at, judged_told, row_told, told_below}
use Rattle.ylive_list.specs.Seen.{seen_view}
use Rattle.ylive_list.specs.declared.node_left.NodeLeft.{NodeLeft}
use Rattle.ylive_list.specs.declared.row_left.Piece.{Piece}
use Rattle.ylive_list.specs.declared.row_left.Piece.TheVariants as pieces
use Rattle.ylive_list.specs.declared.row_left.RowLeft.{RowLeft}
use Rattle.ylive_list.specs.declared.walk.Turn.{Turn}
use Rattle.ylive_list.specs.declared.walk.Turn.TheVariants as turns
use Rattle.ylive_list.specs.declared.walk.Walk.{Walk}

-- ---- at a node

-- of others that have the same, from one question on
abbrev pub marks_left : Schema → Nodes → Child → ℕ → List Fault
marks_left schema nodes child which =
    marks_told (is_item schema child.0.0) which (drop which (same_at nodes child.1))

-- of its value, and of others that have the same
abbrev pub own_left : Schema → Nodes → NodeLeft → List Fault
own_left schema nodes n = (if n.is_judged then [] else option_map_or judged_told (judged_at nodes n.child.1) [])
    ++ marks_left schema nodes n.child n.which

-- and in the row below it, down to so many levels
abbrev pub node_left : ℕ → Schema → Nodes → NodeLeft → List Fault
node_left levels schema nodes n =
    own_left schema nodes n ++ row_told levels schema nodes (Some n.child.0.0) (Below n.child.1)

-- ---- in a row

-- below a node, or at the top
abbrev pub row_of : Option Child → Row
row_of None = Top
row_of (Some child) = Below child.1

abbrev pub number_above : Option Child → Option ℕ
number_above above = option_map (λ c. c.0.0) above

abbrev pub play_left : Nodes → RowLeft → List (FaultCode × SchemaId)
play_left nodes r = drop r.told (play_at nodes (row_of r.above))

abbrev pub children_left : Nodes → RowLeft → List Child
children_left nodes r = drop r.passed (children_at nodes (row_of r.above))

-- of its children that are left, down to so many levels
abbrev pub below_left : ℕ → Schema → Nodes → RowLeft → List Told
below_left zero schema nodes r = []
below_left (suc levels) schema nodes r = children_told levels schema nodes (children_left nodes r)

-- merged with what is left to tell of nodes that aren't stored
abbrev pub row_left : ℕ → Schema → Nodes → RowLeft → List Fault
row_left levels schema nodes r = merged_behind schema (number_above r.above) r.last.0 r.position
    (absences_of (play_left nodes r)) (below_left levels schema nodes r)

-- the step to the child that was passed last
abbrev pub step_in : Schema → RowLeft → Step
step_in schema r = step_of schema r.last.0 r.position

-- ---- on the way down

-- Each row stands below the child that was passed last in the one before it, and so does the node at hand.
abbrev pub left_in : ℕ → Schema → Nodes → Option NodeLeft → List RowLeft → List Fault
left_in levels schema nodes n [] = option_map_or (node_left levels schema nodes) n []
left_in zero schema nodes n (r ∷ rows) = row_left zero schema nodes r
left_in (suc levels) schema nodes n (r ∷ rows) =
    map (under (step_in schema r)) (left_in levels schema nodes n rows) ++ row_left (suc levels) schema nodes r

-- with this node at hand
abbrev pub left_at : Walk → Option NodeLeft → List Fault
left_at w n = left_in level_limit (schema_view.view w.schema.now) (viewed w.view) n w.rows.items

abbrev pub left : Walk → List Fault
left w = left_at w w.node

-- ---- how often it goes on, if it gives no fault meanwhile

-- at some children and below them, down to so many levels
abbrev pub visits : ℕ → Nodes → List Child → ℕ
visits zero nodes children = sum_by (λ c. 3) children
visits (suc levels) nodes children = sum_by (λ c. 3 + visits levels nodes (children_at nodes (Below c.1))) children

abbrev pub visits_below : ℕ → Nodes → Row → ℕ
visits_below zero nodes row = 0
visits_below (suc levels) nodes row = visits levels nodes (children_at nodes row)

abbrev pub visits_left : ℕ → Nodes → RowLeft → ℕ
visits_left zero nodes r = 1
visits_left (suc levels) nodes r = 1 + visits levels nodes (children_left nodes r)

abbrev pub visits_in : ℕ → Nodes → Option NodeLeft → List RowLeft → ℕ
visits_in levels nodes n [] = option_map_or (λ m. 2 + visits_below levels nodes (Below m.child.1)) n 0
visits_in zero nodes n (r ∷ rows) = visits_left zero nodes r
visits_in (suc levels) nodes n (r ∷ rows) = visits_left (suc levels) nodes r + visits_in levels nodes n rows

abbrev pub visits_at : Walk → Option NodeLeft → ℕ
visits_at w n = visits_in level_limit (viewed w.view) n w.rows.items

-- ---- steps of a walk

-- nothing of a row is told, and no child is passed
pub record IsWhole (over : Option Child) (r : RowLeft) : Type 0 where
  pub above : r.above ≡ over
  pub told : r.told ≡ 0
  pub passed : r.passed ≡ 0
  pub last : r.last.0 ≡ 0
  pub position : r.position ≡ 0

-- nothing is told at a node
pub record IsNew (at : Child) (n : NodeLeft) : Type 0 where
  pub child : n.child ≡ at
  pub judged : n.is_judged ≡ false
  pub which : n.which ≡ 0

-- the next child, and those behind it; without one there is none down to so many levels
abbrev pub AwaitsChild : ℕ → Nodes → RowLeft → Option Child → Type 0
AwaitsChild levels nodes r None = (schema : Schema) → below_left levels schema nodes r ≡ []
AwaitsChild levels nodes r (Some child) =
    (0 < levels) × (children_left nodes r ≡ child ∷ drop (r.passed + 1) (children_at nodes (row_of r.above)))

-- what is told of the next node that isn't stored, and of those behind it; the node doesn't stand behind a child
abbrev pub IsNext : Nodes → Option Child → FaultCode × SchemaId → RowLeft → Type 0
IsNext nodes child a r = (option_map_or (λ c. nat_lt c.0.0 a.1.0) child false ≡ false)
    × (play_left nodes r ≡ a ∷ drop (r.told + 1) (play_at nodes (row_of r.above)))

-- all that is left stands behind a child
abbrev pub NoneComes : Nodes → Option Child → RowLeft → Type 0
NoneComes nodes child r = (a : FaultCode × SchemaId) (others : List (FaultCode × SchemaId))
    → play_left nodes r ≡ a ∷ others → option_map_or (λ c. nat_lt c.0.0 a.1.0) child false ≡ true

-- a child is passed: what is told of it comes next
pub record Passes (levels : ℕ) (schema : Schema) (nodes : Nodes) (child : Child) (old new : RowLeft) : Type 0 where
  pub below : ℕ
  pub is_more : levels ≡ suc below
  pub given : row_left levels schema nodes old
      ≡ map (under (step_in schema new)) (child_told schema nodes (told_below below schema nodes (Below child.1)) child).faults
      ++ row_left levels schema nodes new
  pub fewer : visits_left levels nodes old
      ≡ 3 + (visits_below below nodes (Below child.1) + visits_left levels nodes new)

-- what a row gives
abbrev pub Gives : ℕ → Schema → Nodes → RowLeft → Option Piece → RowLeft → Type 0
Gives levels schema nodes old None new = row_left levels schema nodes old ≡ []
Gives levels schema nodes old (Some (pieces.Absence a)) new = row_left levels schema nodes old
    ≡ absence_fault schema (number_above old.above) (absence_of a) ∷ row_left levels schema nodes new
Gives levels schema nodes old (Some (pieces.Child child)) new = Passes levels schema nodes child old new

-- what a turn comes to, where this was left and so often it went on
abbrev pub ComesTo : List Fault → ℕ → Turn → Walk → Type 0
ComesTo faults visits (turns.Gives seen) new = faults ≡ seen_view seen ∷ left new
ComesTo faults visits turns.Further new = (left new ≡ faults) × (visits_at new new.node < visits)
ComesTo faults visits turns.Ends new = (faults ≡ []) × (left new ≡ [])

-- a child is come to, unless it has no fault in total
abbrev pub ComesToChild : Nodes → Child → Option NodeLeft → Type 0
ComesToChild nodes child None = total_at nodes (Below child.1) ≡ 0
ComesToChild nodes child (Some n) = ((total_at nodes (Below child.1) == 0) ≡ false) × IsNew child n
