-- Where an edit stands in the document that a store holds.
use Rattle.std.specs.Prelude.{◌≡◌, false, List, [], ◌∷◌, ◌++◌, Result, Ok, Err}
use Rattle.yspec.specs.schema.Schema.{Schema}
use Rattle.yspec.specs.document.Document.{Step, Tree}
use Rattle.yspec.specs.edit.Editing.{BoundStep, EditRefusal, Target, is_zero}
use Rattle.yinst_path.specs.Applying.{refusal_view}
use Rattle.yinst_path.specs.Binding.{step_view}
use Rattle.yinst_path.specs.declared.binding.BoundStep as bound
use Rattle.yinst_path.specs.declared.edit.EditFault.{EditFault}
use Rattle.yinst_path.specs.declared.edit.EditFault.TheVariants.{Refused, Memory}
use Rattle.ystore.specs.declared.nodes.Nodes.{Nodes}
use Rattle.ystore_tree.specs.Hanging.{Branches, tree_of}
use Rattle.ylive_edit.specs.Places.{IsAt}
use Rattle.ylive_edit.specs.declared.locating.Place.{Place}

-- no step bears the position 0
abbrev pub CountFromOne : List BoundStep → Type 0
CountFromOne [] = Unit {0}
CountFromOne (b ∷ bs) = (is_zero b.predicate ≡ false) × CountFromOne bs

-- the target in a row with these branches
abbrev pub target_at : Schema → List Step → Branches → bound.BoundStep → Target
target_at schema above f last = record { above = above; row = tree_of f; last = step_view schema last }

-- The target of steps that lead on from a row is found in the store, the steps so far before its own; or it is refused; of
-- want of memory nothing is said.
abbrev pub Locates : Schema → Tree → List Step → Result Target EditRefusal → Nodes → Result Place EditFault → Type 0
Locates schema tree so_far answer nodes (Ok place) = (more : List Step) × (f : Branches)
    × IsAt schema nodes tree (so_far ++ more) place.above f
    × (answer ≡ Ok (target_at schema more f place.last))
Locates schema tree so_far answer nodes (Err (Refused code doc)) = answer ≡ Err (refusal_view code doc)
Locates schema tree so_far answer nodes (Err Memory) = Unit {0}
