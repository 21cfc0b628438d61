-- Tables of nodes as the specification's parts.
use Rattle.std.specs.Prelude.{ℕ, zero, suc, List, [], ◌∷◌}
use Rattle.yspec.specs.Forest.{Forest, join}
use Rattle.yspec.specs.linking.Source.{Source}
use Rattle.yspec.specs.linking.Parts.{Part}
use Rattle.yspec.specs.linking.Expansion.{others}
use Rattle.yspec_wide.specs.Language.{Language}
use Rattle.yspec_wide.specs.Sources.{guard_row, without_guards}
use Rattle.ybase_preorder.specs.Layout.{Place, forest_of, laid, numbered_by, seen}
use Rattle.ybase_preorder.specs.declared.slot.Slot.{Slot}
use Rattle.yschema_expand.specs.declared.nodes.ExpandedNode.{ExpandedNode}
use Rattle.yschema_expand.specs.declared.table.NodeTable.{NodeTable}
use Rattle.yschema_expand.specs.NodeView.{numbered_part, part_view}

abbrev pub slots_of : NodeTable → List (Slot ExpandedNode)
slots_of t = t.slots.items

-- the parts as they lie in a table
abbrev pub parts_in : NodeTable → List (Place Part)
parts_in t = seen numbered_part 0 (laid (slots_of t))

-- a part as it lies in a slot, and some in slots; no number says anything of them
abbrev pub lying_slot : Slot ExpandedNode → Place Part
lying_slot r = record { parent = r.parent; label = part_view r.label; below = r.below }

abbrev pub lying : List (Slot ExpandedNode) → List (Place Part)
lying slots = seen numbered_part 0 (laid slots)

-- the forest of the parts in a table
abbrev pub nodes_in : NodeTable → Forest Part
nodes_in t = numbered_by numbered_part 0 (forest_of (slots_of t))

-- a part once a refine has given it a row
abbrev pub refined_part : Language → Forest Source → Part → Part
refined_part language given p = record p { own = join (others (without_guards language given) p.own) given }

-- and once the conditions of a row are asked of it
abbrev pub conditioned_part : Language → Forest Source → Part → Part
conditioned_part language given p = record p { own = join p.own (guard_row language given) }

-- the places with the part at one of them changed
abbrev pub changed_place : ℕ → (Part → Part) → List (Place Part) → List (Place Part)
changed_place number change [] = []
changed_place zero change (p ∷ ps) = record p { label = change p.label } ∷ ps
changed_place (suc number) change (p ∷ ps) = p ∷ changed_place number change ps
