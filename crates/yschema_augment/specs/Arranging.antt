-- Augments that are applied, over the table in which all nodes lie.
use Rattle.std.specs.Prelude.{Bool, ℕ, ◌+◌, List, length, get_or, if◌then◌else◌}
use Rattle.yspec.specs.Forest.{Forest}
use Rattle.yspec.specs.linking.Keyword.{choice_word}
use Rattle.yspec.specs.linking.Source.{Source, is_source_of}
use Rattle.yspec.specs.linking.Parts.{Part}
use Rattle.ybase_preorder.specs.declared.slot.Slot.{Slot}
use Rattle.yschema_expand.specs.NumberedView.{rows_between}
use Rattle.yschema_augment.specs.Hanging.{Hung, inner, marked_by}
use Rattle.yschema_expand.specs.NumberedView.{Numbered}
use Rattle.yschema_expand.specs.declared.nodes.ExpandedNode.{ExpandedNode}
use Rattle.yschema_augment.specs.declared.applied.Applied.{Applied}

-- those of the modules themselves, given where what each augment adds begins
abbrev pub own_rows : List ℕ → List (Slot ExpandedNode) → Forest (Numbered Part)
own_rows starts slots = rows_between 0 (get_or starts 0 (length slots)) slots

-- those that the augment of an index adds
abbrev pub rows_of : List ℕ → List (Slot ExpandedNode) → ℕ → Forest (Numbered Part)
rows_of starts slots augment =
    rows_between (get_or starts augment (length slots)) (get_or starts (augment + 1) (length slots)) slots

-- A choice takes them with the cases for which they stand, another node without.
abbrev pub taken : Bool → Forest (Numbered Part) → Forest (Numbered Part)
taken is_choice f = if is_choice then f else inner f

abbrev pub taken_for : Source → Forest (Numbered Part) → Forest (Numbered Part)
taken_for s f = taken (is_source_of choice_word s) f

abbrev pub taken_by : Numbered Part → Forest (Numbered Part) → Forest (Numbered Part)
taken_by l f = taken_for l.label.source f

-- what an augment hangs below its target, given the numbers of the augments' statements
abbrev pub hung_view : List ℕ → List (Slot ExpandedNode) → List ℕ → Applied → Hung Part
hung_view starts slots numbers a = record {
  target = a.target;
  row = λ l. marked_by (get_or numbers a.augment 0) (taken_by l (rows_of starts slots a.augment));
}
