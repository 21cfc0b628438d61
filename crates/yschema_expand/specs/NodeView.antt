-- Nodes of groupings in use as the specification's parts.
use Rattle.std.specs.Prelude.{ℕ, Bool, true, false, List, Option, Some, None}
use Rattle.yspec.specs.Forest.{Forest}
use Rattle.yspec.specs.linking.Source.{Source}
use Rattle.yspec.specs.linking.Parts.{Part, part_of, case_for}
use Rattle.yspec.specs.linking.Expansion.{owned_by}
use Rattle.ybase_preorder.specs.View.{row_by, label_by}
use Rattle.ylink_grammar.specs.SourceView.{source_view}
use Rattle.yschema_given.specs.GivenView.{stated_after}
use Rattle.yschema_given.specs.declared.given.Given.{Given}
use Rattle.yschema_expand.specs.declared.nodes.ExpandedNode.{ExpandedNode}

-- a part, or the case that it stands for
abbrev pub implied_or : Bool → Part → Part
implied_or true p = case_for p
implied_or false p = p

-- a part as it is before refines, for the module that uses it
abbrev pub part_for : ℕ → Bool → Source → Forest Source → Part
part_for owner is_implied s below = owned_by owner (implied_or is_implied (part_of s below))

-- a part with the number of the `augment` that added it
abbrev pub added_with : Option ℕ → Part → Part
added_with number p = record p { added_by = number }

-- the same, where there is a number
abbrev pub marked_with : Option ℕ → Part → Part
marked_with None p = p
marked_with (Some number) p = added_with (Some number) p

abbrev pub plain_part : ExpandedNode → Part
plain_part n = added_with n.added_by
    (part_for n.owner n.is_implied (label_by source_view n.source) (row_by source_view n.source.children))

abbrev pub with_given : List Given → Part → Part
with_given given p = record p { own = stated_after p.own given }

abbrev pub part_view : ExpandedNode → Part
part_view n = with_given n.given.items (plain_part n)

-- its number says nothing of it
abbrev pub numbered_part : ℕ → ExpandedNode → Part
numbered_part number n = part_view n
