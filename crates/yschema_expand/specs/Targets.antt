-- Where the targets of refines stand.
use Rattle.std.specs.Prelude.{ℕ, suc, ◌+◌, Bool, List, [], ◌∷◌, Option, Some, None, option_and_then, if◌then◌else◌}
use Rattle.yspec.specs.Forest.{Forest, end, node, size}
use Rattle.yspec.specs.linking.Source.{Source}
use Rattle.yspec.specs.linking.Parts.{Part}
use Rattle.yspec.specs.linking.Augments.{Augment}
use Rattle.yspec.specs.linking.Prefixes.{NodeName}
use Rattle.yspec.specs.linking.Expansion.{is_step, refine_steps}
use Rattle.yspec_wide.specs.Language.{Language}
use Rattle.yspec_wide.specs.Expansion.{may_bear_in, may_take_in}
use Rattle.ybase_preorder.specs.View.{row_by, label_by}
use Rattle.ybase_preorder.specs.declared.siblings.Node.{Node}
use Rattle.yschema_expand.specs.declared.nodes.ExpandedNode.{ExpandedNode}
use Rattle.yschema_expand.specs.NodeView.{numbered_part}

-- a node of a row by its number, with what stands below it
pub record Found : Type 0 where
  pub number : ℕ
  pub part : Part
  pub below : Forest Part

abbrev pub node_seen : Node ExpandedNode → Found
node_seen c = record {
  number = c.number;
  part = label_by numbered_part c;
  below = row_by numbered_part c.children;
}

-- the first of a row that passes a test, whose first node has a number
abbrev pub found_in : (Part → Bool) → ℕ → Forest Part → Option Found
found_in test number end = None
found_in test number (node p below after) = if test p then Some (record { number = number; part = p; below = below })
    else found_in test (number + suc (size below)) after

-- the node at a path: the first child of each name
abbrev pub found_at : List NodeName → ℕ → Forest Part → Option Found
found_at [] number f = None
found_at (step ∷ []) number f = found_in (is_step step) number f
found_at (step ∷ next ∷ steps) number f =
    option_and_then (λ (x : Found). found_at (next ∷ steps) (x.number + 1) x.below) (found_in (is_step step) number f)

-- the number of a refine's target among some nodes, where it may bear what the refine gives
abbrev pub fit_number : Language → Forest Source → Option Found → Option ℕ
fit_number language given found =
    option_and_then (λ (x : Found). if may_bear_in language x.part given then Some x.number else None) found

abbrev pub target_in : Language → Forest Source → ℕ → Source → Forest Source → ℕ → Forest Part → Option ℕ
target_in language modules owner s given number f =
    fit_number language given (found_at (refine_steps modules owner s) number f)

-- the number of the node to which an augment below a `uses` leads, where that may take what it adds
abbrev pub taking_number : Language → Forest Source → Augment → Option Found → Option ℕ
taking_number language modules a found =
    option_and_then (λ (x : Found). if may_take_in language modules a x.part then Some x.number else None) found

abbrev pub inner_target : Language → Forest Source → ℕ → Augment → ℕ → Forest Part → Option ℕ
inner_target language modules owner a number f =
    taking_number language modules a (found_at (refine_steps modules owner a.source) number f)
