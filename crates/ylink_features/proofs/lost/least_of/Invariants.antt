use Rattle.std.proofs.Common.{◌≡◌, Bool, drop, map}
use Rattle.std.specs.List.{flat_map}
use Rattle.yspec.specs.linking.Graph.{Edge}
use Rattle.yspec.specs.schema.Breaks.{least_from}
use Rattle.ylink_grammar.specs.BreakView.{seen}
use Rattle.ylink_features.specs.AskedView.{asked_view, edges_in, lost_break}
use Rattle.ylink_features.proofs.lost.least_of.Given as goal

abbrev pub invariant-loop-condition : goal.invariant-loop-condition
invariant-loop-condition l = (circular : Edge → Bool) → l.flags ≡ map circular (edges_in l.conditions)
    → (l.left ≡ map circular (edges_in (drop l.condition-index l.conditions)))
    × (least_from (seen l.told) (flat_map (lost_break circular) (map asked_view (drop l.condition-index l.conditions)))
    ≡ least_from (seen l.fn.so_far) (flat_map (lost_break circular) (map asked_view l.conditions)))
