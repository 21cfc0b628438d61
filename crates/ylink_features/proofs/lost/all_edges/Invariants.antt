use Rattle.std.proofs.Common.{◌≡◌, ◌++◌, drop}
use Rattle.std.specs.List.{flat_map}
use Rattle.ylink_features.specs.declared.asked.Asked.{Asked}
use Rattle.ylink_features.proofs.lost.all_edges.Given as goal

abbrev pub invariant-loop-condition : goal.invariant-loop-condition
invariant-loop-condition l = l.made.items ++ flat_map (λ (c : Asked). c.edges.items) (drop l.condition-index l.conditions)
    ≡ flat_map (λ (c : Asked). c.edges.items) l.conditions
