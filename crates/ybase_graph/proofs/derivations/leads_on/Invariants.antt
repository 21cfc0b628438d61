use Rattle.std.proofs.Common.{◌≡◌, ◌==◌, ◌||◌, false, drop, get_or}
use Rattle.std.specs.List.{list_any}
use Rattle.ybase_graph.proofs.derivations.leads_on.Given as goal

abbrev pub invariant-loop-target : goal.invariant-loop-target
invariant-loop-target l = list_any (λ n. n == l.base || get_or l.marks n false) (drop l.target-index l.targets)
    ≡ list_any (λ n. n == l.base || get_or l.marks n false) l.targets
