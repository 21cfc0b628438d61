use Rattle.std.proofs.Common.{◌≡◌, ◌∷◌, filter, take}
use Rattle.std.specs.List.{list_all}
use Rattle.yspec.specs.Forest.{Forest}
use Rattle.yspec.specs.linking.Circles.{definition_edges}
use Rattle.yspec.specs.linking.Source.{Source}
use Rattle.ybase_graph.specs.Derivation.{derives}
use Rattle.ylink_types.specs.IdentityView.{IsOf}
use Rattle.ylink_types.proofs.identities.Identities.derived_from_all.Given as goal
use Rattle.yspec_wide.specs.Types.{Keeping}

-- those that derive from all bases so far
abbrev pub invariant-loop-base : goal.invariant-loop-base
invariant-loop-base l = (kept : Keeping) (modules : Forest Source) → IsOf kept l.self modules → l.numbers.items
    ≡ filter (λ n. list_all (derives (definition_edges modules) n) (l.first ∷ take l.base-index l.others)) l.self.numbers.items
