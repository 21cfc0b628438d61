use Rattle.std.proofs.Common.{ap, ◌∙◌}
use Rattle.ylink_types.specs.DerivedView.{set_at}
use Rattle.ylink_types.proofs.IdentityLemmas.{none_more}
use Rattle.ylink_types.proofs.derived.no_sets.Goals as goal

pub loop-number-preserved : goal.loop-number-preserved
loop-number-preserved c n =
    ap (λ sets. set_at sets n) c.in_ok-push.ensures.items ∙ none_more c.loop-number.sets.items c.loop-number.invariant n
