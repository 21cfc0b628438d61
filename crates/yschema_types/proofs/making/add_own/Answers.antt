use Rattle.std.proofs.Common.{◌++◌, ap, ◌∙◌}
use Rattle.yschema_model.specs.Layout.{targets_view}
use Rattle.yschema_model.proofs.TargetLemmas.{targets_pushed}
use Rattle.yschema_types.proofs.MakingLemmas.{own_numbered}
use Rattle.yschema_types.proofs.making.add_own.Goals as goal

pub returns : goal.returns
returns c =
    ap targets_view c.in_ok-push.ensures.items
    ∙ (targets_pushed c.args.targets.now.items _ ∙ ap (λ l. targets_view c.args.targets.now.items ++ l) (own_numbered 0 c.args.count))
