use Rattle.std.proofs.Common.{arith, ◌∙◌, ◌+◌, ◌-◌}
use Rattle.std.proofs.lemmas.Bool.{le-ltb}
use Rattle.ystore_rows.specs.Children.{nodes_of}
use Rattle.ystore_rows.proofs.NearLemmas.{past_part}
use Rattle.ystore_rows.proofs.children.Children.is_ahead.Goals as goal

pub returns-else-step-end : goal.returns-else-step-end
returns-else-step-end c =
    le-ltb c.args.step (c.args.end - c.args.first - c.args.near) c.if-step-end.false
    ∙ past_part c.args.first c.args.end (nodes_of c.args.self.now) c.requires.order c.requires.within c.args.node (c.args.near + c.args.step)
    (omega (arith, c.if-step-end.false))
