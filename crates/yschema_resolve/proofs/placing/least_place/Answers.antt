use Rattle.std.proofs.Common.{ap₂, ◌∙◌}
use Rattle.yspec.specs.schema.Breaks.{least_from, when}
use Rattle.ylink_grammar.specs.BreakView.{seen}
use Rattle.yschema_resolve.proofs.placing.least_place.Goals as goal

pub returns : goal.returns
returns c =
    c.least_when.ensures
    ∙ ap₂ (λ b found. least_from (seen c.args.so_far) (when b found)) c.is_wrong_place.ensures (c.broken-found.ensures c.args.node.number)
