use Rattle.std.proofs.Common.{◌∙◌}
use Rattle.ylink_arguments.proofs.SpanLemmas.{span_cut}
use Rattle.ylink_arguments.proofs.span.span.Goals as goal

pub returns-in-Some : goal.returns-in-Some
returns-in-Some c =
    c.span_between.ensures
    ∙ span_cut c.args.text.now c.in-Some.first.now c.in-Some.last.now _ _ _ _ c.in-Some.ensures c.trimmed.ensures c.trimmed-in-Some.ensures c.bound.ensures c.bound-in-Some.ensures
