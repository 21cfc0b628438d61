use Rattle.std.proofs.Common.{arith, sym, ap, ◌∙◌}
use Rattle.std.proofs.lemmas.List.{length-take-le, take-map, take_all}
use Rattle.ysay_refusals.specs.View.{remark_view, remarks_view}
use Rattle.ysay_refusals.proofs.lines.told_of.Goals as goal

pub slice_bounds-result-end : goal.slice_bounds-result-end
slice_bounds-result-end c = sym (length-take-le 100 c.args.others.now (omega (arith, c.if-others-gt-MOST_LINES.true)))

pub returns-then-others-gt-MOST_LINES : goal.returns-then-others-gt-MOST_LINES
returns-then-others-gt-MOST_LINES c = sym (take-map remark_view 100 c.args.others.now)

pub returns-else-others-gt-MOST_LINES : goal.returns-else-others-gt-MOST_LINES
returns-else-others-gt-MOST_LINES c =
    sym (take-map remark_view 100 c.args.others.now ∙ ap remarks_view (take_all 100 c.args.others.now (omega (arith, c.if-others-gt-MOST_LINES.false))))
