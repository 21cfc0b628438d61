use Rattle.std.proofs.Common.{[], ◌∷◌, sym, ap, ◌∙◌}
use Rattle.yspec.specs.schema.Breaks.{least_from, when, broken}
use Rattle.ytext.specs.View as text
use Rattle.ylink_grammar.specs.BreakView.{seen, break_view}
use Rattle.ylink_grammar.specs.SourceView.{source_view}
use Rattle.ylink_names.specs.MeaningView.{is_lost_by}
use Rattle.ylink_names.proofs.lost.judge_lost.Goals as goal

pub returns-then-is_lost : goal.returns-then-is_lost
returns-then-is_lost c number =
    let so_far = seen c.args.so_far in
    c.least.ensures
    ∙ (ap (λ w. least_from so_far (when w (break_view c.broken.result ∷ []))) (sym c.if-is_lost.true ∙ c.is_lost.ensures number)
    ∙ ap (λ b. least_from so_far (when (is_lost_by (source_view number c.args.statement.now) c.args.meaning) (break_view b ∷ []))) c.broken.ensures)

pub returns-else-is_lost : goal.returns-else-is_lost
returns-else-is_lost c number =
    let s = c.args.statement.now in
    let so_far = seen c.args.so_far in
    ap (λ w. least_from so_far (when w (broken 8 s.home (text.view s.statement.now).0.line))) (sym c.if-is_lost.false ∙ c.is_lost.ensures number)
