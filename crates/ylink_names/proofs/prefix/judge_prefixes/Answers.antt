use Rattle.std.proofs.Common.{sym, ap, ◌∙◌, ◌∷◌, []}
use Rattle.yspec.specs.schema.Breaks.{broken, least_from, when}
use Rattle.ylink_grammar.specs.BreakView.{seen, break_view}
use Rattle.ylink_grammar.specs.SourceView.{source_view}
use Rattle.ylink_names.proofs.prefix.judge_prefixes.Goals as goal

pub returns-then-not-unknown : goal.returns-then-not-unknown
returns-then-not-unknown c modules number prefixes =
    let s = source_view number c.args.source.now in
    ap (λ b. least_from (seen c.args.so_far) (when b (broken 6 s.home s.statement.line)))
    (sym c.if-not-unknown.true ∙ c.in_ok-unknown.ensures modules prefixes)

pub returns : goal.returns
returns c modules number prefixes =
    let s = source_view number c.args.source.now in
    c.least.ensures
    ∙ (ap (λ b. least_from (seen c.args.so_far) (break_view b ∷ [])) c.broken.ensures
    ∙ ap (λ b. least_from (seen c.args.so_far) (when b (broken 6 s.home s.statement.line)))
    (sym c.if-not-unknown.false ∙ c.in_ok-unknown.ensures modules prefixes))
