use Rattle.std.proofs.Common.{Bool, map, sym, ap, subst, ◌∙◌}
use Rattle.std.specs.Prelude.{if◌then◌else◌}
use Rattle.yspec_run.specs.Unjudged.{noted_by}
use Rattle.ylink_grammar.specs.LanguageView.{language_view, unjudged_view}
use Rattle.yapp_report.specs.Failing.{LeadsTo, reported}
use Rattle.yapp.specs.Files.{found_as}
use Rattle.yapp.proofs.unjudged.noted_where.Goals as goal

pub returns-then-is_any-clause-leads : goal.returns-then-is_any-clause-leads
returns-then-is_any-clause-leads c =
    let o = reported c.args.report in
    let said = noted_by (language_view c.args.language.now) (unjudged_view c.args.unjudged) (map (λ n. n.now) c.args.names.now) (map (λ t. t.items) c.args.contents.now) o in
    subst (λ (b : Bool). LeadsTo (if b then said else o) found_as c.noted.result) (sym c.if-is_any.true ∙ c.is_any.ensures) c.noted.ensures.leads

pub returns-else-is_any-clause-leads : goal.returns-else-is_any-clause-leads
returns-else-is_any-clause-leads c =
    let o = reported c.args.report in
    let said = noted_by (language_view c.args.language.now) (unjudged_view c.args.unjudged) (map (λ n. n.now) c.args.names.now) (map (λ t. t.items) c.args.contents.now) o in
    ap (λ (b : Bool). if b then said else o) (sym c.is_any.ensures ∙ c.if-is_any.false) ∙ sym c.unnoted.ensures.says
