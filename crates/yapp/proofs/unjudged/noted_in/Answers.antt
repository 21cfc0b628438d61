use Rattle.std.proofs.Common.{map, sym, ap, ◌∙◌}
use Rattle.yspec_run.specs.Unjudged.{noted_of}
use Rattle.ylink_grammar.specs.LanguageView.{language_view, wide_view}
use Rattle.ylink_grammar.specs.declared.language.Language.{Language}
use Rattle.yapp_report.specs.Failing.{reported}
use Rattle.yapp.specs.Files.{found_as}
use Rattle.yapp.proofs.NotedLemmas.{wide_noted}
use Rattle.yapp.proofs.unjudged.noted_in.Goals as goal

pub returns-in-Core-clause-leads : goal.returns-in-Core-clause-leads
returns-in-Core-clause-leads c =
    ap (λ (l : Language). noted_of (language_view l) (map (λ n. n.now) c.args.names.now) (map (λ t. t.items) c.args.contents.now) (reported c.args.report)) c.in-Core.is
    ∙ sym c.unnoted.ensures.says

pub returns-in-Rfc-clause-leads : goal.returns-in-Rfc-clause-leads
returns-in-Rfc-clause-leads c = wide_noted (language_view c.args.language.now) (wide_view c.in-Rfc.wide) (map (λ n. n.now) c.args.names.now) (map (λ t. t.items) c.args.contents.now)
    (reported c.args.report) found_as c.noted_where.result (ap language_view c.in-Rfc.is) c.noted_where.ensures.leads
