use Rattle.std.proofs.Common.{List, map, sym, ap, subst, ◌∙◌}
use Rattle.yspec_run.specs.Unjudged.{note_of, with_note}
use Rattle.ytext.specs.View.{modules_view}
use Rattle.ytext.specs.declared.statement.Module.{Module}
use Rattle.ylink_grammar.specs.LanguageView.{language_view, unjudged_view}
use Rattle.yapp_report.specs.Failing.{FailsWith, reported}
use Rattle.yapp.proofs.NotedLemmas.{report_is}
use Rattle.yapp.proofs.unjudged.noted.Goals as goal

pub returns-in_ok-with_note-in-Ok-clause-leads : goal.returns-in_ok-with_note-in-Ok-clause-leads
returns-in_ok-with_note-in-Ok-clause-leads c =
    let u = unjudged_view c.args.unjudged in
    let o = reported c.args.report in
    report_is (language_view c.args.language.now) u (map (λ n. n.now) c.args.names.now) (map (λ t. t.items) c.args.contents.now) c.args.report
    ∙ (c.in-Ok.ensures (λ modules files. with_note (note_of u modules) o)
    ∙ (ap (λ (ms : List Module). with_note (note_of u (modules_view ms)) o) (sym c.deref.ensures.value)
    ∙ sym c.in_ok-with_note-in-Ok.ensures.says))

pub returns-in-Err-clause-leads : goal.returns-in-Err-clause-leads
returns-in-Err-clause-leads c =
    let u = unjudged_view c.args.unjudged in
    let o = reported c.args.report in
    subst (FailsWith c.in-Err.failure)
    (sym (report_is (language_view c.args.language.now) u (map (λ n. n.now) c.args.names.now) (map (λ t. t.items) c.args.contents.now) c.args.report))
    (c.in-Err.ensures (λ modules files. with_note (note_of u modules) o))
