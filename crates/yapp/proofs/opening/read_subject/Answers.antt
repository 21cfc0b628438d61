use Rattle.std.proofs.Common.{List, ℕ, ap, subst, sym, ◌∙◌}
use Rattle.yspec.specs.document.Reading.{document_of}
use Rattle.yspec_run.specs.Output.{unless_repeated, with_first, with_tree}
use Rattle.yspec_session.specs.Session.{configured_by}
use Rattle.yschema_model.specs.View as schema_view
use Rattle.yapp_report.specs.Failing.{FailsWith}
use Rattle.yapp.proofs.opening.read_subject.Goals as goal

pub returns-in-Ok-read_by-clause-leads : goal.returns-in-Ok-read_by-clause-leads
returns-in-Ok-read_by-clause-leads c = λ next.
    let s = schema_view.view c.in-Ok.compiled.value.schema in
    c.in-Ok.ensures.leads (with_first c.args.is_strict c.args.document.now (λ schema tree files. next schema tree))
    ∙ (ap (λ (bytes : List ℕ). with_tree s c.args.document.now bytes (document_of s bytes)
    (unless_repeated c.args.is_strict s c.args.document.now bytes (next s))) (sym c.first_of.ensures)
    ∙ c.in-Ok-read_by.ensures.leads next)

pub returns-in-Ok-read_by-clause-configured : goal.returns-in-Ok-read_by-clause-configured
returns-in-Ok-read_by-clause-configured c =
    c.in-Ok.ensures.configured ∙ ap (configured_by c.args.of_configuration) (sym c.in-Ok-read_by.ensures.under)

pub returns-in-Err-read_by-clause-leads : goal.returns-in-Err-read_by-clause-leads
returns-in-Err-read_by-clause-leads c = λ next.
    let s = schema_view.view c.in-Ok.compiled.value.schema in
    subst (FailsWith c.in-Err-read_by.failure)
    (sym (c.in-Ok.ensures.leads (with_first c.args.is_strict c.args.document.now (λ schema tree files. next schema tree))
    ∙ ap (λ (bytes : List ℕ). with_tree s c.args.document.now bytes (document_of s bytes)
    (unless_repeated c.args.is_strict s c.args.document.now bytes (next s))) (sym c.first_of.ensures)))
    (c.in-Err-read_by.ensures.leads next)
