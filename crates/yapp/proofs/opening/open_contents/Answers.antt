use Rattle.std.proofs.Common.{Bor, List, ap, map, subst, sym, ◌∙◌}
use Rattle.yspec.specs.text.Text.{Text}
use Rattle.yspec.specs.schema.Schema.{Schema}
use Rattle.yspec.specs.document.Document.{Tree}
use Rattle.yspec_run.specs.Output.{Outcome, with_document}
use Rattle.yspec_opening.specs.Opening.{with_conditions}
use Rattle.ylink_grammar.specs.LanguageView.{language_view}
use Rattle.yapp_report.specs.Failing.{FailsWith}
use Rattle.yapp.specs.Edited.{schema_of, tree_of}
use Rattle.yapp.proofs.SessionLemmas.{opened_configured, opened_fresh, opened_leads}
use Rattle.yapp.proofs.opening.open_contents.Goals as goal

pub returns-in-Ok-clause-leads : goal.returns-in-Ok-clause-leads
returns-in-Ok-clause-leads c = λ next.
    let o = c.args.opening.now in
    let language = language_view o.language in
    let contents = map (λ t. t.items) c.args.contents.now in
    let s = schema_of c.in-Ok.subject.document in
    let t = tree_of c.in-Ok.subject.document in
    let go : Schema → Tree → Outcome = λ schema tree. with_conditions language (map (λ n. n.now) o.modules.items) contents (next schema tree) in
    opened_leads s t _ _ next c.opened_over.result
    (ap (λ (ms : List (Bor Text)). with_document language o.is_strict o.document.now (map (λ n. n.now) ms) contents (λ schema tree files. go schema tree)) (sym c.deref.ensures.value)
    ∙ c.in-Ok.ensures.leads go)
    (c.opened_over.ensures.leads (next s t)) c.opened_over.ensures.opened

pub returns-in-Ok-clause-fresh : goal.returns-in-Ok-clause-fresh
returns-in-Ok-clause-fresh c = opened_fresh _ _ c.opened_over.result c.opened_over.ensures.opened

pub returns-in-Err-clause-leads : goal.returns-in-Err-clause-leads
returns-in-Err-clause-leads c = λ next.
    let o = c.args.opening.now in
    let language = language_view o.language in
    let contents = map (λ t. t.items) c.args.contents.now in
    let go : Schema → Tree → Outcome = λ schema tree. with_conditions language (map (λ n. n.now) o.modules.items) contents (next schema tree) in
    subst (λ (ms : List (Bor Text)). FailsWith c.in-Err.failure (with_document language o.is_strict o.document.now (map (λ n. n.now) ms) contents (λ schema tree files. go schema tree)))
    c.deref.ensures.value (c.in-Err.ensures.leads go)

pub returns-in-Ok-clause-configured : goal.returns-in-Ok-clause-configured
returns-in-Ok-clause-configured c = opened_configured c.args.opening.now.of_configuration _ _ _ c.opened_over.result c.in-Ok.ensures.configured
    c.opened_over.ensures.opened c.opened_over.ensures.configured
