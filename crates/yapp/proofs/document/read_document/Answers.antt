use Rattle.std.proofs.Common.{List, ℕ, ap, subst, sym, ◌∙◌}
use Rattle.yspec.specs.document.Reading.{document_of}
use Rattle.yspec_run.specs.Output.{other_files, unless_repeated, with_first, with_tree}
use Rattle.yschema_model.specs.View as schema_view
use Rattle.yapp.specs.Edited.{schema_of, tree_of}
use Rattle.yapp_report.specs.Failing.{FailsWith}
use Rattle.yapp.proofs.ContentsLemmas.{texts_in}
use Rattle.yapp.proofs.document.read_document.Goals as goal

pub returns-in-Ok-read_by-clause-leads : goal.returns-in-Ok-read_by-clause-leads
returns-in-Ok-read_by-clause-leads c = λ next.
    let s = schema_view.view c.in-Ok.compiled.value in
    let files = texts_in c.in-Ok.compiled.rest.now in
    let d = c.in-Ok-read_by.document in
    c.in-Ok.ensures (with_first c.args.is_strict c.args.document.now next)
    ∙ (ap (λ (bytes : List ℕ). with_tree s c.args.document.now bytes (document_of s bytes)
    (unless_repeated c.args.is_strict s c.args.document.now bytes (λ tree. next s tree (other_files files)))) (sym c.first_of.ensures)
    ∙ (c.in-Ok-read_by.ensures.leads (λ schema tree. next schema tree (other_files files))
    ∙ ap (next (schema_of d) (tree_of d)) (sym c.behind_first.ensures)))

pub returns-in-Err-read_by-clause-leads : goal.returns-in-Err-read_by-clause-leads
returns-in-Err-read_by-clause-leads c = λ next.
    let s = schema_view.view c.in-Ok.compiled.value in
    let files = texts_in c.in-Ok.compiled.rest.now in
    subst (FailsWith c.in-Err-read_by.failure)
    (sym (c.in-Ok.ensures (with_first c.args.is_strict c.args.document.now next)
    ∙ ap (λ (bytes : List ℕ). with_tree s c.args.document.now bytes (document_of s bytes)
    (unless_repeated c.args.is_strict s c.args.document.now bytes (λ tree. next s tree (other_files files)))) (sym c.first_of.ensures)))
    (c.in-Err-read_by.ensures.leads (λ schema tree. next schema tree (other_files files)))
