use Rattle.std.proofs.Common.{List, map, string_bytes, ap, ap₂, sym, ◌∙◌}
use Rattle.yspec.specs.text.Text.{Text}
use Rattle.ysay_jumps.specs.Jumps.{jumps_text}
use Rattle.yspec_run.specs.Lines.{contents_named}
use Rattle.yschema_model.specs.View as schema_view
use Rattle.yinst_tree.specs.View.{tree_view}
use Rattle.ycheck.specs.View.{views}
use Rattle.ycheck.specs.declared.fault.Fault.{Fault}
use Rattle.yapp_lines.proofs.LineLemmas.{faults_told, text_told}
use Rattle.yapp_lines.proofs.documents.faults_by_lines.Goals as goal

pub returns-then-is_some-clause-told : goal.returns-then-is_some-clause-told
returns-then-is_some-clause-told c = λ language options modules files.
    text_told language options c.args.document.now modules (map (λ t. t.items) c.args.contents.now) c.args.report (sym c.is_some.ensures ∙ c.if-is_some.true)

pub returns-clause-told : goal.returns-clause-told
returns-clause-told c = λ language options modules files.
    let contents = map (λ t. t.items) c.args.contents.now in
    let r = c.args.report in
    faults_told language options c.args.document.now modules contents r (string_bytes c.in_ok-text.text) (sym c.is_some.ensures ∙ c.if-is_some.false)
    (c.in_ok-text.ensures c.requires
    ∙ (ap (λ (fs : List Fault). jumps_text c.args.document.now c.contents_named-bytes.result.now (schema_view.view r.schema) (tree_view r.tree) (views fs)) c.deref.ensures.value
    ∙ ap (λ (bytes : Text). jumps_text c.args.document.now bytes (schema_view.view r.schema) (tree_view r.tree) (views r.faults.items))
    (c.contents_named-bytes.ensures ∙ ap (λ (names : List Text). contents_named c.args.document.now names contents) (sym files))))
