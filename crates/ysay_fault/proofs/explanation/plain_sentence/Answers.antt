use Rattle.std.proofs.Common.{ap, sym, ◌∙◌}
use Rattle.ycheck.specs.View as fault_view
use Rattle.yschema_model.specs.View as schema_view
use Rattle.yinst_tree.specs.View as document_view
use Rattle.ysay_fault.specs.FoundFellows.{fellow_at}
use Rattle.ysay_fault.specs.Sentences.{sentence_to}
use Rattle.ysay_fault.proofs.SentenceLemmas.{said_as, said_of_others}
use Rattle.ysay_fault.proofs.explanation.plain_sentence.Goals as goal

pub sentence_at-requires : goal.sentence_at-requires
sentence_at-requires c =
    let f = fault_view.view c.args.fault.now in
    c.requires ∙ ap (λ ss. fellow_at (schema_view.view c.args.schema.now) (document_view.tree_view c.args.tree.now) (document_view.place_view ss) f.info f.code)
    (sym c.deref-in_default.ensures.value)

pub returns-in_default : goal.returns-in_default
returns-in_default c sorted =
    let schema = schema_view.view c.args.schema.now in
    let tree = document_view.tree_view c.args.tree.now in
    let steps = c.args.fault.now.steps.items in
    let info = fault_view.info_view c.args.fault.now.info in
    said_as c.sentence_at.result _ _ (ap (λ ss. sentence_to schema tree (document_view.place_view ss) info (fault_view.code_view c.args.fault.now.code)) c.deref-in_default.ensures.value
    ∙ said_of_others schema tree info (document_view.place_view steps) c.args.fault.now.code c.in_default.not-V4 c.in_default.not-V5)
    c.sentence_at.ensures
