use Rattle.std.proofs.Common.{◌+◌, ◌∙◌, ap, ap₂, drop, get_or, map, string_bytes}
use Rattle.std.proofs.lemmas.List.{at_drop_all, at_drop_more, length-map}
use Rattle.yschema_model.specs.View as schema
use Rattle.ycheck.specs.View.{view, views}
use Rattle.ybase_output.proofs.WritingLemmas.{left_all, left_same, left_after, left_none, left_failed, wrote_same, broke_same}
use Rattle.yapp_report.specs.Explained.{explained_line, explained_lines}
use Rattle.yapp_report.proofs.ExplainedLemmas.{first_explained, none_explained}
use Rattle.yapp_report.proofs.report.write_explained_lines.Goals as goal

pub loop-fault-init : goal.loop-fault-init
loop-fault-init g c = left_all _ _

pub loop-fault-preserved : goal.loop-fault-preserved
loop-fault-preserved g c =
    let s = schema.view c.args.schema.now in
    let said = map string_bytes c.loop-fault.rest.now in
    let text = string_bytes c.in-Some.explanation.now in
    let others = map string_bytes c.in-Some.others.now in
    let f = view (get_or c.args.faults.now c.loop-fault.fault-index c.fault-item.result) in
    let later = views (drop (c.loop-fault.fault-index + 1) c.args.faults.now) in
    left_after _ _ _ _ _ _ (left_same _ _ _ _ _
    (at_drop_more (λ fs. explained_lines s (views fs) said) c.args.faults.now c.loop-fault.fault-index c.fault-item.result c.loop-fault-test.true
    ∙ first_explained s f later text others said (ap (map string_bytes) c.in-Some.ensures.cases.0))
    c.loop-fault.invariant)
    (wrote_same _ _ _ _ (ap₂ (λ f t. explained_line s (view f) t) c.fault-item.is c.as_str.ensures.value) c.in_ok-write_explained-in-Some.ensures)

pub returns : goal.returns
returns g c = left_none _ _ _ (left_same _ _ _ _ _
    (at_drop_all (λ fs. explained_lines (schema.view c.args.schema.now) (views fs) (map string_bytes c.loop-fault.rest.now)) c.args.faults.now c.loop-fault.fault-index c.loop-fault-test.false)
    c.loop-fault.invariant)

pub returns-in-None : goal.returns-in-None
returns-in-None g c = left_none _ _ _ (left_same _ _ _ _ _
    (none_explained (schema.view c.args.schema.now) _ _ (length-map c.loop-fault.rest.now string_bytes ∙ c.in-None.ensures.cases))
    c.loop-fault.invariant)

pub returns-in_err-write_explained-in-Some : goal.returns-in_err-write_explained-in-Some
returns-in_err-write_explained-in-Some g c =
    let s = schema.view c.args.schema.now in
    let said = map string_bytes c.loop-fault.rest.now in
    let text = string_bytes c.in-Some.explanation.now in
    let others = map string_bytes c.in-Some.others.now in
    let f = view (get_or c.args.faults.now c.loop-fault.fault-index c.fault-item.result) in
    let later = views (drop (c.loop-fault.fault-index + 1) c.args.faults.now) in
    left_failed _ _ _ _ _ (explained_lines s later others) c.from_residual.result c.from_residual.ensures.0 (left_same _ _ _ _ _
    (at_drop_more (λ fs. explained_lines s (views fs) said) c.args.faults.now c.loop-fault.fault-index c.fault-item.result c.loop-fault-test.true
    ∙ first_explained s f later text others said (ap (map string_bytes) c.in-Some.ensures.cases.0))
    c.loop-fault.invariant)
    (broke_same _ _ _ _ (ap₂ (λ f t. explained_line s (view f) t) c.fault-item.is c.as_str.ensures.value) c.in_err-write_explained-in-Some.ensures)
