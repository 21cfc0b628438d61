use Rattle.std.proofs.Common.{string_bytes}
use Rattle.std.proofs.lemmas.Result.{IfOk-weaker}
use Rattle.serde_json.specs.View as json
use Rattle.yschema_model.specs.View as schema_view
use Rattle.yinst_tree.specs.View.{tree_view}
use Rattle.ycheck.specs.View as fault_view
use Rattle.ysay_json.specs.FaultData.{fault_data}
use Rattle.ysay_json.proofs.WholeLemmas.{fault_whole, written}
use Rattle.ysay_json.proofs.line.line_with_fellow.Goals as goal

pub returns : goal.returns
returns c =
    let s = schema_view.view c.args.schema.now in
    let t = tree_view c.args.tree.now in
    let f = fault_view.view c.args.fault.now in
    IfOk-weaker c.to_string.result _ _ (λ text so sorted. written (json.view c.in_ok-fault_value.field-0) (fault_data s t f) (string_bytes text)
    (c.in_ok-fault_value.ensures sorted) (fault_whole s t f) so) c.to_string.ensures.text
