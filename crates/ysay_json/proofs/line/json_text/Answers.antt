use Rattle.std.proofs.Common.{◌++◌, [], ap, ap₂, sym, ◌∙◌}
use Rattle.std.proofs.lemmas.List.{append-nil, length-map}
use Rattle.std.proofs.lemmas.Result.{IfOk-weaker}
use Rattle.yspec.specs.text.Text.{Text}
use Rattle.yschema_model.specs.View as schema_view
use Rattle.yinst_tree.specs.View.{tree_view}
use Rattle.ycheck.specs.View as fault_view
use Rattle.ysay_json.specs.FaultData.{json_count, json_lines, json_text}
use Rattle.ysay_json.proofs.line.json_text.Goals as goal

pub returns : goal.returns
returns c =
    let faults = fault_view.views c.args.faults.now in
    IfOk-weaker c.concat.result _ _ (λ text so sorted. so
    ∙ (ap₂ (λ (lines count : Text). lines ++ (count ++ [])) (c.as_str.ensures.value ∙ c.in_ok-lines.ensures sorted)
    (c.as_str-2.ensures.value ∙ (c.in_ok-count.ensures ∙ ap json_count (sym (length-map c.args.faults.now fault_view.view))))
    ∙ ap (λ (count : Text). json_lines (schema_view.view c.args.schema.now) (tree_view c.args.tree.now) faults ++ count) (append-nil _)))
    c.concat.ensures.ok
