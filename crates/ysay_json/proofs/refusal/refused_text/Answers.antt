use Rattle.std.proofs.Common.{string_bytes}
use Rattle.std.proofs.lemmas.Result.{IfOk-weaker}
use Rattle.serde_json.specs.View as json
use Rattle.ysay_json.specs.RefusalData.{refused_data}
use Rattle.ysay_json.specs.RefusalView.{refused_view}
use Rattle.ysay_json.proofs.WholeLemmas.{refused_whole, written}
use Rattle.ysay_json.proofs.refusal.refused_text.Goals as goal

pub returns : goal.returns
returns c =
    let r = refused_view c.args.refused in
    IfOk-weaker c.to_string.result _ _ (λ text so. written (json.view c.in_ok-refused_value.field-0) (refused_data r) (string_bytes text)
    c.in_ok-refused_value.ensures (refused_whole r) so) c.to_string.ensures.text
