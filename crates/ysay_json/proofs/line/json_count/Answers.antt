use Rattle.std.proofs.Common.{string_bytes, refl}
use Rattle.std.proofs.lemmas.Result.{IfOk-weaker}
use Rattle.serde_json.specs.View as json
use Rattle.ysay_json.specs.FaultData.{count_data}
use Rattle.ysay_json.proofs.WholeLemmas.{written}
use Rattle.ysay_json.proofs.line.json_count.Goals as goal

pub returns : goal.returns
returns c = IfOk-weaker c.to_string.result _ _ (λ text so. written (json.view c.in_ok-count_value.field-0) (count_data c.args.count) (string_bytes text)
    c.in_ok-count_value.ensures refl so) c.to_string.ensures.text
