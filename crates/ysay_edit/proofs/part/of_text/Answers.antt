use Rattle.std.proofs.Common.{◌∙◌, rules}
use Rattle.serde_json.specs.Errors.{IsMemory}
use Rattle.serde_json.specs.View as json
use Rattle.yspec.proofs.DocumentProofs.JsonLemmas.{json_found, no_json}
use Rattle.yschema_model.specs.View.{view}
use Rattle.ysay_edit.proofs.PartLemmas.{of_json_text, of_no_json_text}
use Rattle.ysay_edit.proofs.part.of_text.Goals as goal

pub returns-in-Ok : goal.returns-in-Ok
returns-in-Ok c =
    of_json_text c.of_value.result (view c.args.schema.now) c.args.id.0 c.args.text.now c.as_bytes.result.now
    (json.view c.in-Ok.value) c.as_bytes.ensures.value (json_found c.as_bytes.result.now (json.view c.in-Ok.value) c.in-Ok.ensures.ok.0 c.in-Ok.ensures.ok.1) c.of_value.ensures

pub returns-in-Err-2 : goal.returns-in-Err-2
returns-in-Err-2 c =
    let is_refused : IsMemory c.in-Err.error → ⊥ = search rules in
    c.new.ensures.bytes
    ∙ of_no_json_text (view c.args.schema.now) c.args.id.0 c.args.text.now c.as_bytes.result.now c.as_bytes.ensures.value
    (no_json c.as_bytes.result.now (c.in-Err.ensures.err is_refused))
