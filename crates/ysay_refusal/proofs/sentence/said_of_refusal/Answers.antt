use Rattle.std.proofs.Common.{◌∙◌, rules}
use Rattle.std.proofs.lemmas.Result.{IfOk-weaker}
use Rattle.serde_json.specs.Errors.{IsMemory}
use Rattle.serde_json.specs.View as json
use Rattle.yspec.proofs.DocumentProofs.JsonLemmas.{json_found, no_json}
use Rattle.yschema_model.specs.View.{view}
use Rattle.yinst_tree.specs.Told.{code_number}
use Rattle.yinst_tree.specs.View.{place_view}
use Rattle.ysay_refusal.proofs.MemberLemmas.{of_json, of_no_json}
use Rattle.ysay_refusal.proofs.sentence.said_of_refusal.Goals as goal

pub returns-in-Ok : goal.returns-in-Ok
returns-in-Ok c =
    of_json c.said_of_value.result (view c.args.schema.now) c.args.bytes.now (record { code = code_number c.args.code; place = place_view c.args.place.now })
    (json.view c.in-Ok.value) (json_found c.args.bytes.now (json.view c.in-Ok.value) c.in-Ok.ensures.ok.0 c.in-Ok.ensures.ok.1) c.said_of_value.ensures

pub returns-in-Err-2 : goal.returns-in-Err-2
returns-in-Err-2 c =
    let is_refused : IsMemory c.in-Err.error → ⊥ = search rules in
    IfOk-weaker c.said_of_no_json.result _ _ (λ text e. e ∙ of_no_json (view c.args.schema.now) c.args.bytes.now
    (record { code = code_number c.args.code; place = place_view c.args.place.now })
    (no_json c.args.bytes.now (c.in-Err.ensures.err is_refused))) c.said_of_no_json.ensures
