use Rattle.std.proofs.Common.{◌≡◌, [], Option, IfOk, string_bytes, rules, subst, sym, ap, ◌∙◌}
use Rattle.std.specs.Option.{option_map_or}
use Rattle.serde_json.specs.Data.{Data}
use Rattle.serde_json.specs.Errors.{IsMemory}
use Rattle.serde_json.specs.View as json
use Rattle.yspec.proofs.DocumentProofs.JsonLemmas.{json_found, no_json}
use Rattle.yschema_model.specs.View.{view}
use Rattle.ysay_refusals.specs.Lines.{lines_behind}
use Rattle.ysay_refusals.specs.Remarks.{all_remarks}
use Rattle.ysay_refusals.proofs.lines.others_in.Goals as goal

pub returns-in-Ok : goal.returns-in-Ok
returns-in-Ok c =
    let s = view c.args.schema.now in
    subst (λ (o : Option Data). IfOk c.lines_behind.result (λ lines. string_bytes lines ≡ option_map_or (λ d. lines_behind s (all_remarks s d)) o []))
    (sym (json_found c.args.bytes.now (json.view c.in-Ok.value) c.in-Ok.ensures.ok.0 c.in-Ok.ensures.ok.1)) c.lines_behind.ensures

pub returns-in-Err-2 : goal.returns-in-Err-2
returns-in-Err-2 c =
    let s = view c.args.schema.now in
    let is_refused : IsMemory c.in-Err.error → ⊥ = search rules in
    c.new.ensures.bytes
    ∙ sym (ap (λ (o : Option Data). option_map_or (λ d. lines_behind s (all_remarks s d)) o []) (no_json c.args.bytes.now (c.in-Err.ensures.err is_refused)))
