use Rattle.std.proofs.Common.{◌≡◌, rules}
use Rattle.json.specs.Value.{value_view}
use Rattle.json.specs.declared.error.Error.TheVariants.{OutOfMemory}
use Rattle.yschema_model.specs.View.{view}
use Rattle.ysay_repeated.proofs.RepeatedLemmas.{read_so, refused_so, told_of_json, told_of_none, told_same}
use Rattle.ysay_repeated.proofs.place.first_repeated.Goals as goal

pub returns-in-Ok : goal.returns-in-Ok
returns-in-Ok c =
    let s = view c.args.schema.now in
    let j = value_view c.in-Ok.value in
    told_same c.first_at_top.result _ _ (told_of_json s c.args.bytes.now j (read_so c.args.bytes.now j c.in-Ok.ensures.ok.0 c.in-Ok.ensures.ok.1)) c.first_at_top.ensures

pub returns : goal.returns
returns c =
    let is_refused : c.in-Err.error ≡ OutOfMemory → ⊥ = search rules in
    told_of_none (view c.args.schema.now) c.args.bytes.now
    (refused_so c.in-Err.error c.args.bytes.now is_refused c.in-Err.ensures.never_too_long c.in-Err.ensures.never_duplicate c.in-Err.ensures.invalid)
