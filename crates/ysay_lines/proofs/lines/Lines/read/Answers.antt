use Rattle.std.proofs.Common.{◌≡◌, ◌∙◌, rules}
use Rattle.json.specs.Value.{value_view}
use Rattle.json.specs.declared.error.Error.TheVariants.{OutOfMemory}
use Rattle.yschema_model.specs.View.{view}
use Rattle.ysay_repeated.proofs.RepeatedLemmas.{read_so, refused_so}
use Rattle.ysay_lines.proofs.LinesLemmas.{lines_told, told_of_none}
use Rattle.ysay_lines.proofs.lines.Lines.read.Goals as goal

pub returns-in-Ok : goal.returns-in-Ok
returns-in-Ok c =
    let j = value_view c.in-Ok.value in
    lines_told c.lines_of.result (view c.args.schema.now) c.args.bytes.now j (read_so c.args.bytes.now j c.in-Ok.ensures.ok.0 c.in-Ok.ensures.ok.1) c.lines_of.ensures

pub returns : goal.returns
returns c =
    let is_refused : c.in-Err.error ≡ OutOfMemory → ⊥ = search rules in
    λ place. c.no_lines.ensures place
    ∙ told_of_none (view c.args.schema.now) c.args.bytes.now place
    (refused_so c.in-Err.error c.args.bytes.now is_refused c.in-Err.ensures.never_too_long c.in-Err.ensures.never_duplicate c.in-Err.ensures.invalid)
