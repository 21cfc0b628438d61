use Rattle.std.proofs.Common.{◌≡◌, rules}
use Rattle.std.specs.Bool.{Decides}
use Rattle.json.specs.Value.{value_view}
use Rattle.json.specs.declared.error.Error.TheVariants.{OutOfMemory, DuplicateKey}
use Rattle.ysay_repeated.proofs.UniqueLemmas.{fault_judged, unique_judged}
use Rattle.ysay_repeated.proofs.value.has_repeated.Goals as goal

pub returns-in-Ok : goal.returns-in-Ok
returns-in-Ok c = unique_judged c.args.text.now (value_view c.in-Ok.field-0) c.utf8.text c.in-Ok.ensures.ok c.in-Ok.ensures.unique

pub returns : goal.returns
returns c =
    let is_refused : c.in-Err-2.error ≡ OutOfMemory → ⊥ = search rules in
    let decides : Decides c.eq-in-Err-2.result (c.in-Err-2.error ≡ DuplicateKey) = search rules in
    fault_judged c.in-Err-2.error c.eq-in-Err-2.result c.args.text.now c.utf8.text is_refused decides c.in-Err-2.ensures.never_too_long c.in-Err-2.ensures.invalid c.in-Err-2.ensures.duplicate
