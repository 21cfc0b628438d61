use Rattle.std.proofs.Common.{ap, ◌∙◌}
use Rattle.std.specs.Prelude.{option_and_then, option_map}
use Rattle.std.proofs.lemmas.Result.{IfOk-weaker}
use Rattle.ytype.specs.View.{raw_of}
use Rattle.ysay_fault.specs.Sentences.{target_by}
use Rattle.ysay_fault.proofs.sentences.target_at.Goals as goal

pub returns-in-Some : goal.returns-in-Some
returns-in-Some c =
    let raw = option_map (λ r. raw_of r.now) c.args.raw in
    IfOk-weaker c.target_by.result _ _ (λ target so. so ∙ ap (option_and_then (λ t. target_by t raw)) c.in-Some.ensures) c.target_by.ensures

pub returns-in-None : goal.returns-in-None
returns-in-None c =
    let raw = option_map (λ r. raw_of r.now) c.args.raw in ap (option_and_then (λ t. target_by t raw)) c.in-None.ensures
