use Rattle.std.proofs.Common.{sym, ap, ◌∙◌}
use Rattle.std.specs.Prelude.{option_map}
use Rattle.std.proofs.lemmas.Result.{IfOk-weaker}
use Rattle.yspec.specs.Forest.{first_of}
use Rattle.ytype.specs.View.{raw_of}
use Rattle.yschema_model.specs.Layout.{leaf_type_view, number_of}
use Rattle.ysay_fault.specs.Sentences.{member_target}
use Rattle.ysay_fault.proofs.sentences.target_by.Goals as goal

pub returns-in-Some : goal.returns-in-Some
returns-in-Some c =
    let other = member_target (leaf_type_view c.args.leaf_type.now) (option_map (λ r. raw_of r.now) c.args.raw) in
    sym (ap (λ o. first_of (number_of o) other) c.in-Some.is)

pub returns-in-None : goal.returns-in-None
returns-in-None c =
    let other = member_target (leaf_type_view c.args.leaf_type.now) (option_map (λ r. raw_of r.now) c.args.raw) in
    IfOk-weaker c.member_target.result _ _ (λ target so. so ∙ sym (ap (λ o. first_of (number_of o) other) c.in-None.is)) c.member_target.ensures
