use Rattle.std.proofs.Common.{sym, ap, ◌∙◌}
use Rattle.std.specs.Prelude.{option_and_then, option_map}
use Rattle.yspec.specs.schema.References.{member_target, number_of}
use Rattle.yschema_model.specs.Layout.{targets_view}
use Rattle.ysay_fault.proofs.sentences.member_target.Goals as goal

pub returns-in-Some : goal.returns-in-Some
returns-in-Some c =
    c.target_of.ensures
    ∙ ap (λ o. option_map number_of (option_and_then (member_target (targets_view c.args.leaf_type.now.targets.items)) o)) (sym c.in-Some.is ∙ c.in_ok-value.ensures)

pub returns-in-None : goal.returns-in-None
returns-in-None c =
    ap (λ o. option_map number_of (option_and_then (member_target (targets_view c.args.leaf_type.now.targets.items)) o)) (sym c.in-None.is ∙ c.in_ok-value.ensures)
