use Rattle.std.proofs.Common.{subst}
use Rattle.std.specs.Prelude.{option_to_list}
use Rattle.std.proofs.lemmas.Result.{on_ok_weaker}
use Rattle.yschema_model.specs.Layout.{number_of}
use Rattle.yschema_model.specs.References.{targets_of, HoldsMore}
use Rattle.yschema_model.proofs.ReferenceLemmas.{more_in_turn}
use Rattle.yschema_model.proofs.references.References.add_type.Goals as goal

pub returns : goal.returns
returns c =
    let type = c.args.leaf_type.now in
    let some = option_to_list (number_of type.target) in
    on_ok_weaker c.add_members.result (λ more. more_in_turn c.args.self.now c.add_whole.new.self c.add_members.new.self c.args.id.0 some (targets_of type.targets.items) c.in_ok-add_whole.ensures
    (subst (λ targets. HoldsMore c.add_whole.new.self c.add_members.new.self c.args.id.0 (targets_of targets)) c.deref.ensures.value more)) c.add_members.ensures
