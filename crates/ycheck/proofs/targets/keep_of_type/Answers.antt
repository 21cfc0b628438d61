use Rattle.std.proofs.Common.{false, ap, subst, ◌∙◌}
use Rattle.std.specs.Prelude.{unwrap_or}
use Rattle.std.proofs.lemmas.Result.{on_ok_weaker}
use Rattle.yspec.specs.schema.References.{requires_instance}
use Rattle.yschema_model.specs.Layout.{number_of, targets_view}
use Rattle.ycheck.specs.Targets.{required_by_members, required_where, KeepsMore}
use Rattle.ycheck.proofs.KeepLemmas.{kept_in_turn}
use Rattle.ycheck.proofs.targets.keep_of_type.Goals as goal

pub returns-clause-kept : goal.returns-clause-kept
returns-clause-kept c =
    let type = c.args.leaf_type.now in
    let first = c.keep_where.new.targets in
    let new = c.keep_members.new.targets in
    on_ok_weaker c.keep_members.result (λ more. kept_in_turn c.args.targets.now first new (required_where (requires_instance type.value_type) (number_of type.target))
    (required_by_members (targets_view type.targets.items))
    (subst (λ b. KeepsMore c.args.targets.now first (required_where b (number_of type.target))) (c.unwrap_or-is_required.ensures ∙ ap (λ o. unwrap_or o false) c.requires_instance.ensures)
    c.in_ok-keep_where.ensures.kept)
    (subst (λ members. KeepsMore first new (required_by_members (targets_view members))) c.deref.ensures.value more)) c.keep_members.ensures.kept

pub returns-clause-held : goal.returns-clause-held
returns-clause-held c =
    on_ok_weaker c.keep_members.result (λ more number v. more number v ∙ c.in_ok-keep_where.ensures.held number v) c.keep_members.ensures.held
