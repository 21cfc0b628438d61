use Rattle.std.proofs.Common.{◌++◌, [], ◌∷◌, map, sym, ap, ap₂, ◌∙◌}
use Rattle.std.specs.List.{range_with_len}
use Rattle.yschema_model.specs.Layout.{targets_view}
use Rattle.yschema_model.proofs.TargetLemmas.{targets_pushed}
use Rattle.yschema_types.specs.MadeTypes.{each_target, one_target}
use Rattle.yschema_types.proofs.MakingLemmas.{each_of_union, one_of_single}
use Rattle.yschema_types.proofs.making.add_targets.Goals as goal

pub returns-then-is_union : goal.returns-then-is_union
returns-then-is_union c =
    let old = targets_view c.args.targets.now.items in
    let required = c.args.required in
    c.in_ok-add_each.ensures
    ∙ ap (λ l. old ++ l) (ap₂ (λ n k. map (each_target n required) (range_with_len 0 k)) (ap (λ t. t.0) c.new-target.ensures) c.member_count.ensures
    ∙ each_of_union c.args.number required c.args.value_type.now.shape (sym c.is_union.ensures ∙ c.if-is_union.true))

pub returns : goal.returns
returns c =
    let old = targets_view c.args.targets.now.items in
    let required = c.args.required in
    ap targets_view c.in_ok-push.ensures.items
    ∙ (targets_pushed c.args.targets.now.items _
    ∙ ap (λ l. old ++ l) (ap (λ n. one_target n required ∷ []) (ap (λ t. t.0) c.new-target.ensures)
    ∙ one_of_single c.args.number required c.args.value_type.now.shape (sym c.is_union.ensures ∙ c.if-is_union.false)))
