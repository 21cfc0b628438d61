use Rattle.std.proofs.Common.{[], ◌∷◌, subst, sym}
use Rattle.std.proofs.lemmas.Result.{on_ok_weaker}
use Rattle.yschema_model.specs.Layout.{targets_view}
use Rattle.ycheck.specs.Targets.{required_by_members, KeepsMore}
use Rattle.ycheck.proofs.KeepLemmas.{all_kept, one_is, own_kept}
use Rattle.ycheck.proofs.targets.keep_each.Goals as goal

pub returns-in-Own-clause-kept : goal.returns-in-Own-clause-kept
returns-in-Own-clause-kept c =
    let old = c.args.targets.now in
    subst (λ m. KeepsMore old old (required_by_members (targets_view (m ∷ [])))) (sym c.in-Own.is) (own_kept old c.in-Own.field-0)

pub returns-in-One-clause-kept : goal.returns-in-One-clause-kept
returns-in-One-clause-kept c =
    let old = c.args.targets.now in
    let new = c.keep_where.new.targets in
    on_ok_weaker c.keep_where.result (λ so. subst (λ m. KeepsMore old new (required_by_members (targets_view (m ∷ [])))) (sym c.in-One.is)
    (subst (KeepsMore old new) (one_is c.in-One.target c.in-One.is_required) so)) c.keep_where.ensures.kept

pub returns-in-All-clause-kept : goal.returns-in-All-clause-kept
returns-in-All-clause-kept c =
    let old = c.args.targets.now in
    let new = c.keep_all.new.targets in
    on_ok_weaker c.keep_all.result (λ so. subst (λ m. KeepsMore old new (required_by_members (targets_view (m ∷ [])))) (sym c.in-All.is)
    (all_kept old new c.in-All.target c.in-All.count c.in-All.is_required so)) c.keep_all.ensures.kept
