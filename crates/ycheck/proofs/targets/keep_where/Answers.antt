use Rattle.std.proofs.Common.{true, subst, sym}
use Rattle.std.proofs.lemmas.Result.{on_ok_weaker}
use Rattle.yschema_model.specs.Layout.{number_of}
use Rattle.ycheck.specs.Targets.{required_where, KeepsMore}
use Rattle.ycheck.proofs.KeepLemmas.{none_kept, one_kept}
use Rattle.ycheck.proofs.targets.keep_where.Goals as goal

pub returns-then-not-is_required-clause-kept : goal.returns-then-not-is_required-clause-kept
returns-then-not-is_required-clause-kept c =
    subst (λ b. KeepsMore c.args.targets.now c.args.targets.now (required_where b (number_of c.args.target))) (sym c.if-not-is_required.true) (none_kept c.args.targets.now)

pub returns-in-Some-clause-kept : goal.returns-in-Some-clause-kept
returns-in-Some-clause-kept c =
    let old = c.args.targets.now in
    let new = c.keep.new.self in
    on_ok_weaker c.keep.result (λ so. subst (λ b. KeepsMore old new (required_where b (number_of c.args.target))) (sym c.if-not-is_required.false)
    (subst (λ o. KeepsMore old new (required_where true (number_of o))) (sym c.in-Some.is) (one_kept old new c.in-Some.id.0 so))) c.keep.ensures.kept

pub returns-in-None-clause-kept : goal.returns-in-None-clause-kept
returns-in-None-clause-kept c =
    let old = c.args.targets.now in
    subst (λ b. KeepsMore old old (required_where b (number_of c.args.target))) (sym c.if-not-is_required.false)
    (subst (λ o. KeepsMore old old (required_where true (number_of o))) (sym c.in-None.is) (none_kept old))
