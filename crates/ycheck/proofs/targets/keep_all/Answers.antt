use Rattle.std.proofs.Common.{Some, Bool, cond, [], subst, sym, eq-eqb}
use Rattle.std.proofs.lemmas.Bool.{ne_eqb}
use Rattle.std.proofs.lemmas.Result.{on_ok_weaker}
use Rattle.ycheck.specs.Targets.{required_where, KeepsMore}
use Rattle.ycheck.proofs.KeepLemmas.{none_kept}
use Rattle.ycheck.proofs.targets.keep_all.Goals as goal

pub returns-then-count-eq0-clause-kept : goal.returns-then-count-eq0-clause-kept
returns-then-count-eq0-clause-kept c =
    let old = c.args.targets.now in
    subst (λ (b : Bool). KeepsMore old old (cond b [] (required_where c.args.is_required (Some c.args.target.0)))) (sym (eq-eqb c.args.count 0 c.if-count-eq0.true)) (none_kept old)

pub returns-clause-kept : goal.returns-clause-kept
returns-clause-kept c =
    let old = c.args.targets.now in
    on_ok_weaker c.keep_where.result
    (subst (λ (b : Bool). KeepsMore old c.keep_where.new.targets (cond b [] (required_where c.args.is_required (Some c.args.target.0)))) (sym (ne_eqb c.args.count 0 c.if-count-eq0.false)))
    c.keep_where.ensures.kept
