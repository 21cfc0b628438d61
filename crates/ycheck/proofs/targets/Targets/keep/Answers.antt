use Rattle.std.proofs.Common.{sym, ◌∙◌}
use Rattle.ycheck.proofs.TargetLemmas.{kept_more}
use Rattle.ycheck.proofs.targets.Targets.keep.Goals as goal

pub returns-in_ok-insert-clause-kept : goal.returns-in_ok-insert-clause-kept
returns-in_ok-insert-clause-kept c = λ number.
    (kept_more c.args.self.now.sets c.insert.new.self c.args.id c.new.result (sym c.is_kept.ensures ∙ c.if-not-is_kept.true) c.new.ensures.empty c.in_ok-insert.ensures.updates.0 number).0

pub returns-in_ok-insert-clause-held : goal.returns-in_ok-insert-clause-held
returns-in_ok-insert-clause-held c = λ number.
    (kept_more c.args.self.now.sets c.insert.new.self c.args.id c.new.result (sym c.is_kept.ensures ∙ c.if-not-is_kept.true) c.new.ensures.empty c.in_ok-insert.ensures.updates.0 number).1
