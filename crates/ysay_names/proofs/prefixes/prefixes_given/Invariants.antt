use Rattle.std.proofs.Common.{◌≡◌, ◌++◌, drop, map}
use Rattle.ysay_text.specs.Labels.{labels}
use Rattle.ysay_names.specs.Prefixes.{prefixes_given}
use Rattle.ysay_names.proofs.prefixes.prefixes_given.Given as goal

abbrev pub invariant-loop-statement : goal.invariant-loop-statement
invariant-loop-statement l = map (λ t. t.now) l.prefixes.items ++ prefixes_given (labels (drop l.statement-index l.statements)) ≡ prefixes_given (labels l.statements)
