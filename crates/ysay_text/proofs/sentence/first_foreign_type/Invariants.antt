use Rattle.std.proofs.Common.{◌≡◌, drop, find}
use Rattle.ysay_text.specs.Sentence.{is_foreign_type}
use Rattle.ysay_text.specs.Labels.{labels}
use Rattle.ysay_text.proofs.sentence.first_foreign_type.Given as goal

abbrev pub invariant-loop-statement : goal.invariant-loop-statement
invariant-loop-statement l = find is_foreign_type (labels (drop l.statement-index l.statements)) ≡ find is_foreign_type (labels l.statements)
