use Rattle.std.proofs.Common.{◌≡◌, drop, map}
use Rattle.ytext.specs.View.{view}
use Rattle.ysay_names.specs.Rows.{only_called}
use Rattle.ysay_names.proofs.rows.only_called.Given as goal

abbrev pub invariant-loop-place : goal.invariant-loop-place
invariant-loop-place l = only_called l.word l.name (map (λ s. view s.now) (drop l.place l.statements)) ≡ only_called l.word l.name (map (λ s. view s.now) l.statements)
