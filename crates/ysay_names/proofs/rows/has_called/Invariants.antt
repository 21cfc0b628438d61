use Rattle.std.proofs.Common.{◌≡◌, drop, map}
use Rattle.std.specs.List.{list_any}
use Rattle.ytext.specs.View.{view}
use Rattle.ysay_names.specs.Rows.{is_called}
use Rattle.ysay_names.proofs.rows.has_called.Given as goal

abbrev pub invariant-loop-statement : goal.invariant-loop-statement
invariant-loop-statement l = list_any (is_called l.word l.name) (map (λ s. view s.now) (drop l.statement-index l.statements))
    ≡ list_any (is_called l.word l.name) (map (λ s. view s.now) l.statements)
