use Rattle.std.proofs.Common.{◌≡◌, ◌++◌, drop, map}
use Rattle.yschema_plan.specs.Finding.{row_name}
use Rattle.yschema_plan.proofs.finding.names_of.Given as goal

abbrev pub invariant-loop-row : goal.invariant-loop-row
invariant-loop-row l = map (λ t. t.now) l.names.items ++ map row_name (drop l.row-index l.rows) ≡ map row_name l.rows
