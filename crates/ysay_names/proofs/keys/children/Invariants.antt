use Rattle.std.proofs.Common.{◌≡◌, ◌++◌, drop, map}
use Rattle.ytext.specs.View.{row_view}
use Rattle.ysay_names.specs.Keys.{children}
use Rattle.ysay_names.proofs.keys.children.Given as goal

abbrev pub invariant-loop-statement : goal.invariant-loop-statement
invariant-loop-statement l = map (λ t. t.now) l.names.items ++ children (row_view (drop l.statement-index l.row)) ≡ children (row_view l.fn.row)
