use Rattle.std.proofs.Common.{◌≡◌, ◌++◌, drop, map}
use Rattle.ytext.specs.View.{row_view}
use Rattle.ysay_names.specs.Prefixes.{prefixes_of}
use Rattle.ysay_names.proofs.prefixes.prefixes_of.Given as goal

abbrev pub invariant-loop-statement : goal.invariant-loop-statement
invariant-loop-statement l = map (λ t. t.now) l.prefixes.items ++ prefixes_of (row_view (drop l.statement-index l.row)) ≡ prefixes_of (row_view l.fn.row)
