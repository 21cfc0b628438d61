use Rattle.std.proofs.Common.{◌≡◌, ◌++◌, drop, map}
use Rattle.ytext.specs.View.{row_view, view}
use Rattle.ysay_names.specs.Rows.{entries}
use Rattle.ysay_names.proofs.rows.+entries.Given as goal

abbrev pub invariant-add_row_entries-loop-statement : goal.invariant-add_row_entries-loop-statement
invariant-add_row_entries-loop-statement l = map (λ s. view s.now) l.found.items ++ entries (row_view (drop l.statement-index l.statements))
    ≡ map (λ s. view s.now) l.fn.found.items ++ entries (row_view l.statements)
