use Rattle.std.proofs.Common.{◌≡◌, ◌++◌, ◌+◌, drop, map}
use Rattle.yschema_model.specs.Layout.{tuples_view}
use Rattle.yschema_model.specs.View.{view}
use Rattle.ycheck.specs.Walk.{tables_from, entry_table}
use Rattle.ycheck.proofs.checking.repeated_entries.Given as goal

-- the answers so far, with those to the questions that are left
abbrev pub invariant-loop-index : goal.invariant-loop-index
invariant-loop-index l =
    let tuples = tuples_view l.tuples in
    map (λ marks. marks.items) l.table.items ++ tables_from (view l.schema) tuples l.found (l.index + 1) (drop l.index tuples.uniques)
    ≡ entry_table (view l.schema) tuples l.found
