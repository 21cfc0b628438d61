use Rattle.std.proofs.Common.{◌≡◌, ◌++◌, map, drop}
use Rattle.yspec_search.specs.Search.{augmented_in}
use Rattle.ytext.specs.View.{row_view}
use Rattle.ylink_search.proofs.importing.augmented_in.Given as goal

abbrev pub invariant-loop-statement : goal.invariant-loop-statement
invariant-loop-statement l = map (λ t. t.now) l.prefixes.items ++ augmented_in (row_view (drop l.statement-index l.row))
    ≡ augmented_in (row_view l.fn.row)
