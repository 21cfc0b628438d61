use Rattle.std.proofs.Common.{◌≡◌, ◌++◌, map, drop}
use Rattle.yspec_search.specs.Search.{wanted_in}
use Rattle.ytext.specs.View.{row_view}
use Rattle.ylink_search.specs.WantedView.{wanted_views}
use Rattle.ylink_search.proofs.importing.wanted_in.Given as goal

abbrev pub invariant-loop-statement : goal.invariant-loop-statement
invariant-loop-statement l = wanted_views l.wanted.items ++ wanted_in (map (λ t. t.now) l.prefixes) (row_view (drop l.statement-index l.row))
    ≡ wanted_in (map (λ t. t.now) l.prefixes) (row_view l.row)
