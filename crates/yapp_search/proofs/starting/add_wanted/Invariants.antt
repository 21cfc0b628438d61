use Rattle.std.proofs.Common.{◌≡◌, ◌++◌}
use Rattle.yspec_search.specs.Search.{wanted_below}
use Rattle.std.proofs.Common.{[], ◌∷◌}
use Rattle.ytext.specs.View.{modules_view}
use Rattle.ylink_search.specs.WantedView.{wanted_views}
use Rattle.yapp_search.proofs.starting.add_wanted.Given as goal

abbrev pub invariant-loop-import : goal.invariant-loop-import
invariant-loop-import l = wanted_views l.wanted.items ++ wanted_views l.import-iterator.rest.items
    ≡ wanted_views l.fn.wanted.items ++ wanted_below (modules_view (l.fn.module ∷ []))
