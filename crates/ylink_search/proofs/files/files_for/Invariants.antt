use Rattle.std.proofs.Common.{◌≡◌, ◌++◌, map, drop, string_bytes}
use Rattle.yspec_search.specs.Search.{files_for}
use Rattle.ylink_search.specs.WantedView.{wanted_view}
use Rattle.ylink_search.proofs.files.files_for.Given as goal

abbrev pub invariant-loop-folder : goal.invariant-loop-folder
invariant-loop-folder l = map string_bytes l.files.items ++ files_for (map (λ t. t.now) (drop l.folder-index l.folders)) (wanted_view l.fn.wanted)
    ≡ files_for (map (λ t. t.now) l.fn.folders) (wanted_view l.fn.wanted)
