use Rattle.std.proofs.Common.{◌≡◌, ◌++◌, map, length}
use denote.Text.{Utf8}
use denote.Shadow.{shadow}
use Rattle.yspec_search.specs.Search.{prefixes_in}
use Rattle.ylink_search.proofs.importing.add_prefixes.Given as goal

abbrev pub invariant-loop-slash : goal.invariant-loop-slash
invariant-loop-slash l = shadow (Utf8 l.rest) × (map (λ t. t.now) l.prefixes.items ++ prefixes_in l.rest
    ≡ map (λ t. t.now) l.initial.prefixes.items ++ prefixes_in l.initial.rest)

abbrev pub decreases-loop-slash : goal.decreases-loop-slash
decreases-loop-slash l = length l.rest
