use Rattle.std.proofs.Common.{◌≡◌, drop}
use Rattle.std.specs.Prelude.{option_and_then}
use Rattle.yschema_augment.specs.Searching.{reached, target_in}
use Rattle.yschema_augment.specs.SearchView.{look_in, names_in}
use Rattle.yschema_augment.proofs.search.Search.target.Given as goal

-- the steps that are left lead from the node so far to where all lead
abbrev pub invariant-loop-step : goal.invariant-loop-step
invariant-loop-step l = option_and_then (λ o. o) (reached (look_in l.self) l.above (names_in l.self (drop l.step-index l.path)))
    ≡ target_in (look_in l.self) (names_in l.self l.path)
