use Rattle.std.proofs.Common.{◌≡◌, ◌++◌, drop, map}
use Rattle.std.specs.Prelude.{option_map}
use Rattle.yschema_model.specs.Layout.{tuples_view}
use Rattle.yschema_model.specs.View as schema_view
use Rattle.ycheck.specs.Repeated.{tuples_of}
use Rattle.ycheck.proofs.repeated.repeated_tuples.Given as goal

-- the tuples so far with those of the entries that are left
abbrev pub invariant-loop-entry : goal.invariant-loop-entry
invariant-loop-entry l = let s = schema_view.view l.schema in
    map (option_map (λ vs. vs.items)) l.found.items ++ tuples_of s (tuples_view l.tuples) l.number (drop l.entry-index l.entries) ≡ tuples_of s (tuples_view l.tuples) l.number l.entries
