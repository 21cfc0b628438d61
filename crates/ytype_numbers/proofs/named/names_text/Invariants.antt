use Rattle.std.proofs.Common.{◌≡◌, ◌++◌, true}
use Rattle.std.specs.Prelude.{filter, string_bytes}
use Rattle.yspec.specs.types.Names.{Assigned}
use Rattle.yspec.specs.types.Values.{spaced_from}
use Rattle.ytype_numbers.specs.Tables.{assigned}
use Rattle.ytype_numbers.specs.Positions.{holds_position}
use Rattle.ytype_numbers.proofs.named.names_text.Given as goal

abbrev pub invariant-loop-number : goal.invariant-loop-number
invariant-loop-number l = string_bytes l.text ++ spaced_from l.first (filter (λ (a : Assigned). holds_position l.positions a.number) (assigned l.number-iterator))
    ≡ spaced_from true (filter (λ (a : Assigned). holds_position l.positions a.number) l.names)
