use Rattle.std.proofs.Common.{◌≡◌, ◌++◌}
use Rattle.std.specs.Prelude.{filter}
use Rattle.yspec.specs.types.Names.{Assigned, positions_of}
use Rattle.ytype_numbers.specs.Sets.{holds_word}
use Rattle.ytype_numbers.specs.Tables.{assigned}
use Rattle.ytype_numbers.proofs.bits.positions_among.Given as goal

abbrev pub invariant-loop-number : goal.invariant-loop-number
invariant-loop-number l = l.positions.items ++ positions_of (filter (λ (a : Assigned). holds_word l.words a.name) (assigned l.number-iterator))
    ≡ positions_of (filter (λ (a : Assigned). holds_word l.words a.name) l.names)
