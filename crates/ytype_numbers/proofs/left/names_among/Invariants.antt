use Rattle.std.proofs.Common.{◌≡◌, ◌++◌}
use Rattle.std.specs.Prelude.{filter}
use Rattle.yspec.specs.types.Names.{Assigned}
use Rattle.ytype_numbers.specs.Sets.{holds_word}
use Rattle.ytype_numbers.specs.Tables.{assigned, AreWords, AreBefore, AreAscending}
use Rattle.ytype_numbers.proofs.left.names_among.Given as goal

abbrev pub invariant-loop-number : goal.invariant-loop-number
invariant-loop-number l = record {
  left : l.left ++ filter (λ (a : Assigned). holds_word l.texts a.name) (assigned l.number-iterator)
      ≡ filter (λ (a : Assigned). holds_word l.texts a.name) l.names;
  before : AreBefore l.left (assigned l.number-iterator);
  ascending : AreAscending (assigned l.number-iterator);
  words : AreWords (assigned l.number-iterator);
}
