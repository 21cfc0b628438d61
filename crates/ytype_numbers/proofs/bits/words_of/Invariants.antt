use Rattle.std.proofs.Common.{◌≡◌, ◌++◌, drop}
use Rattle.std.specs.Prelude.{filter}
use Rattle.yspec.specs.types.Names.{is_word}
use Rattle.ytype_numbers.specs.Words.{words_in}
use Rattle.ytype_numbers.proofs.bits.words_of.Given as goal

abbrev pub invariant-pieces : goal.invariant-pieces
invariant-pieces l = words_in l.words.items ++ filter is_word (words_in (drop l.piece-index l.piece-items)) ≡ filter is_word (words_in l.piece-items)
