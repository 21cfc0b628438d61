use Rattle.std.proofs.Common.{◌≡◌, ◌++◌, drop}
use Rattle.yspec.specs.types.Names.{texts_of}
use Rattle.ytype_numbers.specs.Words.{words_in}
use Rattle.ytype_numbers.proofs.left.texts_of.Given as goal

abbrev pub invariant-namings : goal.invariant-namings
invariant-namings l = words_in l.texts.items ++ texts_of (drop l.naming-index l.namings) ≡ texts_of l.namings
