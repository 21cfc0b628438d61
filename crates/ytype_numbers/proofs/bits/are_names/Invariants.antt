use Rattle.std.proofs.Common.{◌≡◌, drop, map}
use Rattle.std.specs.List.{list_all}
use Rattle.yspec.specs.types.Names.{Assigned, is_among}
use Rattle.ytype_numbers.specs.Words.{words_in}
use Rattle.ytype_numbers.proofs.bits.are_names.Given as goal

abbrev pub invariant-words : goal.invariant-words
invariant-words l = list_all (is_among (map (λ (a : Assigned). a.name) l.names)) (words_in (drop l.word-index l.words)) ≡ list_all (is_among (map (λ (a : Assigned). a.name) l.names)) (words_in l.words)
