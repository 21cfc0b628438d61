use Rattle.std.proofs.Common.{◌≡◌, ◌||◌, drop}
use Rattle.std.specs.List.{list_any}
use Rattle.yspec.specs.text.Text.{Text}
use Rattle.yspec.specs.types.Names.{is_among, has_twice}
use Rattle.ytype_numbers.specs.Words.{words_in}
use Rattle.ytype_numbers.specs.Sets.{holds_word}
use Rattle.ytype_numbers.proofs.bits.set_of.Given as goal

abbrev pub invariant-words : goal.invariant-words
invariant-words l = record {
  twice : (list_any (holds_word l.set) (words_in (drop l.word-index l.words)) || has_twice (words_in (drop l.word-index l.words))) ≡ has_twice (words_in l.words);
  among : (text : Text) → (holds_word l.set text || is_among (words_in (drop l.word-index l.words)) text) ≡ is_among (words_in l.words) text;
}
