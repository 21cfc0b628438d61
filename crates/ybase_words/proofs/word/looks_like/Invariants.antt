use Rattle.std.proofs.Common.{◌≡◌, drop}
use Rattle.yspec.specs.linking.Arguments.{looks_like}
use Rattle.ybase_words.proofs.word.looks_like.Given as goal

abbrev pub invariant-loop-mark : goal.invariant-loop-mark
invariant-loop-mark l = looks_like (drop l.mark-index l.shape) l.rest ≡ looks_like l.shape l.text
