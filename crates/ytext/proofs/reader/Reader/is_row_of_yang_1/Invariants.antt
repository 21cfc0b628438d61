use Rattle.std.proofs.Common.{◌≡◌}
use Rattle.ytext.specs.Reading.{ahead, tokens_ahead}
use Rattle.ytext.specs.Stated.{version_row}
use Rattle.ytext.proofs.reader.Reader.is_row_of_yang_1.Given as goal

abbrev pub invariant-loop-self : goal.invariant-loop-self
invariant-loop-self l = version_row (tokens_ahead l.self) ≡ version_row (tokens_ahead l.fn.self)

abbrev pub decreases-loop-self : goal.decreases-loop-self
decreases-loop-self l = ahead l.self
