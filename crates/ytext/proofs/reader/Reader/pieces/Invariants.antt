use Rattle.std.proofs.Common.{◌≡◌, ◌<◌, string_bytes}
use Rattle.yspec.specs.text.Statement.{pieces}
use Rattle.ytext.specs.Reading.{ahead, tokens_ahead}
use Rattle.ytext.proofs.PieceLemmas.{going}
use Rattle.ytext.proofs.reader.Reader.pieces.Given as goal

abbrev pub invariant-loop-line : goal.invariant-loop-line
invariant-loop-line l = record {
  ahead : ahead l.self < ahead l.fn.self;
  rest : going (string_bytes l.text) (tokens_ahead l.self) ≡ pieces (tokens_ahead l.fn.self);
}

abbrev pub decreases-loop-line : goal.decreases-loop-line
decreases-loop-line l = ahead l.self
