use Rattle.std.proofs.Common.{◌≡◌, ◌≤◌, ◌+◌, ◌-◌, ◌*◌}
use Rattle.ytext.specs.Reading.{ahead, rows, tokens_ahead}
use Rattle.ytext.specs.View.{row_view}
use Rattle.ytext.proofs.RowLemmas.{with_front}
use Rattle.ytext.proofs.reader.Reader.+reading.Given as goal

abbrev pub decreases-body : goal.decreases-body
decreases-body l = 4 * (65 - l.level)

abbrev pub decreases-statement : goal.decreases-statement
decreases-statement l = 4 * (65 - l.level) + 1

abbrev pub decreases-statements : goal.decreases-statements
decreases-statements l = 4 * (65 - l.level) + 2

abbrev pub decreases-block : goal.decreases-block
decreases-block l = 4 * (65 - l.level) + 3

abbrev pub invariant-statements-loop-self : goal.invariant-statements-loop-self
invariant-statements-loop-self l = record {
  ahead : ahead l.self ≤ ahead l.fn.self;
  rest : with_front (row_view l.subs.items) (rows l.level (tokens_ahead l.self)) ≡ rows l.level (tokens_ahead l.fn.self);
}

abbrev pub decreases-statements-loop-self : goal.decreases-statements-loop-self
decreases-statements-loop-self l = ahead l.self
