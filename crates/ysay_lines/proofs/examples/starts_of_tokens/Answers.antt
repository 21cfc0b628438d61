use Rattle.std.proofs.Common.{refl}
use Rattle.ysay_lines.specs.Starts.{starts_from}
use Rattle.ysay_lines.proofs.examples.starts_of_tokens.Goals as goal

pub returns : goal.returns
unfolding starts_from
returns c = record {
  none = refl;
  word = refl;
  nested = refl;
  in_strings = refl;
  close_together = refl;
}
