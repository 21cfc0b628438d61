use Rattle.std.proofs.Common.{refl}
use Rattle.yspec.proofs.LiteralLemmas.{yspec_on_literals}
use Rattle.ysay_text.specs.Line.{shown_line}
use Rattle.ysay_text.specs.Near.{is_near, nearest}
use Rattle.ysay_text.specs.Sentence.{of_line}
use Rattle.ysay_text.proofs.examples.words.Goals as goal

pub returns : goal.returns
unfolding yspec_on_literals is_near nearest of_line shown_line
returns c = record {
  near = refl;
  far = refl;
  unread = refl;
  near_unread = refl;
  control = refl;
  read_first = refl;
}
