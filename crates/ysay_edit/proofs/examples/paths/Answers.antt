use Rattle.std.proofs.Common.{refl}
use Rattle.yspec.proofs.LiteralLemmas.{yspec_on_literals}
use Rattle.ysay_text.specs.Near.{is_near, nearest}
use Rattle.ysay_edit.proofs.examples.paths.Goals as goal

pub returns : goal.returns
unfolding yspec_on_literals is_near nearest
returns c = record {
  near = refl;
  far = refl;
  below_an_entry = refl;
  below_a_leaf = refl;
  without_module = refl;
  with_module = refl;
  first = refl;
  known = refl;
}
