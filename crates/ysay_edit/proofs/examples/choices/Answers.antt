use Rattle.std.proofs.Common.{refl}
use Rattle.yspec.proofs.LiteralLemmas.{yspec_on_literals}
use Rattle.ysay_text.specs.Near.{is_near, nearest}
use Rattle.ysay_edit.proofs.examples.choices.Goals as goal

pub returns : goal.returns
unfolding yspec_on_literals is_near nearest
returns c = record {
  a_choice = refl;
  with_module = refl;
  a_case = refl;
  inner = refl;
  of_a_leaf = refl;
  elsewhere = refl;
}
