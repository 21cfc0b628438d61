use Rattle.std.proofs.Common.{refl}
use Rattle.yspec.proofs.LiteralLemmas.{yspec_on_literals}
use Rattle.ysay_text.specs.Near.{is_near, nearest}
use Rattle.ysay_refusal.specs.Sentence.{said_of_refusal}
use Rattle.ysay_refusal.proofs.examples.members.Goals as goal

pub returns : goal.returns
unfolding yspec_on_literals is_near nearest said_of_refusal
returns c = record {
  near = refl;
  far = refl;
  without_module_near = refl;
  of_another_module = refl;
  with_module_near = refl;
  in_an_entry = refl;
  first = refl;
  without_module = refl;
  with_module = refl;
  control = refl;
}
