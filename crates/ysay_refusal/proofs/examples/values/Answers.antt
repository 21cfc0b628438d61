use Rattle.std.proofs.Common.{refl}
use Rattle.yspec.proofs.LiteralLemmas.{yspec_on_literals}
use Rattle.ysay_text.specs.Near.{is_near, nearest}
use Rattle.ysay_refusal.specs.Sentence.{said_of_refusal}
use Rattle.ysay_refusal.proofs.examples.values.Goals as goal

pub returns : goal.returns
unfolding yspec_on_literals is_near nearest said_of_refusal
returns c = record {
  no_object = refl;
  no_array = refl;
  no_entry = refl;
  no_value = refl;
  null_value = refl;
  flag = refl;
  fraction = refl;
  fraction_for_text = refl;
  is_read = refl;
}
