use Rattle.std.proofs.Common.{refl}
use Rattle.yspec.proofs.LiteralLemmas.{yspec_on_literals}
use Rattle.ysay_refusal.specs.NoJson.{said_of_no_json}
use Rattle.ysay_refusal.specs.Sentence.{said_of_refusal}
use Rattle.ysay_refusal.proofs.examples.texts.Goals as goal

pub returns : goal.returns
unfolding yspec_on_literals said_of_no_json said_of_refusal
returns c = record {
  comma_in_object = refl;
  comma_in_array = refl;
  comment = refl;
  block = refl;
  single_quotes = refl;
  early_end = refl;
  in_a_text = refl;
  other_before = refl;
  no_quotes = refl;
  too_many = refl;
  nothing = refl;
}
