use Rattle.std.proofs.Common.{refl}
use Rattle.json.proofs.OnLiterals.{json_on_literals}
use Rattle.yspec.proofs.LiteralLemmas.{yspec_on_literals}
use Rattle.ysay_repeated.specs.Repeated.{repeated_in}
use Rattle.ysay_repeated.proofs.examples.documents.Goals as goal

pub returns : goal.returns
unfolding yspec_on_literals json_on_literals repeated_in
returns c = record {
  none = refl;
  at_the_top = refl;
  of_a_leaf = refl;
  of_a_list = refl;
  in_an_entry = refl;
  of_two_entries = refl;
  escaped = refl;
  inner_first = refl;
  outer_first = refl;
  in_order_of_the_text = refl;
  three_times = refl;
  in_what_is_not_known = refl;
  no_json = refl;
}
