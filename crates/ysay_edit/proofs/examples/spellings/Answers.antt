use Rattle.std.proofs.Common.{refl}
use Rattle.yspec.proofs.LiteralLemmas.{yspec_on_literals}
use Rattle.ysay_text.specs.Near.{is_near, nearest}
use Rattle.ysay_edit.proofs.examples.spellings.Goals as goal

pub returns : goal.returns
unfolding yspec_on_literals is_near nearest
returns c = record {
  other_verb = refl;
  near_verb = refl;
  tab = refl;
  tab_behind_other = refl;
  no_verb = refl;
  no_path = refl;
  no_slash = refl;
  no_name = refl;
  no_quotes = refl;
  module_of_key = refl;
  bare_key_of_module = refl;
  restconf = refl;
  restconf_keys = refl;
  zero = refl;
  no_step = refl;
  no_value = refl;
  value = refl;
  no_text = refl;
  right = refl;
  moved_nowhere = refl;
  moved_to_zero = refl;
  moved_to_two = refl;
  moved = refl;
}
