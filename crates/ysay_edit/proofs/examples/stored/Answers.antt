use Rattle.std.proofs.Common.{refl}
use Rattle.yspec.proofs.LiteralLemmas.{yspec_on_literals}
use Rattle.ysay_text.specs.Near.{is_near, nearest}
use Rattle.ysay_edit.proofs.examples.stored.Goals as goal

pub returns : goal.returns
unfolding yspec_on_literals is_near nearest
returns c = record {
  no_container = refl;
  nothing_at_the_top = refl;
  no_entry = refl;
  near_entry = refl;
  no_key = refl;
  past_the_end = refl;
  moved_past_the_end = refl;
  several = refl;
  removed = refl;
  replaced = refl;
  replaced_entry = refl;
  created = refl;
  created_container = refl;
  changed = refl;
}
