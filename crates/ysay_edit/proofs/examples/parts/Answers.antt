use Rattle.std.proofs.Common.{refl}
use Rattle.yspec.proofs.LiteralLemmas.{yspec_on_literals}
use Rattle.ysay_text.specs.Near.{is_near, nearest}
use Rattle.ysay_edit.proofs.examples.parts.Goals as goal

pub returns : goal.returns
unfolding yspec_on_literals is_near nearest
returns c = record {
  near = refl;
  below = refl;
  no_object = refl;
  no_entry = refl;
  entries = refl;
  items = refl;
  no_item = refl;
  no_array = refl;
  fraction = refl;
  no_text = refl;
  no_json = refl;
  is_read = refl;
  moved = refl;
  no_value = refl;
}
