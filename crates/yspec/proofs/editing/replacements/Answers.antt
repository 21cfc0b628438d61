use Rattle.std.proofs.Common.{refl}
use Rattle.yspec.proofs.LiteralLemmas.{yspec_on_literals}
use Rattle.yspec.proofs.editing.replacements.Goals as goal

pub returns : goal.returns
unfolding yspec_on_literals
returns c = record {
  leaf = refl;
  container = refl;
  wrong_kind = refl;
  fraction = refl;
  unknown_member = refl;
  no_json = refl;
  unknown = refl;
  unqualified = refl;
  position = refl;
  name_before_position = refl;
  nothing_there = refl;
  nothing_above = refl;
}
