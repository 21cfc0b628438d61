use Rattle.std.proofs.Common.{refl}
use Rattle.yspec.proofs.LiteralLemmas.{yspec_on_literals}
use Rattle.yspec.specs.edit.Live.{checked}
use Rattle.yspec.proofs.editing.edits_checked.Goals as goal

pub returns : goal.returns
unfolding yspec_on_literals checked
returns c = record {
  mended = refl;
  spoiled = refl;
  refused_value = refl;
  no_edits = refl;
  refused_document = refl;
  refused_module = refl;
}
