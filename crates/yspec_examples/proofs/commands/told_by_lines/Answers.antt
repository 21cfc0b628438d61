use Rattle.std.proofs.Common.{refl}
use Rattle.json.proofs.OnLiterals.{json_on_literals}
use Rattle.ysay_lines.specs.Lines.{place_in}
use Rattle.ysay_lines.specs.Starts.{starts_from}
use Rattle.yspec_run.specs.Lines.{outcome_by}
use Rattle.yspec_run.proofs.ProgramLiterals.{yprogram_on_literals}
use Rattle.yspec_examples.proofs.commands.told_by_lines.Goals as goal

pub returns : goal.returns
unfolding yprogram_on_literals json_on_literals place_in starts_from outcome_by
returns c = record {
  value = refl;
  absent = refl;
  none = refl;
  member = refl;
  no_json = refl;
  statement = refl;
  text = refl;
  unread = refl;
  script = refl;
}
