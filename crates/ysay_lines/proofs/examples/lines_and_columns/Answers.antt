use Rattle.std.proofs.Common.{refl}
use Rattle.json.proofs.OnLiterals.{json_on_literals}
use Rattle.yspec.proofs.LiteralLemmas.{yspec_on_literals}
use Rattle.ysay_lines.specs.Lines.{place_in}
use Rattle.ysay_lines.specs.Starts.{starts_from}
use Rattle.ysay_lines.proofs.examples.lines_and_columns.Goals as goal

pub returns : goal.returns
unfolding yspec_on_literals json_on_literals starts_from place_in
returns c = record {
  top = refl;
  on_one_line = refl;
  on_others = refl;
  behind_carriage_returns = refl;
  behind_tabs = refl;
  behind_many_bytes = refl;
  behind_escapes = refl;
  no_json = refl;
}
