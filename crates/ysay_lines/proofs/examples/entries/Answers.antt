use Rattle.std.proofs.Common.{refl}
use Rattle.json.proofs.OnLiterals.{json_on_literals}
use Rattle.yspec.proofs.LiteralLemmas.{yspec_on_literals}
use Rattle.ysay_lines.specs.Lines.{place_in}
use Rattle.ysay_lines.specs.Starts.{starts_from}
use Rattle.ysay_lines.proofs.examples.entries.Goals as goal

pub returns : goal.returns
unfolding yspec_on_literals json_on_literals starts_from place_in
returns c = record {
  whole_list = refl;
  entry = refl;
  in_an_entry = refl;
  item = refl;
}
