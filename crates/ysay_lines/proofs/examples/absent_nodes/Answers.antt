use Rattle.std.proofs.Common.{refl}
use Rattle.json.proofs.OnLiterals.{json_on_literals}
use Rattle.yspec.proofs.LiteralLemmas.{yspec_on_literals}
use Rattle.ysay_lines.specs.Lines.{place_in}
use Rattle.ysay_lines.specs.Starts.{starts_from}
use Rattle.ysay_lines.proofs.examples.absent_nodes.Goals as goal

pub returns : goal.returns
unfolding yspec_on_literals json_on_literals starts_from place_in
returns c = record {
  top_node = refl;
  leaf = refl;
  in_an_entry = refl;
  entry = refl;
  of_no_object = refl;
  of_no_array = refl;
}
