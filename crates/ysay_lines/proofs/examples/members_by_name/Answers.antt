use Rattle.std.proofs.Common.{refl}
use Rattle.json.proofs.OnLiterals.{json_on_literals}
use Rattle.yspec.proofs.LiteralLemmas.{yspec_on_literals}
use Rattle.ysay_lines.specs.Lines.{place_in}
use Rattle.ysay_lines.specs.Starts.{starts_from}
use Rattle.ysay_lines.proofs.examples.members_by_name.Goals as goal

pub returns : goal.returns
unfolding yspec_on_literals json_on_literals starts_from place_in
returns c = record {
  escaped = refl;
  given_twice = refl;
  behind_others = refl;
  of_another_form = refl;
}
