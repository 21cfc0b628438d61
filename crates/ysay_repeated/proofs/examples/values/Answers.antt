use Rattle.std.proofs.Common.{refl}
use Rattle.json.proofs.OnLiterals.{json_on_literals}
use Rattle.yspec.proofs.LiteralLemmas.{yspec_on_literals}
use Rattle.ysay_repeated.specs.Repeated.{has_repeated}
use Rattle.ysay_repeated.proofs.examples.values.Goals as goal

pub returns : goal.returns
unfolding yspec_on_literals json_on_literals has_repeated
returns c = record {
  number = refl;
  once = refl;
  twice = refl;
  below = refl;
  apart = refl;
  no_json = refl;
}
