use Rattle.std.proofs.Common.{[], ◌∙◌, sym}
use Rattle.yspec.specs.document.Document.{instances_in}
use Rattle.yspec_play.specs.Absences.{defaults_in}
use Rattle.yspec_play.proofs.AbsenceLemmas.{defaults_used}
use Rattle.ylive_facts.proofs.GivenLemmas.{counted_own, counted_referred}
use Rattle.ylive_facts.proofs.laws.given_values.Goals as goal

pub returns : goal.returns
returns c = record {
  own = counted_own;
  below = λ schema number v children below here.
      counted_referred schema number v (defaults_in (instances_in below) [] children) here ∙ sym (defaults_used number v children (instances_in below) [] []);
}
