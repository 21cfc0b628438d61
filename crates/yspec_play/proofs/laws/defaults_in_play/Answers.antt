use Rattle.std.proofs.Common.{[]}
use Rattle.yspec.specs.document.Document.{instances_in}
use Rattle.yspec_play.proofs.AbsenceLemmas.{defaults_used, instances_given}
use Rattle.yspec_play.proofs.laws.defaults_in_play.Goals as goal

pub returns : goal.returns
returns c = record {
  below = λ schema number v children below. defaults_used number v children (instances_in below) [] [];
  document = instances_given;
}
