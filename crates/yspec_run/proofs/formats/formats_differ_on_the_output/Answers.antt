use Rattle.yspec_run.proofs.FormatLemmas.{edits_alike, validated_alike}
use Rattle.yspec_run.proofs.formats.formats_differ_on_the_output.Goals as goal

pub returns : goal.returns
returns c = record {
  validated = λ language options document modules answers. validated_alike language options document modules answers;
  edited = λ language options document script modules answers. edits_alike language options document modules answers script;
}
