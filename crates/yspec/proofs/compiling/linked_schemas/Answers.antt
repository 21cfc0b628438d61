use Rattle.yspec.proofs.LinkingProofs.LinkedNameLemmas.{linked_names}
use Rattle.yspec.proofs.LinkingProofs.LinkedLemmas.{linked_numbered, linked_bare, linked_few, linked_within}
use Rattle.yspec.proofs.compiling.linked_schemas.Goals as goal

pub returns : goal.returns
returns c = record {
  numbered = linked_numbered;
  bare = linked_bare;
  names = linked_names;
  within = linked_within;
  few = linked_few;
}
