use Rattle.yspec_wide.proofs.CoreLinkingLemmas.{linked_alike, linking_alike}
use Rattle.yspec_wide.proofs.laws.core_links.Goals as goal

pub returns : goal.returns
returns c = record { linked = linked_alike; phases = linking_alike }
