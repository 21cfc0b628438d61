use Rattle.yspec_reach.proofs.PartLemmas.{created_by_parts, replaced_by_parts, removed_by_parts, moved_by_parts}
use Rattle.yspec_reach.proofs.laws.edits_by_parts.Goals as goal

pub returns : goal.returns
returns c = record { created = created_by_parts; replaced = replaced_by_parts; removed = removed_by_parts; moved = moved_by_parts }
