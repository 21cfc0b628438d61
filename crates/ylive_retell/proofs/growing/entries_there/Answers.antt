use Rattle.std.proofs.Common.{option_map, ◌∙◌, ap, is_some}
use Rattle.ylive_retell.proofs.GrowingLemmas.{first_there, still_there, mapped_there, there_kept}
use Rattle.ylive_retell.proofs.growing.entries_there.Goals as goal

pub returns-clause-first : goal.returns-clause-first
returns-clause-first c = first_there c.same_keys.ensures.found

pub returns-clause-kept : goal.returns-clause-kept
returns-clause-kept c before after pairs key change changes =
    still_there c.same_keys.ensures.found before after pairs key (option_map change) (mapped_there change) changes.changed changes.others

pub returns-clause-same : goal.returns-clause-same
returns-clause-same c before after pairs stays = there_kept before after pairs (λ key e. ap is_some (stays key) ∙ e)
