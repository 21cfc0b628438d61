use Rattle.std.proofs.Common.{option_map}
use Rattle.ylive_retell.proofs.GrowingLemmas.{grown_awaited, first_awaited, first_found, rest_awaited, still_awaited, mapped_awaited, awaited_same}
use Rattle.ylive_retell.proofs.growing.awaited_nodes.Goals as goal

pub returns-clause-grown : goal.returns-clause-grown
returns-clause-grown c = grown_awaited

pub returns-clause-first : goal.returns-clause-first
returns-clause-first c nodes p ps key awaited is = (first_awaited nodes p ps key awaited is, first_found nodes p ps key awaited is)

pub returns-clause-rest : goal.returns-clause-rest
returns-clause-rest c before after p ps key id is changes = rest_awaited c.same_keys.ensures.found before after p ps key id is changes.changed changes.others

pub returns-clause-kept : goal.returns-clause-kept
returns-clause-kept c before after pairs key change changes leaves =
    still_awaited c.same_keys.ensures.found before after pairs key (option_map change) (mapped_awaited change leaves) changes.changed changes.others

pub returns-clause-same : goal.returns-clause-same
returns-clause-same c = awaited_same
