use Rattle.ylive_retell.proofs.GrownLemmas.{grown_keeps, grown_room, grown_tree, grown_totals, grown_agrees}
use Rattle.ylive_retell.proofs.growing.grown_stores.Goals as goal

pub returns-clause-keeps : goal.returns-clause-keeps
returns-clause-keeps c before after tree above loose grows = grown_keeps before after grows tree above loose

pub returns-clause-room : goal.returns-clause-room
returns-clause-room c before after row grows = grown_room before after grows row

pub returns-clause-trees : goal.returns-clause-trees
returns-clause-trees c before after f grows = grown_tree before after grows f

pub returns-clause-totals : goal.returns-clause-totals
returns-clause-totals c before after f grows = grown_totals before after grows f

pub returns-clause-agrees : goal.returns-clause-agrees
returns-clause-agrees c before after keys f grows = grown_agrees before after grows keys f
