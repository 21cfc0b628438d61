use Rattle.yapp.proofs.RunningLemmas.{ends}
use Rattle.yapp.proofs.saying.tell_memory.Goals as goal

pub returns : goal.returns
returns g c = ends _ _ _ 4 _ c.write_texts.result c.write_texts.ensures c.status_after.ensures
