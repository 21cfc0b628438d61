use Rattle.std.proofs.lemmas.List.{append-nil}
use Rattle.ybase_output.proofs.WritingLemmas.{writes_same}
use Rattle.yapp.proofs.RunningLemmas.{ends}
use Rattle.yapp.proofs.saying.show.Goals as goal

pub returns : goal.returns
returns g c = ends _ _ _ 0 _ c.write_texts.result (writes_same _ _ _ _ c.write_texts.result (append-nil c.args.text.now) c.write_texts.ensures) c.status_after.ensures
