use Rattle.yspec_play.proofs.ListLemmas.{row_at_law}
use Rattle.yspec_play.proofs.laws.merged_rows.Goals as goal

pub returns : goal.returns
returns c = λ schema above t children numbered cased fits are. row_at_law schema (λ n value. Unit {0}) above 0 t children numbered cased fits are
