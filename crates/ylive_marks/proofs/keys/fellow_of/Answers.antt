use Rattle.std.proofs.Common.{List, [], ◌∷◌, ◌≡◌, None, length, slice_get, refl, arith}
use Rattle.ystore_rows.specs.declared.row.NodeId.{NodeId}
use Rattle.ystore.specs.Store.{holders_at}
use Rattle.ystore.specs.Views.{store_of}
use Rattle.ylive_marks.proofs.keys.fellow_of.Goals as goal

no_first : (ids : List NodeId) → length ids ≡ 0 → None ≡ slice_get ids 0
no_first [] e = refl
no_first (id ∷ ids) e = absurd (omega (arith, e))

pub returns-then-fellows-eq0-clause-holder : goal.returns-then-fellows-eq0-clause-holder
returns-then-fellows-eq0-clause-holder c = no_first (holders_at (store_of c.args.counted.now) c.args.key.now) (omega (arith, c.requires, c.if-fellows-eq0.true))
