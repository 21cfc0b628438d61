use Rattle.std.proofs.Common.{◌++◌, length-append, sym, ap, ◌∙◌, arith}
use Rattle.ybase_preorder.specs.Layout.{places}
use Rattle.ybase_preorder.proofs.LayoutLemmas.{length-places}
use Rattle.yschema_expand.specs.Hanging.{hung_at}
use Rattle.yschema_expand.specs.TableView.{lying}
use Rattle.yschema_expand.proofs.LyingLemmas.{lying_apart}
use Rattle.yschema_expand.proofs.table.NodeTable.hang.Goals as goal

pub returns-in-None : goal.returns-in-None
returns-in-None c = λ earlier parent f added long starts at.
    let h = c.args.hanging in
    let both = length-append earlier (places parent h.first f) in
    let count = length-places parent h.first f in
    ap lying c.truncate.ensures.items
    ∙ ((lying_apart h.start c.args.self.now.slots.items (earlier ++ places parent h.first f) (places h.target h.start added)
    (omega (arith, both, count, long, starts)) at).0
    ∙ ap (λ t. earlier ++ places parent h.first (hung_at t h.first added f)) (sym c.in-None.is))
