use Rattle.std.proofs.Common.{rules, ◌≡◌, true, refl}
use Rattle.yschema_expand.specs.Indexing.{is_before}
use Rattle.yschema_expand.specs.TableView.{slots_of}
use Rattle.yschema_expand.proofs.IndexedLemmas.{index_made}
use Rattle.yschema_expand.proofs.indexing.TargetIndex.of.Goals as goal

pub returns : goal.returns
returns c =
    let before : is_before c.parent_of-parent.result c.args.first ≡ true = first_of (search rules, cc) in
    index_made (slots_of c.args.table.now) c.slots_from-slots.result.now c.args.first _ refl before
    c.slots_from-slots.ensures c.parent_of-parent.ensures c.in_ok-nodes.ensures
