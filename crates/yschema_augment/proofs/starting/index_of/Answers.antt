use Rattle.std.proofs.Common.{◌≡◌, ◌<◌, ◌∙◌, ap, arith, length, subst, sym}
use Rattle.ybase_preorder.specs.declared.slot.Slot.{Slot}
use Rattle.ybase_index.specs.Names.{text_in}
use Rattle.yschema_augment.specs.Asking.{row_name}
use Rattle.yschema_augment.specs.SearchView.{look_by}
use Rattle.yschema_expand.specs.TableView.{slots_of}
use Rattle.yschema_expand.specs.declared.nodes.ExpandedNode.{ExpandedNode}
use Rattle.yschema_augment.proofs.StartingLemmas.{further, row_named, row_read}
use Rattle.yschema_augment.proofs.starting.index_of.Goals as goal

pub add_placed-requires-clause-within : goal.add_placed-requires-clause-within
add_placed-requires-clause-within c =
    let slots = slots_of c.args.nodes.now in
    let i = c.loop-number.number in
    let read = row_read _ slots i c.slot-item.result c.slots-slot-items.ensures (omega arith) c.slot-item.is in
    subst (λ n. i < n) (sym (ap length c.loop-number.invariant.texts)) (row_named _ slots i c.slot-item.result c.requires.names read).0

pub add_placed-requires-clause-name : goal.add_placed-requires-clause-name
add_placed-requires-clause-name c =
    let slots = slots_of c.args.nodes.now in
    let i = c.loop-number.number in
    let r : Slot ExpandedNode = c.slot-item.result in
    let read = row_read _ slots i r c.slots-slot-items.ensures (omega arith) c.slot-item.is in
    subst (λ ts. text_in ts i ≡ row_name r) (sym c.loop-number.invariant.texts) (row_named _ slots i r c.requires.names read).1

pub loop-number-preserved : goal.loop-number-preserved
loop-number-preserved c =
    let slots = slots_of c.args.nodes.now in
    let i = c.loop-number.number in
    let r : Slot ExpandedNode = c.slot-item.result in
    let read = row_read _ slots i r c.slots-slot-items.ensures (omega arith) c.slot-item.is in
    record {
      texts = c.in_ok-add_placed.ensures.texts ∙ c.loop-number.invariant.texts;
      look = λ above name. further c.args.first above name slots i r (look_by c.loop-number.index above name) (look_by c.add_placed.new.index above name) _
          read.0 read.1 (c.in_ok-add_placed.ensures.look above name) (c.loop-number.invariant.look above name);
    }
