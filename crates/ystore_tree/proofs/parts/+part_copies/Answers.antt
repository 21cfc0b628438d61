use Rattle.std.proofs.Common.{arith, sym, ap, ◌∙◌, option_map}
use Rattle.std.proofs.lemmas.Option.{same_Some, none-some}
use Rattle.yspec.specs.Forest.{end, node}
use Rattle.ystore.specs.Held.{Label}
use Rattle.ystore.specs.Views.{store_of}
use Rattle.ystore_rows.specs.declared.row.Row.TheVariants.{Below}
use Rattle.ystore.proofs.StoreLemmas.{on_ok}
use Rattle.ystore_tree.proofs.PartLemmas.{one_read, reads_on, stands_read, child_found, child_copied, goes_on, ends, value_same, within_row, label_read, reads_nothing}
use Rattle.ystore_tree.proofs.parts.+part_copies.Goals as goal

pub copy_child-returns-in-Some-clause-part : goal.copy_child-returns-in-Some-clause-part
copy_child-returns-in-Some-clause-part t c =
    let old = store_of c.args.counted.now in
    let mid = store_of c.child.new.self in
    let counts = c.child.ensures.counted.store in
    on_ok c.copy_part.result c.copy_part.ensures.part
    (λ whole n below after listed stands within.
    child_copied n below old mid (store_of c.copy_part.new.counted) c.args.row.now.items c.copy_part.new.row.items c.args.numbers.now.items c.copy_part.new.numbers.items counts
    (whole (Below c.args.above) n below
    (same_Some n.id c.in-Some.child (sym (child_found old c.args.above c.args.place n below after c.child.result c.child.ensures.child listed) ∙ c.in-Some.is))
    (stands_read old mid (Below c.args.above) (node n below end) (one_read old mid counts) stands) within))

pub copy_child-returns-in-None-clause-part : goal.copy_child-returns-in-None-clause-part
copy_child-returns-in-None-clause-part t c n below after listed stands within =
    absurd (none-some n.id (sym c.in-None.is ∙ child_found (store_of c.args.counted.now) c.args.above c.args.place n below after c.child.result c.child.ensures.child listed))

pub copy_part-loop-place-preserved : goal.copy_part-loop-place-preserved
copy_part-loop-place-preserved t c =
    let start = store_of c.args.counted.now in
    let first = store_of c.value_at.new.counted in
    let read = store_of c.schema.new.self in
    let only = reads_on start first read (one_read start first c.value_at.ensures.counted.store) (one_read first read c.schema.ensures.counted.store) in
    let so_far = c.loop-place.invariant in
    record {
      same_reference = c.in_ok-copy_child.ensures.same_reference ∙ so_far.same_reference;
      held = so_far.held;
      kept = reads_on start (store_of c.loop-place.counted) (store_of c.copy_child.new.counted) so_far.kept c.in_ok-copy_child.ensures.kept;
      part = λ above n below same stands within.
          goes_on above n below c.args.id c.loop-place.place c.args.depth start (store_of c.loop-place.counted) (store_of c.copy_child.new.counted)
          c.loop-place.below.items c.copy_child.new.row.items c.args.numbers.now.items c.loop-place.numbers.items c.copy_child.new.numbers.items
          same stands so_far.kept
          (within_row above n below c.args.id c.loop-place.place c.child_count-count.result start read same stands only c.child_count-count.ensures.count (omega arith))
          c.in_ok-copy_child.ensures.part (so_far.part above n below same stands within);
    }

pub copy_part-returns-clause-part : goal.copy_part-returns-clause-part
copy_part-returns-clause-part t c above n below same stands within =
    let start = store_of c.args.counted.now in
    let first = store_of c.value_at.new.counted in
    let read = store_of c.schema.new.self in
    let begun = one_read start first c.value_at.ensures.counted.store in
    let only = reads_on start first read begun (one_read first read c.schema.ensures.counted.store) in
    ends above n below c.args.id c.loop-place.place c.args.depth c.child_count-count.result start read (store_of c.loop-place.counted) c.in-Some.schema _
    c.loop-place.below.items c.args.row.now.items c.push-2.new.self.items c.new.result c.args.numbers.now.items c.loop-place.numbers.items
    same stands only c.child_count-count.ensures.count (omega arith) (c.loop-place.invariant.part above n below same stands within)
    (sym c.in-Some.is ∙ (c.schema.ensures.schema ∙ ap (option_map (λ (l : Label). l.schema)) (label_read start first c.args.id begun)))
    (value_same start start above n below c.args.id _ same stands (reads_nothing start) c.loop-place.invariant.held)
    c.new.ensures.node c.new.ensures.below c.in_ok-push-2.ensures.items
