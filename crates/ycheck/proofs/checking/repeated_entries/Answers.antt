use Rattle.std.proofs.Common.{arith, map}
use Rattle.std.proofs.lemmas.List.{length-map}
use Rattle.yschema_model.specs.Layout.{tuples_view, numbers_of}
use Rattle.yschema_model.specs.View.{view}
use Rattle.ycheck.proofs.MarkLemmas.{next_table}
use Rattle.ycheck.proofs.checking.repeated_entries.Goals as goal

pub loop-index-preserved : goal.loop-index-preserved
loop-index-preserved c =
    let tuples = tuples_view c.args.tuples.now in
    let same = c.deref-unique-items.ensures.len in
    next_table (view c.args.schema.now) tuples c.args.found.now c.loop-index.index c.loop-index.table.items c.push-in-loop-index.new.self.items c.in_ok-repeated_tuples-2.field-0 _
    (omega (arith, c.loop-index-test.true, same, length-map c.args.tuples.now.uniques.items (λ unique. map (λ path. numbers_of path.items) unique.items)))
    c.in_ok-repeated_tuples-2.ensures c.in_ok-push-2.ensures.items c.loop-index.invariant
