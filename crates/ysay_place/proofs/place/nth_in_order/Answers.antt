use Rattle.std.proofs.Common.{◌+◌, ◌∙◌, ap, sym, arith, option_and_then, slice_get}
use Rattle.ysay_place.specs.Instances.{instance_of}
use Rattle.ysay_place.proofs.OrderedLemmas.{nth_by_place, none_behind}
use Rattle.ysay_place.proofs.place.nth_in_order.Goals as goal

pub returns-then-index-row : goal.returns-then-index-row
returns-then-index-row c =
    let row = c.args.row.now in
    let id = c.args.id in
    c.instance_at.ensures
    ∙ (ap (λ f. option_and_then (instance_of id.0) (slice_get row (f + c.args.index))) c.first_place-first.ensures.place
    ∙ sym (nth_by_place id.0 c.args.index row c.requires))

pub returns-else-index-row : goal.returns-else-index-row
returns-else-index-row c =
    sym (none_behind c.args.id.0 c.args.index c.args.row.now c.requires
    (omega (arith, c.first_place-first.ensures.place, c.first_place-first.ensures.within, c.if-index-row.false)))
