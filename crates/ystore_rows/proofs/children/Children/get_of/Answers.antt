use Rattle.std.proofs.Common.{arith, ap, ◌∙◌, ◌+◌, option_map, slice_get}
use Rattle.ystore_rows.specs.Children.{nodes_of}
use Rattle.ystore_rows.proofs.RowLemmas.{first_before_end, found_among, none_among}
use Rattle.ystore_rows.proofs.children.Children.get_of.Goals as goal

pub overflow_sub-end_place : goal.overflow_sub-end_place
overflow_sub-end_place c =
    omega (arith, c.first_place-first.ensures.place, c.end_place.ensures.place, first_before_end c.args.schema (nodes_of c.args.self.now))

pub returns-then-place-end_place : goal.returns-then-place-end_place
returns-then-place-end_place c =
    let row = nodes_of c.args.self.now in
    let first = c.first_place-first.ensures.place in
    c.get.ensures
    ∙ (ap (λ f. option_map (λ n. n.1) (slice_get row (f + c.args.place))) first
    ∙ found_among c.args.schema row c.args.place c.args.self.now.ascending
    (omega (arith, first, c.end_place.ensures.place, c.if-place-end_place.true)))

pub returns-else-place-end_place : goal.returns-else-place-end_place
returns-else-place-end_place c =
    none_among c.args.schema (nodes_of c.args.self.now) c.args.place c.args.self.now.ascending
    (omega (arith, c.first_place-first.ensures.place, c.end_place.ensures.place, c.if-place-end_place.false))
