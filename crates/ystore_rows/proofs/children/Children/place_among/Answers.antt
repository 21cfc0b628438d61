use Rattle.std.proofs.Common.{arith, ◌∙◌, ◌+◌, ap}
use Rattle.ystore_rows.specs.Children.{nodes_of}
use Rattle.ystore_rows.proofs.RowLemmas.{first_before_end, place_among_is}
use Rattle.ystore_rows.proofs.children.Children.place_among.Goals as goal

pub overflow_sub-end : goal.overflow_sub-end
overflow_sub-end c =
    omega (arith, c.first_place-first.ensures.place, c.end_place-end.ensures.place, first_before_end c.args.schema (nodes_of c.args.self.now))

pub returns-then-place-end : goal.returns-then-place-end
returns-then-place-end c =
    let row = nodes_of c.args.self.now in
    let first = c.first_place-first.ensures.place in
    let within = c.if-place-end.true in
    let there = (place_among_is c.args.schema row c.args.place c.args.self.now.ascending).0 (omega (arith, first, c.end_place-end.ensures.place, within)) in
    record {
      place = ap (λ n. n + c.args.place) first ∙ there;
      within = omega (arith, within, c.end_place-end.ensures.within);
    }

pub returns-else-place-end : goal.returns-else-place-end
returns-else-place-end c =
    let row = nodes_of c.args.self.now in
    let past = c.if-place-end.false in
    let there = (place_among_is c.args.schema row c.args.place c.args.self.now.ascending).1 (omega (arith, c.first_place-first.ensures.place, c.end_place-end.ensures.place, past)) in
    record {
      place = c.end_place-end.ensures.place ∙ there;
      within = c.end_place-end.ensures.within;
    }
