use Rattle.std.proofs.Common.{rules, arith, ◌≡◌, ◌∙◌, ◌+◌, ap, length}
use Rattle.ystore_rows.specs.Children.{nodes_of}
use Rattle.ystore_rows.proofs.RowLemmas.{first_before_end, place_at_is}
use Rattle.ystore_rows.proofs.children.Children.place_at.Goals as goal

pub overflow_sub-end_place : goal.overflow_sub-end_place
overflow_sub-end_place c =
    omega (arith, c.first_place-first.ensures.place, c.end_place.ensures.place, first_before_end c.args.schema (nodes_of c.args.self.now))

pub returns-then-place-end_place-clause-place : goal.returns-then-place-end_place-clause-place
returns-then-place-end_place-clause-place c =
    let row = nodes_of c.args.self.now in
    let first = c.first_place-first.ensures.place in
    ap (λ n. n + c.args.place) first
    ∙ (place_at_is c.args.schema row c.args.place c.args.self.now.ascending).0
    (omega (arith, first, c.end_place.ensures.place, c.if-place-end_place.true))

pub returns-else-place-end_place-clause-place : goal.returns-else-place-end_place-clause-place
returns-else-place-end_place-clause-place c =
    let row = nodes_of c.args.self.now in
    let all : c.len.result ≡ length row = search rules in
    all
    ∙ (place_at_is c.args.schema row c.args.place c.args.self.now.ascending).1
    (omega (arith, c.first_place-first.ensures.place, c.end_place.ensures.place, c.if-place-end_place.false))
