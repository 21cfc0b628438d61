use Rattle.std.proofs.Common.{rules, arith, ◌≡◌, ◌∙◌, ◌+◌, ap₂, length}
use Rattle.ystore_rows.specs.Children.{nodes_of}
use Rattle.ystore_rows.proofs.RowLemmas.{place_is, within_end}
use Rattle.ystore_rows.proofs.children.Children.place_of.Goals as goal

pub overflow_add-place : goal.overflow_add-place
overflow_add-place c =
    omega (arith, c.first_place.ensures.place, c.index_of.ensures, c.end_place-end.ensures.place, c.end_place-end.type_inv, within_end c.args.child (nodes_of c.args.self.now) c.args.self.now.ascending)

pub returns-then-place-end-clause-place : goal.returns-then-place-end-clause-place
returns-then-place-end-clause-place c =
    let first = c.first_place.ensures.place in
    let index = c.index_of.ensures in
    ap₂ (λ f k. f + k) first index
    ∙ (place_is c.args.child (nodes_of c.args.self.now) c.args.self.now.ascending).0
    (omega (arith, first, index, c.end_place-end.ensures.place, c.if-place-end.true))

pub returns-else-place-end-clause-place : goal.returns-else-place-end-clause-place
returns-else-place-end-clause-place c =
    let first = c.first_place.ensures.place in
    let index = c.index_of.ensures in
    let row = nodes_of c.args.self.now in
    let all : c.len.result ≡ length row = search rules in
    all
    ∙ (place_is c.args.child (nodes_of c.args.self.now) c.args.self.now.ascending).1
    (omega (arith, first, index, c.end_place-end.ensures.place, c.if-place-end.false))
