use Rattle.std.proofs.Common.{◌≡◌, ◌∙◌, ◌-◌, arith, ap, ap₂, drop, map, sym, take}
use Rattle.ystore_rows.specs.Children.{nodes_of}
use Rattle.ystore_rows.specs.Places.{place_near}
use Rattle.ystore_rows.specs.Rows.{Child, of_schema}
use Rattle.ystore_rows.proofs.RowLemmas.{first_before_end, together_is}
use Rattle.ystore_rows.proofs.children.Children.index_near.Goals as goal

pub place_near-requires-clause-order : goal.place_near-requires-clause-order
place_near-requires-clause-order c =
    omega (arith, c.first_place-first.ensures.place, c.end_place-end.ensures.place, first_before_end c.args.schema (nodes_of c.args.self.now))

pub returns : goal.returns
returns c =
    let row = nodes_of c.args.self.now in
    let first = c.first_place-first.result in
    let end = c.end_place-end.result in
    let part : map (λ (d : Child). d.1) (take (end - first) (drop first row)) ≡ of_schema c.args.schema row =
    ap (map (λ (d : Child). d.1))
    (ap₂ (λ f e. take (e - f) (drop f row)) c.first_place-first.ensures.place c.end_place-end.ensures.place
    ∙ sym (together_is c.args.schema row c.args.self.now.ascending)) in
    c.place_near.ensures ∙ ap (place_near c.args.near c.args.node) part
