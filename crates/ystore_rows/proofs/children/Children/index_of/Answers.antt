use Rattle.std.proofs.Common.{rules, ◌≡◌, ◌+◌, ◌-◌, Some, option_map, slice_get, arith, ap, ap₂, sym, ◌∙◌}
use Rattle.ystore_rows.specs.Children.{nodes_of}
use Rattle.ystore_rows.specs.Rows.{of_schema}
use Rattle.ystore_rows.proofs.RowLemmas.{count_is, first_before_end, found_among, first_is, none_is, none_yet}
use Rattle.ystore_rows.proofs.children.Children.index_of.Goals as goal

pub overflow_sub-count : goal.overflow_sub-count
overflow_sub-count c =
    omega (arith, c.first_place-first.ensures.place, c.end_place.ensures.place, first_before_end c.args.schema (nodes_of c.args.self.now))

pub returns-then-eq : goal.returns-then-eq
returns-then-eq c =
    let row = nodes_of c.args.self.now in
    let place = c.loop-place.place in
    let first = c.first_place-first.ensures.place in
    let end = c.end_place.ensures.place in
    let test = c.loop-place-test.true in
    let is = c.get.ensures
    ∙ (ap (λ f. option_map (λ n. n.1) (slice_get row (f + place))) first
    ∙ found_among c.args.schema row place c.args.self.now.ascending (omega (arith, first, end, test))) in
    let here : c.get.result ≡ Some c.args.node = search rules in
    sym (first_is c.args.node (of_schema c.args.schema row) place c.loop-place.invariant (sym is ∙ here))

pub loop-place-preserved : goal.loop-place-preserved
loop-place-preserved c =
    let row = nodes_of c.args.self.now in
    let place = c.loop-place.place in
    let first = c.first_place-first.ensures.place in
    let end = c.end_place.ensures.place in
    let test = c.loop-place-test.true in
    let is = c.get.ensures
    ∙ (ap (λ f. option_map (λ n. n.1) (slice_get row (f + place))) first
    ∙ found_among c.args.schema row place c.args.self.now.ascending (omega (arith, first, end, test))) in
    none_yet c.args.node (of_schema c.args.schema row) place c.loop-place.invariant
    (λ held. let here : c.get.result ≡ Some c.args.node = is ∙ held in search rules)

pub returns : goal.returns
returns c =
    let row = nodes_of c.args.self.now in
    let count = ap₂ (λ a b. a - b) c.end_place.ensures.place c.first_place-first.ensures.place ∙ count_is c.args.schema row c.args.self.now.ascending in
    let test = c.loop-place-test.false in
    count ∙ sym (none_is c.args.node (of_schema c.args.schema row) (λ j less held. c.loop-place.invariant j (omega (arith, less, count, test)) held))
