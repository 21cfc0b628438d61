use Rattle.std.proofs.Common.{◌≡◌, ◌∷◌, [], refl, min, length, drop, ap, ◌∙◌, rules, arith}
use Rattle.ybase_preorder.specs.Layout.{forest_of}
use Rattle.ybase_preorder.proofs.ChildrenLemmas.{rows_from, rows_below}
use Rattle.ybase_preorder.proofs.RowLemmas.{no_node}
use Rattle.ybase_preorder.proofs.table.Table.children.Goals as goal

pub returns-in-Some-clause-row : goal.returns-in-Some-clause-row
returns-in-Some-clause-row g c r at =
    let slots = c.args.self.now.slots.items in
    let from = c.split_at.result.1.now in
    let from_is : from ≡ drop (min c.args.number (length slots)) slots = first_of (search rules, grind arith, cc) in
    let split : from ≡ c.in-Some.first.now ∷ c.in-Some.rest.now = search rules in
    c.new.ensures.row ∙ ap forest_of (rows_below c.args.number slots from c.in-Some.rest.now c.split_at-in-Some.result.0.now r c.in-Some.first.now (λ r. r.below) c.min-in-Some.result
    from_is split at c.min-in-Some.ensures c.split_at-in-Some.ensures.front)

pub returns-in-None-clause-row : goal.returns-in-None-clause-row
returns-in-None-clause-row g c r at = absurd (
    let slots = c.args.self.now.slots.items in
    let from = c.split_at.result.1.now in
    let from_is : from ≡ drop (min c.args.number (length slots)) slots = first_of (search rules, grind arith, cc) in
    let empty : length from ≡ 0 = search rules in
    let some = ap length (rows_from c.args.number slots from r from_is at) in omega (arith, empty, some))

pub returns-in-None-clause-number : goal.returns-in-None-clause-number
returns-in-None-clause-number g c r at = absurd (
    let slots = c.args.self.now.slots.items in
    let from = c.split_at.result.1.now in
    let from_is : from ≡ drop (min c.args.number (length slots)) slots = first_of (search rules, grind arith, cc) in
    let empty : length from ≡ 0 = search rules in
    let some = ap length (rows_from c.args.number slots from r from_is at) in omega (arith, empty, some))

pub returns-in-None-clause-none : goal.returns-in-None-clause-none
returns-in-None-clause-none g c at = c.new-in-None.ensures.row ∙ no_node [] refl
