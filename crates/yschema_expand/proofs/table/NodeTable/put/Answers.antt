use Rattle.std.proofs.Common.{◌-◌, ◌<◌, ◌^◌, length, sym, ◌∙◌, arith}
use Rattle.yschema_expand.proofs.ShiftLemmas.{all_count, all_put, target_is, target_is_there, there_within}
use Rattle.yschema_expand.proofs.table.NodeTable.put.Goals.{then-place-from-via-then-place-from, then-place-from-via-else-place-from+then-from-len}
use Rattle.yschema_expand.proofs.table.NodeTable.put.Goals as goal

pub returns-in_default : goal.returns-in_default
returns-in_default c = λ earlier parent f added long starts at.
    let table = c.args.self.now in
    let s0 = table.slots.items in
    let numbered = table.numbered in
    let whole = table.slots.ok.0 in
    let few : length s0 < 2 ^ 32 = omega (arith, numbered, whole) in
    absurd (target_is_there earlier c.args.first c.args.target c.args.start parent f added long starts c.requires.from c.requires.before s0 few at
    (sym (sym c.below.ensures ∙ c.in_default.is)))

pub returns-then-place-from : goal.returns-then-place-from
returns-then-place-from c = λ earlier parent f added long starts at.
    let table = c.args.self.now in
    let s0 = table.slots.items in
    let numbered = table.numbered in
    let whole = table.slots.ok.0 in
    let few : length s0 < 2 ^ 32 = omega (arith, numbered, whole) in
    let found = target_is earlier c.args.first c.args.target c.args.start parent f added long starts c.requires.from c.requires.before s0 few at
    c.in-Some.below (sym c.in-Some.is ∙ c.below.ensures) in
    let within = there_within earlier c.args.first c.args.target c.args.start parent f added long starts c.requires.from c.requires.before s0 few at in
    let count = all_count earlier c.args.first c.args.target c.args.start parent f added long starts c.requires.from c.requires.before s0 few at in
    let sum = c.saturating_add.ensures in
    let next = c.saturating_add-place.ensures in
    let len = c.len-len.ensures in
    elim c.then-place-from.branch [
      | then-place-from-via-then-place-from w ↦ let test = w.if-place-from.true in absurd (omega (arith, found, within, count, few, sum, next, test))
      | then-place-from-via-else-place-from+then-from-len w ↦ let test = w.if-from-len.true in absurd (omega (arith, count, len, whole, test))
    ]

pub returns : goal.returns
returns c = λ earlier parent f added long starts at.
    let table = c.args.self.now in
    let s0 = table.slots.items in
    let numbered = table.numbered in
    let whole = table.slots.ok.0 in
    let few : length s0 < 2 ^ 32 = omega (arith, numbered, whole) in
    let found = target_is earlier c.args.first c.args.target c.args.start parent f added long starts c.requires.from c.requires.before s0 few at
    c.in-Some.below (sym c.in-Some.is ∙ c.below.ensures) in
    let within = there_within earlier c.args.first c.args.target c.args.start parent f added long starts c.requires.from c.requires.before s0 few at in
    let all = all_count earlier c.args.first c.args.target c.args.start parent f added long starts c.requires.from c.requires.before s0 few at in
    let sum = c.saturating_add.ensures in
    let next = c.saturating_add-place.ensures in
    let len = c.len-len.ensures in
    let count = c.len-len.result - c.args.start in
    all_put earlier c.args.first c.args.target c.args.start parent f added long starts c.requires.from c.requires.before s0 few at
    count c.saturating_add-place.result c.widen.new.slots.items c.shift.new.slots.items c.bring_before.new.slots.items c.shift-2.new.slots.items
    (omega (arith, all, len, whole)) (omega (arith, found, within, few, all, sum, next))
    c.widen.ensures.widened c.shift.ensures.shifted c.bring_before.ensures.order c.shift-2.ensures.shifted
