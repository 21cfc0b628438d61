use Rattle.std.proofs.Common.{◌+◌, get_or, drop, sym, ◌∙◌}
use Rattle.std.proofs.lemmas.List.{at_drop_more}
use Rattle.yschema_resolve.proofs.TupleLemmas.{twice_from, twice_first, twice_more, twice_found}
use Rattle.yschema_resolve.proofs.tuples.has_twice.Goals as goal

pub loop-number-init : goal.loop-number-init
loop-number-init c = twice_first c.new-met.result c.args.numbers.now c.new-met.ensures.empty

pub returns-then-not-branch : goal.returns-then-not-branch
returns-then-not-branch c =
    let numbers = c.args.numbers.now in
    let i = c.loop-number.number-index in
    sym (at_drop_more (twice_from c.loop-number.met) numbers i 0 c.loop-number-test.true
    ∙ twice_found c.loop-number.met (get_or numbers i 0) (drop (i + 1) numbers) (sym c.if-not-branch.true ∙ c.in_ok-insert.ensures.added))
    ∙ c.loop-number.invariant

pub loop-number-preserved : goal.loop-number-preserved
loop-number-preserved c =
    let numbers = c.args.numbers.now in
    let i = c.loop-number.number-index in
    twice_more c.loop-number.met c.insert.new.self (get_or numbers i 0) (drop (i + 1) numbers) c.in_ok-insert.ensures.updates
    (sym c.if-not-branch.false ∙ c.in_ok-insert.ensures.added)
    ∙ (sym (at_drop_more (twice_from c.loop-number.met) numbers i 0 c.loop-number-test.true) ∙ c.loop-number.invariant)
