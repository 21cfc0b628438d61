use Rattle.std.proofs.Common.{true, false, sym, ◌∙◌}
use Rattle.ytype_simple.proofs.IdentityLemmas.{beside_at}
use Rattle.ytype_simple.proofs.identity.beside.Goals as goal

pub returns-then-eq : goal.returns-then-eq
returns-then-eq c =
    sym (beside_at c.args.entries.now c.args.prefix.now c.entries.entry-index _ c.entries-test.true true
    (sym c.eq.ensures ∙ c.if-eq.true)) ∙ c.entries.invariant

pub entries-preserved : goal.entries-preserved
entries-preserved c =
    sym (beside_at c.args.entries.now c.args.prefix.now c.entries.entry-index _ c.entries-test.true false
    (sym c.eq.ensures ∙ c.if-eq.false)) ∙ c.entries.invariant
