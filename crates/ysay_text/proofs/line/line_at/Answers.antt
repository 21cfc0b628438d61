use Rattle.std.proofs.Common.{ℕ, List, ap, sym, ◌∙◌, ◌-◌, ◌+◌, length, eqb-true}
use Rattle.ysay_text.specs.Line.{behind_lines}
use Rattle.ysay_text.proofs.LineLemmas.{at_end, one_more}
use Rattle.ysay_text.proofs.line.line_at.Goals as goal

pub loop-at-preserved : goal.loop-at-preserved
loop-at-preserved c = ap (λ (bytes : List ℕ). behind_lines (c.args.number - (c.loop-at._at + 1)) bytes) c.other_lines-rest.ensures
    ∙ (sym (one_more c.args.number c.loop-at._at c.loop-at.rest.now c.loop-at-test.true) ∙ c.loop-at.invariant)

pub returns-then-is_empty : goal.returns-then-is_empty
returns-then-is_empty c = at_end (c.args.number - c.loop-at._at) c.loop-at.rest.now _ (eqb-true (length c.loop-at.rest.now) 0 (sym c.if-is_empty.ensures)) c.loop-at.invariant
