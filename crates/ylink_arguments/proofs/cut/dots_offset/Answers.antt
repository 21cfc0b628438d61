use Rattle.std.proofs.Common.{sym, ◌∙◌, arith, rules}
use Rattle.ylink_arguments.proofs.CutLemmas.{dots_here, dots_more, dots_nowhere}
use Rattle.ylink_arguments.proofs.cut.dots_offset.Goals as goal

pub returns-then-are_dots : goal.returns-then-are_dots
returns-then-are_dots c = record {
  value = sym (dots_here c.args.bytes.now c.loop-at.at c.loop-at-test.true (sym c.if-are_dots.ensures)) ∙ c.loop-at.invariant.rest;
  within = c.loop-at-test.true;
  first = search rules;
  second = search rules;
}

pub loop-at-preserved : goal.loop-at-preserved
loop-at-preserved c = record {
  within = omega (arith, c.loop-at-test.true);
  rest = sym (dots_more c.args.bytes.now c.loop-at.at c.loop-at-test.true (sym c.if-are_dots.ensures)) ∙ c.loop-at.invariant.rest;
}

pub returns-clause-value : goal.returns-clause-value
returns-clause-value c = sym (dots_nowhere c.args.bytes.now c.loop-at.at (omega (arith, c.loop-at-test.false))) ∙ c.loop-at.invariant.rest
