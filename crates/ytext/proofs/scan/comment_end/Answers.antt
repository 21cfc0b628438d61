use Rattle.std.proofs.Common.{sym, ◌∙◌, arith}
use Rattle.ytext.proofs.ScanLemmas.{comment_more}
use Rattle.ytext.proofs.scan.comment_end.Goals as goal

pub loop-at-preserved : goal.loop-at-preserved
loop-at-preserved c = record {
  from = omega arith;
  within = omega arith;
  rest = sym (comment_more c.args.bytes.now c.loop-at.at c.loop-at-test.true (sym c.if-ends_comment.ensures.cases)) ∙ c.loop-at.invariant.rest;
}
