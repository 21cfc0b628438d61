use Rattle.std.proofs.Common.{sym, ap, ◌∙◌, arith, option_map, Bool, drop, ◌+◌}
use Rattle.yspec.specs.text.Token.{double_length}
use Rattle.ytext.proofs.ScanLemmas.{double_more}
use Rattle.ytext.proofs.scan.double_end.Goals as goal

pub loop-at-preserved : goal.loop-at-preserved
loop-at-preserved c = record {
  from = omega arith;
  within = omega arith;
  rest = ap (λ (b : Bool). option_map (λ n. (c.loop-at.at + 1) + n) (double_length b (drop (c.loop-at.at + 1) c.args.bytes.now))) c.is_unescaped-is_escaped.ensures
      ∙ sym (double_more c.loop-at.is_escaped c.args.bytes.now c.loop-at.at c.loop-at-test.true (sym c.if-is_unescaped.ensures)) ∙ c.loop-at.invariant.rest;
}
