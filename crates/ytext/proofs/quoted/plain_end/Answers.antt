use Rattle.std.proofs.Common.{List, ℕ, drop, sym, ap, ◌∙◌, arith}
use Rattle.ytext.specs.Quoted.{is_plain}
use Rattle.ytext.proofs.QuotedLemmas.{plain_first, plain_next}
use Rattle.ytext.proofs.quoted.plain_end.Goals as goal

pub loop-at-init : goal.loop-at-init
loop-at-init c = record {
  forward = omega arith;
  within = omega (arith, c.requires.within);
  same = λ is_yang_1 width left line text. plain_first is_yang_1 width left line text c.args.raw.now c.args.from c.requires.within c.requires.plain;
}

pub loop-at-preserved : goal.loop-at-preserved
loop-at-preserved c =
    let raw : List ℕ = c.args.raw.now in
    let at : ℕ = c.loop-at.at in
    let before = c.loop-at.invariant in
    let test = ap (λ (t : List ℕ). is_plain (drop at t)) (sym c.as_bytes-bytes.ensures.value) ∙ sym c.if-is_plain_at.ensures.cases in
    record {
      forward = omega (arith, before.forward);
      within = omega (arith, c.loop-at-test.true, c.as_bytes-bytes.ensures.len);
      same = λ is_yang_1 width left line text. before.same is_yang_1 width left line text ∙ plain_next is_yang_1 width line text raw c.args.from at (omega (arith, before.forward)) (omega (arith, c.loop-at-test.true, c.as_bytes-bytes.ensures.len)) test;
    }
