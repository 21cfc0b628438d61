use Rattle.std.proofs.Common.{ℕ, List, ◌&&◌, ◌==◌, drop, get_or, ◌+◌, sym, ap, ◌∙◌, arith}
use Rattle.yspec.specs.text.Text.{begins}
use Rattle.ytext.proofs.QuotedLemmas.{kept_stretch}
use Rattle.ytext.proofs.quoted.return_offset.Goals as goal

pub loop-at-preserved : goal.loop-at-preserved
loop-at-preserved c =
    let raw : List ℕ = c.args.raw.now in
    let at : ℕ = c.loop-at.at in
    let before = c.loop-at.invariant in
    let test = ap (λ (t : List ℕ). get_or t at 0 == 13 && begins 10 (drop (at + 1) t)) (sym c.as_bytes-bytes.ensures.value) ∙ sym c.if-not-returns_at.ensures.cases in
    record {
      forward = omega arith;
      within = omega (arith, c.loop-at-test.true, c.as_bytes-bytes.ensures.len);
      same = before.same ∙ kept_stretch raw c.args.from at before.forward (omega (arith, c.loop-at-test.true, c.as_bytes-bytes.ensures.len)) test;
    }
