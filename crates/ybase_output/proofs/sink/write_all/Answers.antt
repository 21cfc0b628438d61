use Rattle.std.proofs.Common.{ℕ, List, Option, ◌∙◌, ap, arith, take}
use Rattle.ybase_output.specs.Sink.{followed_by}
use Rattle.ybase_output.proofs.SinkLemmas.{followed_twice, not_failed}
use Rattle.ybase_output.proofs.sink.write_all.Goals as goal

pub loop-at-preserved : goal.loop-at-preserved
loop-at-preserved g c =
    let before = c.loop-at.invariant in
    let told = c.in_ok-n.ensures in
    let n : ℕ = c.in_ok-n.n in
    let cut = c.split_at.ensures in
    let bytes = c.args.bytes.now in
    let failed_once = not_failed n c.split_at.result.1.now c.if-n-eq0.false in
    record {
      within = omega (arith, told.length, cut.back_len);
      taken = told.ok ∙ ap (λ (t : Option (List ℕ)). followed_by t (take n c.split_at.result.1.now)) before.taken
          ∙ ap (λ (rest : List ℕ). followed_by (followed_by (g.S.Sink.taken c.args.sink.now) (take c.loop-at.at bytes)) (take n rest)) cut.back
          ∙ followed_twice (g.S.Sink.taken c.args.sink.now) bytes c.loop-at.at n;
      failures = omega (arith, told.counted, failed_once, before.failures);
    }
