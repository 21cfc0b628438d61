use Rattle.std.proofs.Common.{List, ℕ, get_or, sym, ap, ◌∙◌, arith}
use Rattle.std.specs.Prelude.{slice_range}
use Rattle.yspec.specs.text.Text.{is_blank}
use Rattle.ytext.specs.Quoted.{all_blank}
use Rattle.ytext.proofs.QuotedLemmas.{blank_more}
use Rattle.ytext.proofs.quoted.blanks_end.Goals as goal

pub loop-at-preserved : goal.loop-at-preserved
loop-at-preserved c =
    let raw : List ℕ = c.args.raw.now in
    let at : ℕ = c.loop-at.at in
    let before = c.loop-at.invariant in
    let next = c.behind_ascii-at.ensures in
    let test = ap (λ (t : List ℕ). is_blank (get_or t at 0)) (sym c.as_bytes-bytes.ensures.value) ∙ sym c.if-is_blank.ensures.cases in
    record {
      forward = omega (arith, next.next, before.forward);
      place = next.place;
      blank = ap (λ (j : ℕ). all_blank (slice_range raw c.args.from j)) next.next
          ∙ blank_more raw c.args.from at before.forward (omega (arith, c.loop-at-test.true, c.as_bytes-bytes.ensures.len)) before.blank test;
    }
