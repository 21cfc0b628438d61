use Rattle.std.proofs.Common.{◌≡◌, ◌≤◌, List, ℕ, ◌+◌, ◌-◌, ◌++◌, get_or, replicate, sym, ap, ◌∙◌, arith, string_bytes, ◌⊎◌, inl, inr}
use Rattle.std.specs.Prelude.{slice_range}
use Rattle.yspec.specs.text.Text.{space}
use Rattle.yspec.specs.text.Token.{stripped_starts}
use Rattle.ytext.specs.Quoted.{all_blank, blank_width}
use Rattle.ytext.proofs.QuotedLemmas.{strip_step, first_blank, strip_end}
use Rattle.ytext.proofs.quoted.push_blanks.Goals as goal
use Rattle.ytext.proofs.quoted.push_blanks.Goals.{then-loop-at-test+else-left-gt0, else-loop-at-test}

pub behind_ascii-at-requires : goal.behind_ascii-at-requires
behind_ascii-at-requires c = record {
  within = omega (arith, c.loop-at-test.true, c.requires.end.0);
  ascii = first_blank c.args.raw.now c.loop-at.at c.args.end c.loop-at-test.true c.requires.end.0 c.loop-at.invariant.blank;
}

pub loop-at-preserved : goal.loop-at-preserved
loop-at-preserved c =
    let raw : List ℕ = c.args.raw.now in
    let at : ℕ = c.loop-at.at in
    let end : ℕ = c.args.end in
    let before = c.loop-at.invariant in
    let next = c.behind_ascii-at.ensures in
    let wide = c.blank_width-width.ensures ∙ ap (λ (t : List ℕ). blank_width (get_or t at 0)) c.as_bytes-bytes.ensures.value in
    let count = c.saturating_sub.ensures ∙ ap (λ (w : ℕ). w - c.loop-at.left) wide in
    let fewer = c.saturating_sub-left.ensures ∙ ap (λ (w : ℕ). c.loop-at.left - w) wide in
    let new = c.in_ok-push_spaces.ensures ∙ ap (λ (n : ℕ). string_bytes c.loop-at.text ++ replicate n space) count in
    let stripped = strip_step (string_bytes c.loop-at.text) (string_bytes c.push_spaces.new.text) (string_bytes c.args.text.now) raw
    (string_bytes c.args.text.now ++ stripped_starts 0 c.args.left (slice_range raw c.args.start end)) c.loop-at.left at end
    c.if-left-gt0.true c.loop-at-test.true c.requires.end.0 before.blank before.rest new in
    record {
      within = omega (arith, next.next, c.loop-at-test.true);
      place = next.place;
      blank = ap (λ (j : ℕ). all_blank (slice_range raw j end)) next.next ∙ stripped.1;
      rest = ap (λ (j : ℕ). string_bytes c.push_spaces.new.text ++ stripped_starts 0 c.saturating_sub-left.result (slice_range raw j end)) next.next
          ∙ ap (λ (n : ℕ). string_bytes c.push_spaces.new.text ++ stripped_starts 0 n (slice_range raw (at + 1) end)) fewer ∙ stripped.0;
    }

pub returns : goal.returns
returns c =
    let raw : List ℕ = c.args.raw.now in
    let before = c.loop-at.invariant in
    let none : (c.loop-at.left ≡ 0) ⊎ (c.args.end ≤ c.loop-at.at) = elim c.loop-at-test.branch [
      | then-loop-at-test+else-left-gt0 w ↦ inl (omega (arith, w.if-left-gt0.false))
      | else-loop-at-test w ↦ inr (omega (arith, w.loop-at-test.false))
    ] in
    c.in_ok-push_str.ensures.bytes ∙ ap (λ (t : List ℕ). string_bytes c.loop-at.text ++ t) (c.between.ensures ∙ sym (strip_end raw c.loop-at.left c.loop-at.at c.args.end none before.blank))
    ∙ before.rest
