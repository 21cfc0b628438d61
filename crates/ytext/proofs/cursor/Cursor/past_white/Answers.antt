use Rattle.std.proofs.Common.{ℕ, List, ◌<◌, ◌+◌, length, drop, get_or, sym, ap, ◌∙◌, arith}
use Rattle.yspec.specs.text.Text.{is_white}
use Rattle.ytext.specs.Versions.{pieces_by}
use Rattle.ytext.specs.Left.{column_at}
use Rattle.ytext.proofs.TokenLemmas.{white_break, white_other}
use Rattle.ytext.proofs.cursor.Cursor.past_white.Goals as goal
use Rattle.ytext.proofs.cursor.Cursor.past_white.Goals.{then-bytes-at-eq10, else-bytes-at-eq10}

pub loop-at-preserved : goal.loop-at-preserved
loop-at-preserved c =
    let text : List ℕ = c.args.self.text.now in
    let i : ℕ = c.loop-at.at in
    let before = c.loop-at.invariant in
    let byte = ap (λ (t : List ℕ). get_or t i 0) c.as_bytes-bytes.ensures.value in
    let white = sym (c.is_white.ensures.cases ∙ ap is_white byte) ∙ c.if-is_white.true in
    let within : i < length text = omega (arith, c.loop-at-test.true, ap length c.as_bytes-bytes.ensures.value) in
    let next = c.behind_ascii-at.ensures.next in
    let place_moves = λ (n : ℕ). pieces_by c.args.self.standing 0 n c.if-bytes-at-eq10.line (column_at text c.if-bytes-at-eq10.line_start n) (drop n text) in
    let line_moves = λ (n : ℕ). pieces_by c.args.self.standing 0 (i + 1) n (column_at text c.if-bytes-at-eq10.line_start (i + 1)) (drop (i + 1) text) in
    let start_moves = λ (line start : ℕ). pieces_by c.args.self.standing 0 (i + 1) line (column_at text start (i + 1)) (drop (i + 1) text) in
    elim c.if-bytes-at-eq10.branch [
      | then-bytes-at-eq10 w ↦ record {
        forward = omega (arith, before.forward, next);
        line = omega (arith, w.line-is, before.line, next);
        begun = omega (arith, w.line_start-is, next);
        place = c.behind_ascii-at.ensures.place;
        pieces = before.pieces ∙ white_break c.args.self.standing c.loop-at.line (column_at text c.loop-at.line_start i) text i within white (sym byte ∙ w.if-bytes-at-eq10.true)
            ∙ sym (ap place_moves next ∙ ap line_moves w.line-is ∙ ap (start_moves (c.loop-at.line + 1)) w.line_start-is);
      }
      | else-bytes-at-eq10 w ↦ record {
        forward = omega (arith, before.forward, next);
        line = omega (arith, w.line-is, before.line, next);
        begun = omega (arith, w.line_start-is, before.begun, next);
        place = c.behind_ascii-at.ensures.place;
        pieces = before.pieces ∙ white_other c.args.self.standing c.loop-at.line c.loop-at.line_start text i within before.begun white (λ e. w.if-bytes-at-eq10.false (byte ∙ e))
            ∙ sym (ap place_moves next ∙ ap line_moves w.line-is ∙ ap (start_moves c.loop-at.line) w.line_start-is);
      }
    ]
