use Rattle.std.proofs.Common.{ℕ, List, ◌<◌, ◌+◌, ◌-◌, length, drop, get_or, sym, ap, ◌∙◌, arith}
use Rattle.ytext.specs.Versions.{pieces_by}
use Rattle.ytext.specs.Left.{column_at}
use Rattle.ytext.proofs.TokenLemmas.{break_passed, other_passed}
use Rattle.ytext.proofs.cursor.Cursor.moved_to.Goals as goal
use Rattle.ytext.proofs.cursor.Cursor.moved_to.Goals.{then-bytes-i-eq10, else-bytes-i-eq10}

pub loop-i-preserved : goal.loop-i-preserved
loop-i-preserved c =
    let text : List ℕ = c.args.self.text.now in
    let i : ℕ = c.loop-i.i in
    let end : ℕ = c.args.end in
    let before = c.loop-i.invariant in
    let byte = ap (λ (t : List ℕ). get_or t i 0) c.as_bytes-bytes.ensures.value in
    let before_end : i < end = omega (arith, c.loop-i-test.true) in
    let within : i < length text = omega (arith, c.loop-i-test.true, c.requires.place.0) in
    let line_moves = λ (n : ℕ). pieces_by c.args.self.standing (end - (i + 1)) (i + 1) n (column_at text c.if-bytes-i-eq10.line_start (i + 1)) (drop (i + 1) text) in
    let start_moves = λ (line start : ℕ). pieces_by c.args.self.standing (end - (i + 1)) (i + 1) line (column_at text start (i + 1)) (drop (i + 1) text) in
    elim c.if-bytes-i-eq10.branch [
      | then-bytes-i-eq10 w ↦ record {
        line = omega (arith, w.line-is, before.line);
        begun = omega (arith, w.line_start-is);
        pieces = ap line_moves w.line-is ∙ ap (start_moves (c.loop-i.line + 1)) w.line_start-is
            ∙ sym (break_passed c.args.self.standing end c.loop-i.line (column_at text c.loop-i.line_start i) text i before_end within (sym byte ∙ w.if-bytes-i-eq10.true)) ∙ before.pieces;
      }
      | else-bytes-i-eq10 w ↦ record {
        line = omega (arith, w.line-is, before.line);
        begun = omega (arith, w.line_start-is, before.begun);
        pieces = ap line_moves w.line-is ∙ ap (start_moves c.loop-i.line) w.line_start-is
            ∙ sym (other_passed c.args.self.standing end c.loop-i.line c.loop-i.line_start text i before_end within before.begun (λ e. w.if-bytes-i-eq10.false (byte ∙ e))) ∙ before.pieces;
      }
    ]
