use Rattle.std.proofs.Common.{sym, ◌∙◌, refl, ap, arith, length}
use Rattle.ytext.proofs.CursorLemmas.{left_by_front, piece_met, last_met, end_met}
use Rattle.ytext.specs.declared.lexeme.Lexeme.TheVariants.{End}
use Rattle.ytext.specs.declared.lexeme.Front.TheVariants.{Gap, Token, Last}
use Rattle.ytext.proofs.cursor.Cursor.found.Goals as goal

pub loop-cursor-preserved : goal.loop-cursor-preserved
loop-cursor-preserved c =
    let before = c.loop-cursor.invariant in
    let cursor = c.loop-cursor.cursor in
    let white = c.past_white-cursor-in-Gap.ensures in
    record {
      text = white.text ∙ c.moved_to.ensures.text ∙ before.text;
      at = omega (arith, before.at, c.in-Gap.ensures.later.0, c.moved_to.ensures.at, white.at);
      pieces = before.pieces ∙ left_by_front cursor (Gap c.in-Gap.end) (omega (arith, c.loop-cursor-test.true, ap length before.text, ap length c.as_bytes-bytes.ensures.value)) c.in-Gap.ensures.later c.in-Gap.ensures.front
          ∙ sym c.moved_to.ensures.pieces ∙ white.pieces;
    }

pub returns-in-Token-clause-pieces : goal.returns-in-Token-clause-pieces
returns-in-Token-clause-pieces c =
    let cursor = c.loop-cursor.cursor in
    let told = c.in-Token.ensures in
    c.loop-cursor.invariant.pieces ∙ piece_met (record { cursor = cursor; lexeme = c.in-Token.lexeme; end = c.in-Token.end }) told.later.0
    (left_by_front cursor (Token c.in-Token.lexeme c.in-Token.end) (omega (arith, c.loop-cursor-test.true, ap length c.loop-cursor.invariant.text, ap length c.as_bytes-bytes.ensures.value)) told.later told.front)

pub returns-in-Last-clause-pieces : goal.returns-in-Last-clause-pieces
returns-in-Last-clause-pieces c =
    let cursor = c.loop-cursor.cursor in
    let told = c.in-Last.ensures in
    let ended = c.end_found.ensures in
    c.loop-cursor.invariant.pieces ∙ last_met cursor c.end_found.result c.in-Last.lexeme ended.cursor ended.lexeme ended.end told.later.0
    (left_by_front cursor (Last c.in-Last.lexeme) (omega (arith, c.loop-cursor-test.true, ap length c.loop-cursor.invariant.text, ap length c.as_bytes-bytes.ensures.value)) told.later told.front)

pub returns-clause-pieces : goal.returns-clause-pieces
returns-clause-pieces c =
    let cursor = c.loop-cursor.cursor in
    let ended = c.end_found-2.ensures in
    c.loop-cursor.invariant.pieces ∙ last_met cursor c.end_found-2.result End ended.cursor ended.lexeme ended.end refl
    (end_met cursor (omega (arith, c.loop-cursor-test.false, ap length c.loop-cursor.invariant.text, ap length c.as_bytes-bytes.ensures.value)))
