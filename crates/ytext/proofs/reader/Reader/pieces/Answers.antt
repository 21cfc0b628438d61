use Rattle.std.proofs.Common.{sym, ap, subst, ◌∙◌, arith, string_bytes}
use Rattle.yspec.specs.text.Text.{Text}
use Rattle.yspec.specs.Results.{Fails}
use Rattle.ytext.specs.Told.{told_by}
use Rattle.ytext.specs.Reading.{first_of, rest_of, tokens_ahead, piece_behind}
use Rattle.ytext.proofs.PieceLemmas.{going, first_fails, first_taken, fails_taken, piece_taken, plus_quoted}
use Rattle.ytext.proofs.reader.Reader.pieces.Goals as goal

pub returns-in-Err-clause-pieces : goal.returns-in-Err-clause-pieces
returns-in-Err-clause-pieces c =
    let start = c.args.self.now in
    first_fails c.in-Err.fault (first_of start) (rest_of start)
    (subst (λ (t : Text). Fails (told_by c.in-Err.fault) (piece_behind t (tokens_ahead start))) c.new-text.ensures.bytes c.in-Err.ensures.piece)

pub loop-line-init : goal.loop-line-init
loop-line-init c =
    let start = c.args.self.now in
    let behind = c.take_piece.new.self in
    record {
      ahead = c.in_default.ensures.ahead;
      rest = first_taken (string_bytes c.take_piece.new.text) (first_of start) (first_of behind) (rest_of start) (rest_of behind)
          (ap (λ (t : Text). piece_behind t (tokens_ahead start)) (sym c.new-text.ensures.bytes) ∙ c.in_default.ensures.piece);
    }

pub returns-in-Err-take_piece-clause-pieces : goal.returns-in-Err-take_piece-clause-pieces
returns-in-Err-take_piece-clause-pieces c =
    let before = c.loop-line.self in
    let behind = c.step.new.self in
    let text = string_bytes c.loop-line.text in
    let joined = ap (going text) c.step.ensures.tokens ∙ plus_quoted text (first_of before) (tokens_ahead behind) (sym c.loop-line-test.ensures.cases) (sym c.if-not-is_quoted.ensures) in
    subst (Fails (told_by c.in-Err-take_piece.fault)) (sym joined ∙ c.loop-line.invariant.rest)
    (fails_taken c.in-Err-take_piece.fault text (first_of behind) (rest_of behind) c.in-Err-take_piece.ensures.piece)

pub loop-line-preserved : goal.loop-line-preserved
loop-line-preserved c =
    let before = c.loop-line.self in
    let behind = c.step.new.self in
    let last = c.take_piece-in-loop-line.new.self in
    let text = string_bytes c.loop-line.text in
    let joined = ap (going text) c.step.ensures.tokens ∙ plus_quoted text (first_of before) (tokens_ahead behind) (sym c.loop-line-test.ensures.cases) (sym c.if-not-is_quoted.ensures) in
    record {
      ahead = omega (arith, c.loop-line.invariant.ahead, c.step.ensures.ahead, c.in_default-take_piece.ensures.ahead);
      rest = sym (piece_taken text (string_bytes c.take_piece-in-loop-line.new.text) (first_of behind) (first_of last) (rest_of behind) (rest_of last) c.in_default-take_piece.ensures.piece)
          ∙ sym joined ∙ c.loop-line.invariant.rest;
    }
