use Rattle.std.proofs.Common.{List, sym, ap, subst, ◌∙◌, arith}
use Rattle.yspec.specs.text.Token.{Token}
use Rattle.yspec.specs.Results.{Fails}
use Rattle.ytext.specs.Told.{told_by}
use Rattle.ytext.specs.Left.{left}
use Rattle.ytext.specs.Reading.{tokens_ahead, rows}
use Rattle.ytext.specs.View.{row_view}
use Rattle.ytext.specs.declared.statement.Stmt.{Stmt}
use Rattle.ytext.proofs.RowLemmas.{with_front, front_nothing, row_grows, row_fails}
use Rattle.ytext.proofs.ReaderLemmas.{word_ahead, row_ends, row_breaks}
use Rattle.ytext.proofs.reader.Reader.+reading.Goals as goal

pub statements-loop-self-init : goal.statements-loop-self-init
statements-loop-self-init t c =
    let read = rows c.args.level (tokens_ahead c.args.self.now) in
    record {
      ahead = omega arith;
      rest = ap (λ (ss : List Stmt). with_front (row_view ss) read) c.in_ok-subs.ensures.items ∙ front_nothing read;
    }

pub statements-loop-self-preserved : goal.statements-loop-self-preserved
statements-loop-self-preserved t c =
    let level = c.args.level in
    let before = c.loop-self.self in
    let behind = tokens_ahead c.statement.new.self in
    let ss = c.loop-self.subs.items in
    record {
      ahead = omega (arith, c.loop-self.invariant.ahead, c.in-Ok.ensures.ahead);
      rest = ap (λ (xs : List Stmt). with_front (row_view xs) (rows level behind)) c.in_ok-push-in-Ok.ensures.items
          ∙ sym (row_grows level c.in-Word.word.now before.token.line (left before.cursor) behind ss c.in-Ok.sub c.in-Ok.ensures.statement)
          ∙ ap (λ (ts : List Token). with_front (row_view ss) (rows level ts)) (sym (word_ahead before c.in-Word.word c.in-Word.is))
          ∙ c.loop-self.invariant.rest;
    }

pub statements-returns-in-Err-clause-rows : goal.statements-returns-in-Err-clause-rows
statements-returns-in-Err-clause-rows t c =
    let level = c.args.level in
    let before = c.loop-self.self in
    let ss = c.loop-self.subs.items in
    subst (Fails (told_by c.in-Err.fault)) (ap (λ (ts : List Token). with_front (row_view ss) (rows level ts)) (sym (word_ahead before c.in-Word.word c.in-Word.is)) ∙ c.loop-self.invariant.rest)
    (row_fails level c.in-Word.word.now before.token.line (left before.cursor) ss c.in-Err.fault c.in-Err.ensures.statement)

pub statements-returns-in-Ok-row_end : goal.statements-returns-in-Ok-row_end
statements-returns-in-Ok-row_end t c =
    let read = rows c.args.level (tokens_ahead c.loop-self.self) in
    let kept = ap (λ (ss : List Stmt). with_front (row_view ss) read) c.shrink_to_fit.ensures.items in
    record {
      ahead = c.loop-self.invariant.ahead;
      rows = row_ends c.args.level c.loop-self.self c.shrink_to_fit.new.self.items _ (kept ∙ c.loop-self.invariant.rest) (c.in-Ok-row_end.ensures c.args.level);
    }

pub statements-returns-in-Err-row_end-clause-rows : goal.statements-returns-in-Err-row_end-clause-rows
statements-returns-in-Err-row_end-clause-rows t c =
    row_breaks c.args.level c.loop-self.self c.loop-self.subs.items _ c.in-Err-row_end.fault c.loop-self.invariant.rest (c.in-Err-row_end.ensures c.args.level)
