use Rattle.std.proofs.Common.{◌-◌, List, [], ◌∷◌, Result, Ok, cond, ap, sym, ◌∙◌, refl}
use Rattle.yspec.specs.text.Statement.{Slip}
use Rattle.yspec.specs.text.Scanning.{Scanned, given_of}
use Rattle.ytext.specs.Left.{piece_of, behind_found}
use Rattle.ytext.specs.View.{ends_text}
use Rattle.ytext.specs.Shown.{scanned_of}
use Rattle.ytext.proofs.ScannerLemmas.{left_by_piece, told_given, token_given, end_given, behind_token, progress}
use Rattle.ytext.proofs.scanner.TokensIterator.next.Goals as goal

pub returns-in-Some-clause-steps : goal.returns-in-Some-clause-steps
returns-in-Some-clause-steps c =
    let f = c.found-found in
    left_by_piece c.args.self.now f.result c.if-self.false f.ensures.text f.ensures.pieces
    ∙ told_given f.result.cursor.text.now c.args.self.now.forbidden (piece_of f.result) _ _ c.in-Some.ensures.cause
    ∙ ap (λ (x : Result Scanned Slip). x ∷ []) (sym c.fault_of.ensures)

pub returns-in-Some-clause-goes : goal.returns-in-Some-clause-goes
returns-in-Some-clause-goes c = progress _ _ _ _ _ tt (returns-in-Some-clause-steps c)

pub returns-in-Some-kind_of-clause-steps : goal.returns-in-Some-kind_of-clause-steps
returns-in-Some-kind_of-clause-steps c =
    let f = c.found-found in
    let text = f.result.cursor.text.now in
    left_by_piece c.args.self.now f.result c.if-self.false f.ensures.text f.ensures.pieces
    ∙ token_given text c.args.self.now.forbidden (piece_of f.result) _ _ c.in_default.ensures.cause c.in-Some-kind_of.ensures.kind
    ∙ ap (λ (x : Scanned). Ok x ∷ given_of text c.args.self.now.forbidden (cond (ends_text f.result.lexeme) [] (behind_found f.result))) (sym c.token.ensures)
    ∙ ap (λ (xs : List (Result Scanned Slip)). Ok (scanned_of c.token.result) ∷ xs)
    (behind_token f.result c.behind-self.result c.args.self.now.forbidden c.args.self.now.ended _ refl c.if-self.false c.in-Some-kind_of.ensures.token c.behind-self.ensures.text c.behind-self.ensures.pieces)

pub returns-in-Some-kind_of-clause-goes : goal.returns-in-Some-kind_of-clause-goes
returns-in-Some-kind_of-clause-goes c = progress _ _ _ _ _ tt (returns-in-Some-kind_of-clause-steps c)

pub returns-in-None-clause-steps : goal.returns-in-None-clause-steps
returns-in-None-clause-steps c =
    let f = c.found-found in (
      left_by_piece c.args.self.now f.result c.if-self.false f.ensures.text f.ensures.pieces
          ∙ end_given f.result.cursor.text.now c.args.self.now.forbidden (piece_of f.result) _ c.in_default.ensures.cause c.in-None.ensures.kind,
      refl,
    )
