-- What is left of a scan by the piece that is found.
use Rattle.std.proofs.Common.{◌≡◌, ℕ, ◌-◌, List, [], ◌∷◌, Bool, false, cond, Option, Some, None, Result, Ok, length, sym, ap, ◌∙◌, arith}
use Rattle.std.specs.Iterator.{MakesProgress, item_count}
use Rattle.std.specs.Option.{option_map_or}
use Rattle.yspec.specs.text.Statement.{Slip}
use Rattle.yspec.specs.text.Scanning.{Piece, Cause, TokenKind, Scanned, first_cause, cause_within, told_of, kind_of, scanned, given, given_of}
use Rattle.ytext.specs.View.{ends_text}
use Rattle.ytext.specs.Left.{pieces_left, behind_found, piece_of, with_piece}
use Rattle.ytext.specs.Scanned.{tokens_left}
use Rattle.ytext.specs.declared.cursor.Cursor.{Cursor}
use Rattle.ytext.specs.declared.cursor.Found.{Found}
use Rattle.ytext.specs.declared.scanner.Tokens.{Tokens}

abbrev pub Items : Type 0
Items = List (Result Scanned Slip)

pub left_by_piece : (s : Tokens) (f : Found) → s.ended ≡ false → f.cursor.text.now ≡ s.cursor.text.now → pieces_left s.cursor ≡ with_piece f
    → tokens_left s ≡ given f.cursor.text.now s.forbidden (piece_of f) (given_of f.cursor.text.now s.forbidden
    (cond (ends_text f.lexeme) [] (behind_found f)))
unfolding given_of
left_by_piece s f e same met =
    ap (λ (b : Bool). cond b [] (given_of s.cursor.text.now s.forbidden (pieces_left s.cursor))) e
    ∙ ap (λ (text : List ℕ). given_of text s.forbidden (pieces_left s.cursor)) (sym same)
    ∙ ap (given_of f.cursor.text.now s.forbidden) met

pub told_given : (text : List ℕ) (forbidden : Option ℕ) (p : Piece) (rest : Items) (c : Cause)
    → Some c ≡ first_cause forbidden p.end (cause_within p.start p.token.lexeme) → given text forbidden p rest ≡ told_of text c ∷ []
told_given text forbidden p rest c e =
    ap (λ (o : Option Cause). option_map_or (λ c. told_of text c ∷ []) o
    (option_map_or (λ kind. Ok (scanned text p kind) ∷ rest) (kind_of p.token.lexeme) [])) (sym e)

right_given : (text : List ℕ) (forbidden : Option ℕ) (p : Piece) (rest : Items)
    → None ≡ first_cause forbidden p.end (cause_within p.start p.token.lexeme)
    → given text forbidden p rest ≡ option_map_or (λ kind. Ok (scanned text p kind) ∷ rest) (kind_of p.token.lexeme) []
right_given text forbidden p rest e =
    ap (λ (o : Option Cause). option_map_or (λ c. told_of text c ∷ []) o
    (option_map_or (λ kind. Ok (scanned text p kind) ∷ rest) (kind_of p.token.lexeme) [])) (sym e)

pub token_given : (text : List ℕ) (forbidden : Option ℕ) (p : Piece) (rest : Items) (kind : TokenKind)
    → None ≡ first_cause forbidden p.end (cause_within p.start p.token.lexeme) → Some kind ≡ kind_of p.token.lexeme
    → given text forbidden p rest ≡ Ok (scanned text p kind) ∷ rest
token_given text forbidden p rest kind e k =
    right_given text forbidden p rest e ∙ ap (λ (o : Option TokenKind). option_map_or (λ kind. Ok (scanned text p kind) ∷ rest) o []) (sym k)

pub end_given : (text : List ℕ) (forbidden : Option ℕ) (p : Piece) (rest : Items)
    → None ≡ first_cause forbidden p.end (cause_within p.start p.token.lexeme) → None ≡ kind_of p.token.lexeme
    → given text forbidden p rest ≡ []
end_given text forbidden p rest e k =
    right_given text forbidden p rest e ∙ ap (λ (o : Option TokenKind). option_map_or (λ kind. Ok (scanned text p kind) ∷ rest) o []) (sym k)

-- an item goes on towards the end
pub progress : {A : Type 0} (can : Tokens → Type 0) (s t : Tokens) (item : A) (x : Result Scanned Slip) → can t → tokens_left s ≡ x ∷ tokens_left t
    → MakesProgress can (item_count tokens_left) s (Some item) t
progress can s t item x goes e =
    record { on = λ _. (goes, tt, omega (arith, ap length e)); keeps = goes; rests = λ _. tt }

-- what is left behind a token
pub behind_token : (f : Found) (d : Cursor) (forbidden : Option ℕ) (ended : Bool) (rest : Items) → rest ≡ cond ended [] (given_of d.text.now forbidden (pieces_left d))
    → ended ≡ false → ends_text f.lexeme ≡ false → d.text.now ≡ f.cursor.text.now → pieces_left d ≡ behind_found f
    → given_of f.cursor.text.now forbidden (cond (ends_text f.lexeme) [] (behind_found f)) ≡ rest
behind_token f d forbidden ended rest is e goes same behind =
    ap (λ (b : Bool). given_of f.cursor.text.now forbidden (cond b [] (behind_found f))) goes
    ∙ ap (given_of f.cursor.text.now forbidden) (sym behind)
    ∙ ap (λ (text : List ℕ). given_of text forbidden (pieces_left d)) (sym same)
    ∙ ap (λ (b : Bool). cond b [] (given_of d.text.now forbidden (pieces_left d))) (sym e) ∙ sym is
