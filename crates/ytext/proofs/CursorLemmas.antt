-- What a cursor's tokens are by what stands there.
use Rattle.std.proofs.Common.{◌≡◌, ℕ, ◌+◌, ◌-◌, ◌<◌, List, [], ◌∷◌, Bool, true, false, Bor, cond, ◌≤◌, length, drop, get_or, map, refl, sym, ap, ◌∙◌, arith}
use Rattle.yspec.specs.text.Token.{Token, at, finish}
use Rattle.yspec.specs.text.Token as token
use Rattle.yspec.specs.text.Scanning.{Piece, piece_at}
use Rattle.ytext.specs.Versions.{standing_behind, pieces_met, pieces_by}
use Rattle.ytext.specs.declared.lexeme.Standing.{Standing}
use Rattle.ytext.specs.View.{front_of, lexeme_of, ends_text, GoesOn}
use Rattle.ytext.specs.Left.{pieces_left, pieces_behind, pieces_after, left, column_of, stands, piece_of, with_piece, with_token, behind_found}
use Rattle.ytext.specs.declared.cursor.Cursor.{Cursor}
use Rattle.ytext.specs.declared.cursor.Found.{Found}
use Rattle.ytext.specs.declared.lexeme.Front.{Front}
use Rattle.ytext.specs.declared.lexeme.Front.TheVariants.{Gap, Token as Token_at, Last}
use Rattle.ytext.proofs.ScanLemmas.{drop_at}
use Rattle.ytext.proofs.TokenLemmas.{met_rest, met_at, first_passed, at_end}
use Rattle.std.proofs.lemmas.List.{drop_all}
use Rattle.ytext.specs.declared.cursor.Lexed.{Lexed}
use Rattle.ytext.specs.declared.lexeme.Lexeme.{Lexeme}
use Rattle.ytext.specs.declared.lexeme.Lexeme.TheVariants.{Double}
use Rattle.yspec.specs.text.Token.{column_behind}
use Rattle.yspec_wide.specs.Texts.{read_in_1}
use Rattle.ytext.proofs.VersionLemmas.{reads_once}

-- the pieces once one that ends later is passed over
piece_passed : (s : Standing) (c : Cursor) (later : ℕ) → c.at < length c.text.now → c.at < later
    → met_rest c.line (column_of c) c.text.now c.at s (later - c.at) ≡ pieces_after s (later - c.at) c
piece_passed s c later l h =
    let text : List ℕ = c.text.now in
    let x : ℕ = get_or text c.at 0 in
    first_passed s (later - c.at) c.at c.line (column_of c) x (drop (c.at + 1) text) (omega arith)
    ∙ ap (λ (xs : List ℕ). pieces_by s (later - c.at) c.at c.line (column_of c) xs) (sym (drop_at text c.at l))

-- the pieces by what stands at a cursor
abbrev pub after_front : Cursor → Front → List Piece
after_front c (Gap later) = pieces_behind (later - c.at) c
after_front c (Token_at lexeme later) = piece_at c.at later (at c.line (lexeme_of lexeme)) ∷ pieces_after (standing_behind c.standing (lexeme_of lexeme)) (later - c.at) c
after_front c (Last lexeme) = piece_at c.at c.at (at c.line (lexeme_of lexeme)) ∷ []

met_front : (c : Cursor) (f : Front) → c.at < length c.text.now → GoesOn c.text.now c.at f
    → pieces_met c.standing c.at c.line (front_of c.at f) (met_rest c.line (column_of c) c.text.now c.at) ≡ after_front c f
met_front c (Gap later) l goes = piece_passed c.standing c later l goes.0
met_front c (Token_at lexeme later) l goes =
    let there : c.at + (later - c.at) ≡ later = omega (arith, goes.1.0) in
    let next : Standing = standing_behind c.standing (lexeme_of lexeme) in
    ap (λ (end : ℕ). piece_at c.at end (at c.line (lexeme_of lexeme)) ∷ met_rest c.line (column_of c) c.text.now c.at next (later - c.at)) there
    ∙ ap (λ (ps : List Piece). piece_at c.at later (at c.line (lexeme_of lexeme)) ∷ ps) (piece_passed next c later l goes.1.0)
met_front c (Last lexeme) l goes = refl

pub left_by_front : (c : Cursor) (f : Front) → c.at < length c.text.now → GoesOn c.text.now c.at f → front_of c.at f ≡ stands c
    → pieces_left c ≡ after_front c f
left_by_front c f l goes is =
    met_at c.standing c.line (column_of c) c.text.now c.at l
    ∙ ap (λ (stood : token.Front). pieces_met c.standing c.at c.line stood (met_rest c.line (column_of c) c.text.now c.at)) (sym is)
    ∙ met_front c f l goes

-- what is found, and what is behind it
pub piece_met : (f : Found) → ends_text f.lexeme ≡ false
    → pieces_left f.cursor ≡ piece_of f ∷ behind_found f → pieces_left f.cursor ≡ with_piece f
piece_met f goes e = e ∙ ap (λ (b : Bool). piece_of f ∷ cond b [] (behind_found f)) (sym goes)

pub last_met : (c : Cursor) (f : Found) (lexeme : Lexeme) → f.cursor ≡ c → f.lexeme ≡ lexeme → f.end ≡ c.at → ends_text lexeme ≡ true
    → pieces_left c ≡ piece_at c.at c.at (at c.line (lexeme_of lexeme)) ∷ [] → pieces_left c ≡ with_piece f
last_met c f lexeme here is end goes e =
    e ∙ ap (λ (l : Lexeme). piece_at c.at c.at (at c.line (lexeme_of l)) ∷ []) (sym is)
    ∙ ap (λ (n : ℕ). piece_at c.at n (at c.line (lexeme_of f.lexeme)) ∷ []) (sym end)
    ∙ ap (λ (d : Cursor). piece_at d.at f.end (at d.line (lexeme_of f.lexeme)) ∷ []) (sym here)
    ∙ ap (λ (b : Bool). piece_of f ∷ cond b [] (behind_found f)) (sym (ap ends_text is ∙ goes))

-- at the end nothing but the end is left
pub end_met : (c : Cursor) → length c.text.now ≤ c.at → pieces_left c ≡ piece_at c.at c.at (at c.line finish) ∷ []
end_met c h = ap (λ (xs : List ℕ). pieces_by c.standing 0 c.at c.line (column_of c) xs) (drop_all c.at c.text.now h) ∙ at_end c.standing c.at c.line (column_of c)

-- the token of what is found, and those behind it
pub token_met : (ps : List Piece) (f : Found) (t : Lexed) (d : Cursor) → ps ≡ with_piece f → t.lexeme ≡ f.lexeme → t.line ≡ f.cursor.line
    → pieces_left d ≡ behind_found f → map (λ (p : Piece). p.token) ps ≡ with_token t d
token_met ps f t d e is line behind =
    ap (λ (qs : List Piece). map (λ (p : Piece). p.token) qs) e
    ∙ ap (λ (rest : List Token). at f.cursor.line (lexeme_of f.lexeme) ∷ rest) (over_test (ends_text f.lexeme) (behind_found f))
    ∙ ap (λ (qs : List Piece). at f.cursor.line (lexeme_of f.lexeme) ∷ cond (ends_text f.lexeme) [] (map (λ (p : Piece). p.token) qs)) (sym behind)
    ∙ ap (λ (l : Lexeme). at f.cursor.line (lexeme_of l) ∷ cond (ends_text l) [] (left d)) (sym is)
    ∙ ap (λ (n : ℕ). at n (lexeme_of t.lexeme) ∷ cond (ends_text t.lexeme) [] (left d)) (sym line)
  where
    over_test : (b : Bool) (qs : List Piece) → map (λ (p : Piece). p.token) (cond b [] qs) ≡ cond b [] (map (λ (p : Piece). p.token) qs)
    over_test true qs = refl
    over_test false qs = refl

-- a double-quoted string is read once, whether it is marked as one of YANG 1 or not
pub marked : (l : Lexeme) (before raw : Bor (List ℕ)) (old : Bool) → l ≡ Double before raw old → lexeme_of (Double before raw true) ≡ read_in_1 (lexeme_of l)
marked l before raw old e = reads_once old (column_behind 1 before.now) raw.now ∙ ap (λ (k : Lexeme). read_in_1 (lexeme_of k)) (sym e)
