-- Laws of what a scan gives.
use Rattle.std.proofs.Common.{◌≡◌, ℕ, zero, suc, ◌+◌, ◌-◌, ◌<◌, ◌≤◌, List, [], ◌∷◌, ◌++◌, length, map, refl, sym, ap, subst, ◌∙◌, arith}
use Rattle.std.proofs.lemmas.List.{length-append}
use Rattle.yspec.specs.text.Text.{Text, line_after}
use Rattle.yspec.specs.text.Token.{Lexeme, Token, Front, gap, token, last, front, met, at, column_after, tokens_from}
use Rattle.yspec.specs.text.Spelling.{Place, past, behind}
use Rattle.yspec.specs.text.Scanning.{Piece, piece_at, pieces_with, pieces_from, Scan, at_end, broken, after_gap, after_token}
use Rattle.yspec.proofs.TextProofs.SpellingCutLemmas.{Right, front_at, front_right, gap_front, piece_front, gap_not_empty, piece_not_empty}

abbrev tokens_in : List Piece → List Token
tokens_in ps = map (λ (p : Piece). p.token) ps

met_placed : (start line : ℕ) (f : Front) (rest : ℕ → List Piece) (others : ℕ → List Token)
    → ((n : ℕ) → tokens_in (rest n) ≡ others n) → tokens_in (pieces_with start line f rest) ≡ met line f others
met_placed start line (gap n) rest others e = e n
met_placed start line (token lexeme n) rest others e = ap (λ (ts : List Token). at line lexeme ∷ ts) (e n)
met_placed start line (last lexeme) rest others e = refl

-- the tokens of the pieces are those of the text
pub same_tokens : (skip start line column : ℕ) (xs : Text)
    → tokens_in (pieces_from skip start line column xs) ≡ tokens_from skip line column xs
unfolding pieces_from tokens_from
same_tokens skip start line column [] = refl
same_tokens (suc skip) start line column (x ∷ xs) =
    same_tokens skip (start + 1) (line_after x line) (column_after x column) xs
same_tokens zero start line column (x ∷ xs) = met_placed start line (front column x xs)
    (λ n. pieces_from (n - 1) (start + 1) (line_after x line) (column_after x column) xs)
    (λ n. tokens_from (n - 1) (line_after x line) (column_after x column) xs)
    (λ n. same_tokens (n - 1) (start + 1) (line_after x line) (column_after x column) xs)

-- ---- the pieces stand where they are cut, with gaps alone between them

abbrev pieces_at : ℕ → Place → Text → List Piece
pieces_at start place text = pieces_from 0 start place.line place.column text

further : (start n : ℕ) → (start + 1) + n ≡ start + suc n
further start n = omega arith

no_further : (start : ℕ) → start ≡ start + 0
no_further start = omega arith

one_less : (n : ℕ) → suc n - 1 ≡ n
one_less n = omega arith

skipped : (bytes rest : Text) (start : ℕ) (place : Place) → pieces_from (length bytes) start place.line place.column
    (bytes ++ rest) ≡ pieces_at (start + length bytes) (behind place bytes) rest
unfolding pieces_from
skipped [] rest start place = ap (λ (n : ℕ). pieces_at n place rest) (no_further start)
skipped (x ∷ xs) rest start place = skipped xs rest (start + 1) (past x place)
    ∙ ap (λ (n : ℕ). pieces_at n (behind (past x place) xs) rest) (further start (length xs))

over_gap : (start : ℕ) (place : Place) (bytes rest : Text) → front_at place.column (bytes ++ rest) ≡ gap (length bytes)
    → 0 < length bytes → pieces_at start place (bytes ++ rest) ≡ pieces_at (start + length bytes) (behind place bytes) rest
unfolding front_at pieces_from
over_gap start place [] rest e n = absurd (omega arith)
over_gap start place (x ∷ xs) rest e n = rw e (rw (one_less (length xs)) (skipped (x ∷ xs) rest start place))

over_token : (start : ℕ) (place : Place) (lexeme : Lexeme) (bytes rest : Text)
    → front_at place.column (bytes ++ rest) ≡ token lexeme (length bytes) → 0 < length bytes
    → pieces_at start place (bytes ++ rest)
    ≡ piece_at start (start + length bytes) (at place.line lexeme) ∷ pieces_at (start + length bytes) (behind place bytes) rest
unfolding front_at pieces_from
over_token start place lexeme [] rest e n = absurd (omega arith)
over_token start place lexeme (x ∷ xs) rest e n = rw e (rw (one_less (length xs))
    (ap (λ (ps : List Piece). piece_at start (start + suc (length xs)) (at place.line lexeme) ∷ ps) (skipped (x ∷ xs) rest start place)))

shorter : (bytes rest text : Text) (fuel : ℕ) → text ≡ bytes ++ rest → length text ≤ suc fuel → 0 < length bytes
    → length rest ≤ fuel
shorter bytes rest text fuel e h n = omega (arith, ap (λ (t : Text). length t) e, length-append bytes rest)

pub scanned_so : (fuel start : ℕ) (place : Place) (text : Text) → length text ≤ fuel → Scan start place text (pieces_at start place text)
unfolding pieces_from Right
scanned_so fuel start place [] h = at_end
scanned_so zero start place (x ∷ xs) h = absurd (omega arith)
scanned_so (suc fuel) start place (x ∷ xs) h =
    go (front place.column x xs) refl (front_right place.column x xs) (scanned_so fuel)
  where
    go : (f : Front) → front place.column x xs ≡ f → Right place.column (x ∷ xs) f
        → ((start : ℕ) (place : Place) (text : Text) → length text ≤ fuel → Scan start place text (pieces_at start place text))
        → Scan start place (x ∷ xs) (pieces_at start place (x ∷ xs))
    go (gap n) e s below = subst (λ (t : Text). Scan start place t (pieces_at start place t)) (sym s.whole)
        (rw (over_gap start place s.bytes s.rest (gap_front place.column s.bytes s.rest s.holds) (gap_not_empty s.bytes s.rest s.holds))
        (after_gap s.holds (below (start + length s.bytes) (behind place s.bytes) s.rest
        (shorter s.bytes s.rest (x ∷ xs) fuel s.whole h (gap_not_empty s.bytes s.rest s.holds)))))
    go (token lexeme n) e s below = subst (λ (t : Text). Scan start place t (pieces_at start place t)) (sym s.whole)
        (rw (over_token start place lexeme s.bytes s.rest (piece_front place.column lexeme s.bytes s.rest s.holds)
        (piece_not_empty place.column lexeme s.bytes s.rest s.holds))
        (after_token s.holds (below (start + length s.bytes) (behind place s.bytes) s.rest
        (shorter s.bytes s.rest (x ∷ xs) fuel s.whole h (piece_not_empty place.column lexeme s.bytes s.rest s.holds)))))
    go (last lexeme) e b below = rw e (broken b)
