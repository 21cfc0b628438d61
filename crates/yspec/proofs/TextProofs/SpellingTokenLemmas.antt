-- The tokens of a text are those into which it is cut.
use Rattle.std.proofs.Common.{◌≡◌, ℕ, zero, suc, ◌-◌, ◌<◌, ◌≤◌, true, if◌then◌else◌, List, [], ◌∷◌, ◌++◌, length, refl, sym, ap, subst, ◌∙◌, arith}
use Rattle.std.proofs.lemmas.List.{length-append}
use Rattle.yspec.specs.text.Text.{Text}
use Rattle.yspec.specs.text.Token.{Lexeme, Token, finish, at, Front, gap, token, last, front, tokens_from}
use Rattle.yspec.specs.text.Spelling.{Place, past, behind, IsGap, IsToken, IsBroken, CutInto, at_end, broken, after_gap, after_token}
use Rattle.yspec.proofs.TextProofs.SpellingCutLemmas.{Right, is_ending, front_at, front_right, gap_front, piece_front, gap_not_empty, piece_not_empty, piece_not_ending, broken_ends, broken_front, broken_not_empty}

abbrev pub tokens_at : Place → Text → List Token
tokens_at place text = tokens_from 0 place.line place.column text

skipped : (bytes rest : Text) (place : Place) → tokens_from (length bytes) place.line place.column
    (bytes ++ rest) ≡ tokens_at (behind place bytes) rest
unfolding tokens_from
skipped [] rest place = refl
skipped (x ∷ xs) rest place = skipped xs rest (past x place)

length_less : (xs : Text) → suc (length xs) - 1 ≡ length xs
length_less xs = omega arith

over_gap : (place : Place) (bytes rest : Text) → front_at place.column (bytes ++ rest) ≡ gap (length bytes)
    → 0 < length bytes → tokens_at place (bytes ++ rest) ≡ tokens_at (behind place bytes) rest
unfolding front_at tokens_from
over_gap place [] rest e n = absurd (omega arith)
over_gap place (x ∷ xs) rest e n = rw e (rw (length_less xs) (skipped xs rest (past x place)))

over_token : (place : Place) (lexeme : Lexeme) (bytes rest : Text) → front_at place.column (bytes ++ rest) ≡ token
    lexeme (length bytes) → 0 < length bytes → tokens_at place (bytes ++ rest) ≡ at place.line lexeme ∷ tokens_at
    (behind place bytes) rest
unfolding front_at tokens_from
over_token place lexeme [] rest e n = absurd (omega arith)
over_token place lexeme (x ∷ xs) rest e n = rw e
    (rw (length_less xs) (ap (λ (ts : List Token). at place.line lexeme ∷ ts) (skipped xs rest (past x place))))

gap_step : (place : Place) (bytes rest : Text) → IsGap bytes rest → tokens_at place (bytes ++ rest) ≡ tokens_at
    (behind place bytes) rest
gap_step place bytes rest g = over_gap place bytes rest (gap_front place.column bytes rest g)
    (gap_not_empty bytes rest g)

token_step : (place : Place) (lexeme : Lexeme) (bytes rest : Text) → IsToken place.column lexeme bytes rest
    → tokens_at place (bytes ++ rest) ≡ at place.line lexeme ∷ tokens_at (behind place bytes) rest
token_step place lexeme bytes rest p = over_token place lexeme bytes rest
    (piece_front place.column lexeme bytes rest p) (piece_not_empty place.column lexeme bytes rest p)

at_broken : (place : Place) (lexeme : Lexeme) (text : Text) → front_at place.column text ≡ last lexeme
    → 0 < length text → tokens_at place text ≡ at place.line lexeme ∷ []
unfolding front_at tokens_from
at_broken place lexeme [] e n = absurd (omega arith)
at_broken place lexeme (x ∷ xs) e n = rw e refl

broken_step : (place : Place) (lexeme : Lexeme) (text : Text) → IsBroken text lexeme
    → tokens_at place text ≡ at place.line lexeme ∷ []
broken_step place lexeme text b = at_broken place lexeme text (broken_front place.column text lexeme b)
    (broken_not_empty text lexeme b)

pub cut_only : (place : Place) (text : Text) (ts : List Token) → CutInto place text ts → tokens_at place text ≡ ts
unfolding tokens_from
cut_only place text ts at_end = refl
cut_only place text ts (broken {lexeme = lexeme} b) = broken_step place lexeme text b
cut_only place text ts (after_gap {bytes = bytes} {rest = rest} g c) =
    gap_step place bytes rest g ∙ cut_only (behind place bytes) rest ts c
cut_only place text ts (after_token {lexeme = lexeme} {bytes = bytes} {rest = rest} {ts = us} p c) =
    token_step place lexeme bytes rest p ∙ ap (λ (vs : List Token). at place.line lexeme ∷ vs)
    (cut_only (behind place bytes) rest us c)

shorter : (bytes rest text : Text) (fuel : ℕ) → text ≡ bytes ++ rest → length text ≤ suc fuel → 0 < length bytes
    → length rest ≤ fuel
shorter bytes rest text fuel e h n = omega (arith, ap (λ (t : Text). length t) e, length-append bytes rest)

-- ---- each text is cut into tokens, or its last token is what is wrong in it

-- the tokens from the first on that ends a text
abbrev pub from_ending : List Token → List Token
from_ending [] = []
from_ending (t ∷ ts) = if is_ending t.lexeme then t ∷ ts else from_ending ts

pub record Ending (place : Place) (text : Text) (ts : List Token) : Type 0 where
  pub line : ℕ
  pub lexeme : Lexeme
  pub is_end : is_ending lexeme ≡ true
  pub last : from_ending ts ≡ at line lexeme ∷ []
  pub cut : CutInto place text ts

gap_ending : (place : Place) (bytes rest : Text) → IsGap bytes rest → Ending (behind place bytes) rest
    (tokens_at (behind place bytes) rest) → Ending place (bytes ++ rest) (tokens_at place (bytes ++ rest))
gap_ending place bytes rest g e = rw (gap_step place bytes rest g) (record {
  line = e.line;
  lexeme =
      e.lexeme;
  is_end = e.is_end;
  last = e.last;
  cut = after_gap g e.cut;
})

token_ending : (place : Place) (lexeme : Lexeme) (bytes rest : Text) → IsToken place.column lexeme bytes rest
    → Ending (behind place bytes) rest (tokens_at (behind place bytes) rest) → Ending place (bytes ++ rest)
    (tokens_at place (bytes ++ rest))
token_ending place lexeme bytes rest p e = rw (token_step place lexeme bytes rest p)
    (record {
      line = e.line;
      lexeme = e.lexeme;
      is_end = e.is_end;
      last =
          rw (piece_not_ending place.column lexeme bytes rest p) e.last;
      cut = after_token p e.cut;
    })

last_ending : (place : Place) (x : ℕ) (xs : Text) (lexeme : Lexeme) → front place.column x xs ≡ last lexeme
    → IsBroken (x ∷ xs) lexeme → Ending place (x ∷ xs) (tokens_at place (x ∷ xs))
unfolding tokens_from
last_ending place x xs lexeme e b = rw e (record {
  line = place.line;
  lexeme = lexeme;
  is_end =
      broken_ends (x ∷ xs) lexeme b;
  last = rw (broken_ends (x ∷ xs) lexeme b) refl;
  cut = broken b;
})

pub ending : (fuel : ℕ) (place : Place) (text : Text) → length text ≤ fuel → Ending place text (tokens_at place text)
unfolding tokens_from Right
ending fuel place [] h = record { line = place.line; lexeme = finish; is_end = refl; last = refl; cut = at_end }
ending zero place (x ∷ xs) h = absurd (omega arith)
ending (suc fuel) place (x ∷ xs) h = go (front place.column x xs) refl (front_right place.column x xs) (ending fuel)
  where
    go : (f : Front) → front place.column x xs ≡ f → Right place.column (x ∷ xs) f
        → ((place : Place) (text : Text) → length text ≤ fuel → Ending place text (tokens_at place text))
        → Ending place (x ∷ xs) (tokens_at place (x ∷ xs))
    go (gap n) e s below = subst (λ (t : Text). Ending place t (tokens_at place t)) (sym s.whole)
        (gap_ending place s.bytes s.rest s.holds
        (below (behind place s.bytes) s.rest (shorter s.bytes s.rest (x ∷ xs) fuel s.whole h
        (gap_not_empty s.bytes s.rest s.holds))))
    go (token lexeme n) e s below = subst (λ (t : Text). Ending place t (tokens_at place t)) (sym s.whole)
        (token_ending place lexeme s.bytes s.rest s.holds
        (below (behind place s.bytes) s.rest (shorter s.bytes s.rest (x ∷ xs) fuel s.whole h
        (piece_not_empty place.column lexeme s.bytes s.rest s.holds))))
    go (last lexeme) e b below = last_ending place x xs lexeme e b
