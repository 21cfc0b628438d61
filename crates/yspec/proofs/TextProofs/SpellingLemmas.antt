-- What is read of a text is what it spells, and no text spells two things.
use Rattle.std.proofs.Common.{◌≡◌, ℕ, Bool, true, false, cond, List, [], ◌∷◌, length, take, Option, Some, None, Result, Ok, Err, refl, sym, subst, ◌∙◌, arith}
use Rattle.std.specs.Prelude.{nat_lt}
use Rattle.std.specs.Option.{option_map_or}
use Rattle.std.specs.Str.{chars, is_utf8}
use Rattle.std.proofs.lemmas.Bool.{ltb-false, le-ltb}
use Rattle.yspec.specs.Forest.{Forest}
use Rattle.yspec.specs.text.Text.{Text, is_allowed, line_after, line_behind, forbidden_line}
use Rattle.yspec.specs.text.Token.{Token, tokens_of}
use Rattle.yspec.specs.text.Statement.{Statement, Slip, slip, top_statement, text_limit, module_of}
use Rattle.yspec.specs.text.Spelling.{start, CutInto, AreAllowed, TokensSpell, Spells}
use Rattle.std.specs.Str.Lossy.{utf8_valid_len}
use Rattle.yspec.proofs.TextProofs.SpellingTokenLemmas.{ending, cut_only}
use Rattle.yspec.proofs.TextProofs.SpellingRowLemmas.{Ends, ok_is, top_found, top_only}

allowed_found : (line : ℕ) (cs : List ℕ) → forbidden_line line cs ≡ None → AreAllowed cs
allowed_found line [] h = tt
allowed_found line (c ∷ cs) h = go (is_allowed c cs) refl h (allowed_found (line_after c line) cs)
  where
    go : (b : Bool) → is_allowed c cs ≡ b → cond b (forbidden_line (line_after c line) cs) (Some line) ≡ None
        → (forbidden_line (line_after c line) cs ≡ None → AreAllowed cs) → AreAllowed (c ∷ cs)
    go true e h below = (e, below h)
    go false e h below = absurd cc

allowed_only : (line : ℕ) (cs : List ℕ) → AreAllowed cs → forbidden_line line cs ≡ None
allowed_only line [] h = refl
allowed_only line (c ∷ cs) h = rw h.0 (allowed_only (line_after c line) cs h.1)

pub text_ends : (text : Text) → Ends (tokens_of text)
unfolding Ends
text_ends text = let e = ending (length text) start text (omega arith) in (e.line, e.lexeme, e.is_end, e.last)

pub text_cut : (text : Text) → CutInto start text (tokens_of text)
text_cut text = (ending (length text) start text (omega arith)).cut

pub one_cut : (text : Text) (a b : List Token) → CutInto start text a → CutInto start text b → a ≡ b
one_cut text a b p q = sym (cut_only start text a p) ∙ cut_only start text b q

pub module_found : (text : Text) (top : Forest Statement) → module_of text ≡ Ok top → Spells text top
unfolding module_of
module_found text top e = go (nat_lt text_limit (length text)) refl (is_utf8 text) refl
    (forbidden_line 1 (chars text)) refl e
  where
    go : (long : Bool) → nat_lt text_limit (length text) ≡ long → (utf8 : Bool) → is_utf8 text ≡ utf8
        → (bad : Option ℕ) → forbidden_line 1 (chars text) ≡ bad
        → cond long (slip 7 1) (cond utf8 (option_map_or (λ line. slip 2 line) bad (top_statement (tokens_of text)))
        (slip 1 (line_behind 1 (take (utf8_valid_len text) text)))) ≡ Ok top → Spells text top
    go true hl utf8 hu bad hb e = absurd cc
    go false hl false hu bad hb e = absurd cc
    go false hl true hu (Some line) hb e = absurd cc
    go false hl true hu None hb e =
        let t = top_found (tokens_of text) top (text_ends text) e in
        record {
          short = ltb-false text_limit (length text) hl;
          utf8 = hu;
          allowed = allowed_found 1 (chars text) hb;
          tokens = tokens_of text;
          cut = text_cut text;
          statement = t;
        }

pub module_only : (text : Text) (top : Forest Statement) → Spells text top → module_of text ≡ Ok top
unfolding module_of
module_only text top s = rw (le-ltb text_limit (length text) s.short, s.utf8, allowed_only 1 (chars text) s.allowed)
    (top_only (tokens_of text) top
    (subst (λ (ts : List Token). TokensSpell ts top) (sym (cut_only start text s.tokens s.cut)) s.statement))

pub one_reading : (text : Text) (a b : Forest Statement) → Spells text a → Spells text b → a ≡ b
one_reading text a b p q = ok_is a b (sym (module_only text a p) ∙ module_only text b q)

pub refused_spells_nothing : (text : Text) (e : Slip) (top : Forest Statement) → module_of text ≡ Err e
    → Spells text top → ⊥
refused_spells_nothing text e top h s = cc (sym h ∙ module_only text top s)

pub nothing_is_refused : (text : Text) → ((top : Forest Statement) → Spells text top → ⊥)
    → (e : Slip) × (module_of text ≡ Err e)
nothing_is_refused text none = go (module_of text) refl
  where
    go : (r : Result (Forest Statement) Slip) → module_of text ≡ r → (e : Slip) × (module_of text ≡ Err e)
    go (Ok top) h = absurd (none top (module_found text top h))
    go (Err e) h = (e, h)
