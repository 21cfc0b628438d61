-- The judgement of a whole text, character by character and step by step.
use Rattle.std.proofs.Common.{◌≡◌, ℕ, suc, get_or, drop-cons, ◌+◌, ◌<◌, ◌≤◌, List, [], ◌∷◌, Bool, true, false, ◌&&◌, ◌||◌, ◌==◌, cond, Option, Some, Result, length, take, drop, nat_lt, refl, sym, ap, ◌∙◌, arith, lt-ltb, le-ltb}
use Rattle.std.specs.Option.{option_map_or}
use Rattle.std.specs.Char.{len_utf8}
use lib.Utf8.{encodes, encode}
use Rattle.std.specs.Str.{chars, IsUtf8, is_utf8}
use Rattle.std.specs.Str.Lossy.{utf8_valid_len}
use Rattle.std.proofs.lemmas.Bool.{ne_eqb}
use Rattle.std.proofs.lemmas.Str.{is_utf8-from_IsUtf8, IsUtf8-from_is_utf8, length-le-encodes, encodes-chars, length-encode}
use Rattle.std.proofs.lemmas.List.{drop_all, length-append}
use Rattle.yspec.specs.text.Text.{begins, is_yang_char, line_after, line_behind, forbidden_line, line_feed, carriage_return}
use Rattle.yspec.specs.Forest.{Forest}
use Rattle.yspec.specs.text.Statement.{Statement, Slip, slip}
use Rattle.std.specs.Prelude.{not, is_some, None}
use Rattle.ytext.specs.Characters.{is_allowed_text, pending, judged}

pub at_feed : (r : Bool) (line : ℕ) (cs : List ℕ) → pending r line (10 ∷ cs) ≡ pending false (line + 1) cs
at_feed true line cs = refl
at_feed false line cs = refl

pub after_return : (line c : ℕ) (cs : List ℕ) → (c ≡ 10 → ⊥) → pending true line (c ∷ cs) ≡ Some line
after_return line c cs e = ap (λ (b : Bool). cond b (forbidden_line line (c ∷ cs)) (Some line)) (ne_eqb c 10 e)

pub at_return : (line : ℕ) (cs : List ℕ) → pending false line (13 ∷ cs) ≡ pending true line cs
at_return line cs = refl

pub at_allowed : (line c : ℕ) (cs : List ℕ) → (c ≡ 10 → ⊥) → is_yang_char c ≡ true → pending false line (c ∷ cs) ≡ pending false line cs
at_allowed line c cs e f =
    ap (λ (b : Bool). cond (b || (c == carriage_return && begins line_feed cs)) (forbidden_line (line_after c line) cs) (Some line)) f
    ∙ ap (λ (b : Bool). forbidden_line (cond b (line + 1) line) cs) (ne_eqb c 10 e)

pub at_forbidden : (line c : ℕ) (cs : List ℕ) → (c ≡ 13 → ⊥) → is_yang_char c ≡ false → pending false line (c ∷ cs) ≡ Some line
at_forbidden line c cs e f =
    ap (λ (b : Bool). cond (b || (c == carriage_return && begins line_feed cs)) (forbidden_line (line_after c line) cs) (Some line)) f
    ∙ ap (λ (b : Bool). cond (b && begins line_feed cs) (forbidden_line (line_after c line) cs) (Some line)) (ne_eqb c 13 e)

not_limit : (n : ℕ) → n ≤ 4194304 → nat_lt 4194304 n ≡ false
not_limit n h = le-ltb 4194304 n h

abbrev Top : Type 0
Top = Result (Forest Statement) Slip

-- what a text spells that isn't too long
abbrev within : List ℕ → Top → Top
within t top = cond (is_utf8 t) (option_map_or (λ line. slip 2 line) (forbidden_line 1 (chars t)) top) (slip 1 (line_behind 1 (take (utf8_valid_len t) t)))

pub too_long : (t : List ℕ) (top : Top) → 4194304 < length t → judged t top ≡ slip 7 1
too_long t top h = ap (λ (b : Bool). cond b (slip 7 1) (within t top)) (lt-ltb 4194304 (length t) h)

fits : (t : List ℕ) (top : Top) → length t ≤ 4194304 → judged t top ≡ within t top
fits t top h = ap (λ (b : Bool). cond b (slip 7 1) (within t top)) (not_limit (length t) h)

not_true : (b : Bool) → (b ≡ true → ⊥) → b ≡ false
not_true true e = absurd (e refl)
not_true false e = refl

pub no_text : (t valid : List ℕ) (top : Top) (n : ℕ) → length t ≤ 4194304 → (IsUtf8 t → ⊥) → n ≡ utf8_valid_len t → valid ≡ take n t → judged t top ≡ slip 1 (line_behind 1 valid)
no_text t valid top n h e is cut =
    fits t top h ∙ ap (λ (b : Bool). cond b (option_map_or (λ line. slip 2 line) (forbidden_line 1 (chars t)) top) (slip 1 (line_behind 1 (take (utf8_valid_len t) t)))) (not_true (is_utf8 t) (λ u. e (IsUtf8-from_is_utf8 t u)))
    ∙ ap (λ (k : ℕ). slip 1 (line_behind 1 (take k t))) (sym is) ∙ ap (λ (v : List ℕ). slip 1 (line_behind 1 v)) (sym cut)

pub judged_by : (t text : List ℕ) (top : Top) (o : Option ℕ) → text ≡ t → length t ≤ 4194304 → IsUtf8 t → o ≡ forbidden_line 1 (chars text) → judged t top ≡ option_map_or (λ line. slip 2 line) o top
judged_by t text top o is h u e =
    fits t top h ∙ ap (λ (b : Bool). cond b (option_map_or (λ line. slip 2 line) (forbidden_line 1 (chars t)) top) (slip 1 (line_behind 1 (take (utf8_valid_len t) t)))) (is_utf8-from_IsUtf8 t u)
    ∙ ap (λ (p : Option ℕ). option_map_or (λ line. slip 2 line) p top) (sym (e ∙ ap (λ (v : List ℕ). forbidden_line 1 (chars v)) is))

pub text_allowed : (t text : List ℕ) → text ≡ t → length t ≤ 4194304 → IsUtf8 t → None ≡ forbidden_line 1 (chars text) → is_allowed_text t ≡ true
text_allowed t text is h u e =
    ap (λ (b : Bool). not b && (is_utf8 t && not (is_some (forbidden_line 1 (chars t))))) (not_limit (length t) h)
    ∙ ap (λ (b : Bool). b && not (is_some (forbidden_line 1 (chars t)))) (is_utf8-from_IsUtf8 t u)
    ∙ ap (λ (o : Option ℕ). not (is_some o)) (sym (e ∙ ap (λ (v : List ℕ). forbidden_line 1 (chars v)) is))

pub char_at : (cs : List ℕ) (n c : ℕ) → (n < length cs) × (c ≡ get_or cs n c) → drop n cs ≡ c ∷ drop (n + 1) cs
char_at cs n c h =
    let next : suc n ≡ n + 1 = omega arith in
    drop-cons cs n c h.0 ∙ ap (λ (k : ℕ). get_or cs n c ∷ drop k cs) next ∙ ap (λ (x : ℕ). x ∷ drop (n + 1) cs) (sym h.1)

pub few_chars : (t : List ℕ) → IsUtf8 t → length (chars t) ≤ length t
few_chars t u = omega (arith, length-le-encodes (chars t), ap length (encodes-chars t u))

pub none_left : (cs : List ℕ) (n : ℕ) → n ≡ length cs → drop n cs ≡ []
none_left cs n e = drop_all n cs (omega (arith, e))

-- a character of a text by its bytes
pub char_bytes : (cs : List ℕ) (n c : ℕ) → drop n cs ≡ c ∷ drop (n + 1) cs
    → length (encodes (drop n cs)) ≡ len_utf8 c + length (encodes (drop (n + 1) cs))
char_bytes cs n c e =
    ap (λ (ds : List ℕ). length (encodes ds)) e ∙ length-append (encode c) (encodes (drop (n + 1) cs))
    ∙ ap (λ (k : ℕ). k + length (encodes (drop (n + 1) cs))) (length-encode c)

pub no_return : false ≡ true → 0 < 0
no_return e = cc
