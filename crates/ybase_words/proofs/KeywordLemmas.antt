-- A text is found among the keywords of its own length alone.
use Rattle.std.proofs.Common.{◌≡◌, ◌≢◌, ◌<◌, ◌≤◌, ℕ, Bool, true, false, cond, List, [], ◌∷◌, length, Option, Some, None, refl, sym, ap, subst, ◌∙◌, arith}
use Rattle.std.specs.Prelude.{find, nat_lt, unwrap_or, ◌==◌}
use Rattle.std.specs.Option.{option_map_or}
use Rattle.std.proofs.lemmas.Bool.Decides.{nat_tests}
use Rattle.std.proofs.lemmas.Slice.Eq.{bytes_eq-Decides}
use Rattle.yspec.specs.text.Text.{Text, is_text}
use Rattle.yspec.specs.linking.Keyword.{Keyword, keyword_text, keyword_named, keywords, same_keyword}
use Rattle.yspec.proofs.LinkingProofs.KeywordLemmas.{same_is}
use Rattle.ybase_words.proofs.LengthLemmas.{found_of_length}
use Rattle.ybase_words.specs.Lengths.{named_among, is_four, is_six, is_nine, is_short, is_middle, is_long}

pub found_among : (test : ℕ → Bool) (t : Text) → test (length t) ≡ true → named_among test t ≡ keyword_named t
found_among test t h = found_of_length keyword_text keywords test t h

-- ---- texts

find_holds : {A : Type 0} (test : A → Bool) (xs : List A) (x : A) → find test xs ≡ Some x → test x ≡ true
find_holds test [] x e = absurd cc
find_holds test (y ∷ ys) x e = by (test y) refl e (find_holds test ys x)
  where
    by : (b : Bool) → test y ≡ b → cond b (Some y) (find test ys) ≡ Some x → (find test ys ≡ Some x → test x ≡ true) → test x ≡ true
    by true is e rest = subst (λ z. test z ≡ true) (ap (λ o. unwrap_or o y) e) is
    by false is e rest = rest e

pub text_of_named : (k : Keyword) (t : Text) → option_map_or (same_keyword k) (keyword_named t) false ≡ true → t ≡ keyword_text k
text_of_named k t e = by (keyword_named t) refl e
  where
    by : (o : Option Keyword) → keyword_named t ≡ o → option_map_or (same_keyword k) o false ≡ true → t ≡ keyword_text k
    by None is e = absurd cc
    by (Some j) is e =
        (bytes_eq-Decides t (keyword_text j)).0 (find_holds (λ k. is_text t (keyword_text k)) keywords j is) ∙ ap keyword_text (sym (same_is k j e))

-- ---- lengths

pub at_four : (n : ℕ) → n ≡ 4 → is_four n ≡ true
at_four n e = ap is_four e

pub at_six : (n : ℕ) → n ≡ 6 → is_six n ≡ true
at_six n e = ap is_six e

pub at_nine : (n : ℕ) → n ≡ 9 → is_nine n ≡ true
at_nine n e = ap is_nine e

pub at_short : (n : ℕ) → n ≢ 4 → n < 6 → is_short n ≡ true
at_short n other h =
    let low : nat_lt n 6 ≡ true = grind (arith, nat_tests) in let differs : (n == 4) ≡ false = grind (arith, nat_tests) in rw (low, differs) refl

pub at_middle : (n : ℕ) → n ≢ 6 → 6 ≤ n → n < 9 → is_middle n ≡ true
at_middle n other from to =
    let low : nat_lt 6 n ≡ true = grind (arith, nat_tests) in let high : nat_lt n 9 ≡ true = grind (arith, nat_tests) in rw (low, high) refl

pub at_long : (n : ℕ) → n ≢ 9 → 9 ≤ n → is_long n ≡ true
at_long n other from = grind (arith, nat_tests)
