-- Texts that begin with the name of a module.
use Rattle.std.proofs.Common.{◌≡◌, ◌≢◌, ℕ, Bool, true, false, ◌&&◌, [], ◌∷◌, ◌++◌, refl, sym, ap, ◌∙◌, append_assoc, rules}
use Rattle.std.specs.Prelude.{◌==◌, codes}
use Rattle.std.specs.Bool.{Decides}
use Rattle.std.proofs.lemmas.Slice.Eq.{bytes_eq-Decides}
use Rattle.yspec.specs.text.Text.{Text, is_text}
use Rattle.yspec.proofs.BasicLemmas.{same_text, other_text, texts_differ}

pub same_test : (a b : Text) (r : Bool) → Decides r (a ≡ b) → r ≡ is_text a b
same_test a b r decides = search (rules, bytes_eq-Decides)

pub not_before : (t m x : Text) → ((rest : Text) → t ≢ m ++ rest) → false ≡ is_text t (m ++ x)
not_before t m x none = sym (other_text t (m ++ x) (none x))

rest_same : (m xs ys : Text) → m ++ xs ≡ m ++ ys → xs ≡ ys
rest_same [] xs ys e = e
rest_same (a ∷ m) xs ys e = rest_same m xs ys cc

only_behind : (t m behind x : Text) → t ≡ m ++ behind → is_text t (m ++ x) ≡ is_text behind x
only_behind t m behind x is = by (is_text behind x) refl
  where
    by : (b : Bool) → is_text behind x ≡ b → is_text t (m ++ x) ≡ b
    by true e = ap (λ s. is_text s (m ++ x)) is ∙ (ap (λ y. is_text (m ++ y) (m ++ x)) ((bytes_eq-Decides behind x).0 e) ∙ same_text (m ++ x))
    by false e = other_text t (m ++ x) (λ same. texts_differ behind x e (rest_same m behind x (sym is ∙ same)))

pub mark_and_rest : (t m behind rest n : Text) (first : ℕ) → t ≡ m ++ behind → behind ≡ first ∷ rest → is_text t (m ++ codes ":" ++ n) ≡ (first == 58 && is_text rest n)
mark_and_rest t m behind rest n first starts split =
    ap (is_text t) (append_assoc m (codes ":") n) ∙ (only_behind t m behind (58 ∷ n) starts ∙ ap (λ b. is_text b (58 ∷ n)) split)
