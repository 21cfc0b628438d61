-- How texts are cut, byte by byte and part by part.
use Rattle.std.proofs.Common.{◌≡◌, ◌≢◌, ℕ, ◌+◌, ◌<◌, ◌≤◌, List, [], ◌∷◌, ◌++◌, Bool, true, false, cond, Option, Some, None, option_map, is_some, length, take, drop, get_or, refl, sym, ap, ◌∙◌, arith, ◌==◌, ◌&&◌, not}
use Rattle.std.specs.Prelude.{MatchOption}
use Rattle.std.specs.Borrow.{Bor}
use Rattle.std.proofs.lemmas.Bool.Decides.{nat_tests}
use Rattle.std.proofs.lemmas.List.{drop_more, drop_all, take_more, append_assoc, append-nil}
use Rattle.yspec.specs.text.Text.{Text, space}
use Rattle.yspec.specs.edit.EditText.{cut_at, parts_at, longer, first_longer, quote_behind, behind, after_spaces}

-- ---- a byte at the front

behind_at : (c : ℕ) (rest : Text) → behind c (c ∷ rest) ≡ Some rest
behind_at c rest = go (c == c) refl (grind (arith, nat_tests))
  where
    go : (t : Bool) → (c == c) ≡ t → t ≡ true → behind c (c ∷ rest) ≡ Some rest
    go t e f = rw (e, f)

pub behind_from : (c : ℕ) (bs : Text) (r : Option (Bor (List ℕ)))
    → MatchOption r ((rest : List ℕ) → bs ≢ c ∷ rest) (λ x. bs ≡ c ∷ x.now) → option_map (λ s. s.now) r ≡ behind c bs
behind_from c [] None h = refl
behind_from c [] (Some x) h = cc
behind_from c (b ∷ bs) None h = go (b == c) refl
  where
    go : (t : Bool) → (b == c) ≡ t → None ≡ behind c (b ∷ bs)
    go true e = absurd (h bs (ap (λ n. n ∷ bs) (grind (arith, nat_tests))))
    go false e = rw e
behind_from c (b ∷ bs) (Some x) h = sym (ap (behind c) h ∙ behind_at c x.now)

-- ---- spaces at the front

abbrev after_spaces_from : Text → Option Text → Text
after_spaces_from t None = t
after_spaces_from t (Some rest) = after_spaces rest

by_front : (t : Text) → after_spaces t ≡ after_spaces_from t (behind space t)
by_front [] = refl
by_front (x ∷ xs) = go (x == space)
  where
    go : (b : Bool) → cond b (after_spaces xs) (x ∷ xs) ≡ after_spaces_from (x ∷ xs) (cond b (Some xs) None)
    go true = refl
    go false = refl

pub one_space : (t rest : Text) → behind space t ≡ Some rest → after_spaces t ≡ after_spaces rest
one_space t rest e = by_front t ∙ ap (after_spaces_from t) e

pub no_space : (t : Text) → behind space t ≡ None → after_spaces t ≡ t
no_space t e = by_front t ∙ ap (after_spaces_from t) e

-- ---- where a text is cut

-- what is cut behind some bytes, of the whole text
abbrev pub cut_behind : Text → Option (Text × Text) → Option (Text × Text)
cut_behind front = option_map (λ p. (front ++ p.0, p.1))

pub cut_start : (o : Option (Text × Text)) → cut_behind [] o ≡ o
cut_start None = refl
cut_start (Some (before, rest)) = refl

cut_longer : (front : Text) (x : ℕ) (o : Option (Text × Text)) → cut_behind front (option_map (longer x) o) ≡ cut_behind (front ++ x ∷ []) o
cut_longer front x None = refl
cut_longer front x (Some (before, rest)) = ap (λ (t : Text). Some (t, rest)) (sym (append_assoc front (x ∷ []) before))

pub cut_more : (stop : ℕ) (quote : Option ℕ) (xs : Text) (i : ℕ) → i < length xs → (get_or xs i 0 == stop && not (is_some quote)) ≡ false
    → cut_behind (take i xs) (cut_at stop quote (drop i xs))
    ≡ cut_behind (take (i + 1) xs) (cut_at stop (quote_behind (get_or xs i 0) quote) (drop (i + 1) xs))
unfolding cut_at
cut_more stop quote xs i h e =
    ap (λ (t : Text). cut_behind (take i xs) (cut_at stop quote t)) (drop_more xs i 0 h)
    ∙ ap (λ (b : Bool). cut_behind (take i xs) (cond b (Some ([], drop (i + 1) xs)) (option_map (longer (get_or xs i 0)) (cut_at stop (quote_behind (get_or xs i 0) quote) (drop (i + 1) xs))))) e
    ∙ cut_longer (take i xs) (get_or xs i 0) (cut_at stop (quote_behind (get_or xs i 0) quote) (drop (i + 1) xs))
    ∙ ap (λ (t : Text). cut_behind t (cut_at stop (quote_behind (get_or xs i 0) quote) (drop (i + 1) xs))) (sym (take_more xs i 0 h))

pub cut_here : (stop : ℕ) (quote : Option ℕ) (xs : Text) (i : ℕ) → i < length xs → (get_or xs i 0 == stop && not (is_some quote)) ≡ true
    → cut_behind (take i xs) (cut_at stop quote (drop i xs)) ≡ Some (take i xs, drop (i + 1) xs)
unfolding cut_at
cut_here stop quote xs i h e =
    ap (λ (t : Text). cut_behind (take i xs) (cut_at stop quote t)) (drop_more xs i 0 h)
    ∙ ap (λ (b : Bool). cut_behind (take i xs) (cond b (Some ([], drop (i + 1) xs)) (option_map (longer (get_or xs i 0)) (cut_at stop (quote_behind (get_or xs i 0) quote) (drop (i + 1) xs))))) e
    ∙ ap (λ (t : Text). Some (t, drop (i + 1) xs)) (append-nil (take i xs))

pub cut_nowhere : (stop : ℕ) (quote : Option ℕ) (xs : Text) (i : ℕ) → length xs ≤ i → cut_behind (take i xs) (cut_at stop quote (drop i xs)) ≡ None
unfolding cut_at
cut_nowhere stop quote xs i h = ap (λ (t : Text). cut_behind (take i xs) (cut_at stop quote t)) (drop_all i xs h)

-- ---- the parts of a text

-- the parts of a text that is cut so
abbrev pub parts_of : ℕ → Text → Option (Text × Text) → List Text
parts_of stop t None = t ∷ []
parts_of stop t (Some cut) = cut.0 ∷ parts_at stop None cut.1

parts_longer : (stop x : ℕ) (xs : Text) (o : Option (Text × Text)) → first_longer x (parts_of stop xs o) ≡ parts_of stop (x ∷ xs) (option_map (longer x) o)
parts_longer stop x xs None = refl
parts_longer stop x xs (Some (before, rest)) = refl

parts_here : (stop x : ℕ) (quote : Option ℕ) (xs : Text) (b : Bool) → parts_at stop (quote_behind x quote) xs ≡ parts_of stop xs (cut_at stop (quote_behind x quote) xs)
    → cond b ([] ∷ parts_at stop None xs) (first_longer x (parts_at stop (quote_behind x quote) xs))
    ≡ parts_of stop (x ∷ xs) (cond b (Some ([], xs)) (option_map (longer x) (cut_at stop (quote_behind x quote) xs)))
parts_here stop x quote xs true e = refl
parts_here stop x quote xs false e = ap (first_longer x) e ∙ parts_longer stop x xs (cut_at stop (quote_behind x quote) xs)

pub parts_by_cut : (stop : ℕ) (quote : Option ℕ) (t : Text) → parts_at stop quote t ≡ parts_of stop t (cut_at stop quote t)
unfolding cut_at parts_at
parts_by_cut stop quote [] = refl
parts_by_cut stop quote (x ∷ xs) = parts_here stop x quote xs (x == stop && not (is_some quote)) (parts_by_cut stop (quote_behind x quote) xs)
