-- Lists that are made item by item, and parts of lists.
use Rattle.std.proofs.Common.{◌≡◌, ℕ, zero, suc, ◌+◌, ◌<◌, ◌++◌, List, [], ◌∷◌, length, map, take, drop, refl, sym, ap, ◌∙◌, arith}
use Rattle.std.specs.Prelude.{get_or}
use Rattle.std.specs.List.{flat_map, insert}
use Rattle.std.proofs.lemmas.List.{append_assoc, at_drop_more, drop-map, map-append, take-map}

-- what is made of an item goes from the rest to what is made
pub one_made : {A B : Type 0} (f : A → List B) (made more : List B) (xs : List A) (i : ℕ) (x : A) → i < length xs → x ≡ get_or xs i x
    → more ≡ made ++ f x → made ++ flat_map f (drop i xs) ≡ flat_map f xs → more ++ flat_map f (drop (i + 1) xs) ≡ flat_map f xs
one_made f made more xs i x within is pushed so_far =
    let rest = flat_map f (drop (i + 1) xs) in
    ap (λ ys. ys ++ rest) pushed
    ∙ (append_assoc made (f x) rest
    ∙ (sym (ap (λ ys. made ++ ys) (at_drop_more (flat_map f) xs i x within ∙ ap (λ z. f z ++ rest) (sym is))) ∙ so_far))

-- the same where one is made of each
pub one_copied : {A C V : Type 0} (see : C → V) (of : A → V) (made more : List C) (y : C) (xs : List A) (i : ℕ) (x : A) → i < length xs → x ≡ get_or xs i x
    → more ≡ made ++ y ∷ [] → see y ≡ of x → map see made ++ map of (drop i xs) ≡ map of xs → map see more ++ map of (drop (i + 1) xs) ≡ map of xs
one_copied see of made more y xs i x within is pushed says so_far =
    let rest = map of (drop (i + 1) xs) in
    ap (λ vs. vs ++ rest) (ap (map see) pushed ∙ map-append see made (y ∷ []))
    ∙ (append_assoc (map see made) (see y ∷ []) rest
    ∙ (ap (λ v. map see made ++ v ∷ rest) says
    ∙ (sym (ap (λ vs. map see made ++ vs) (at_drop_more (map of) xs i x within ∙ ap (λ z. of z ∷ rest) (sym is))) ∙ so_far)))

-- in place of those from a number on
pub put_there : {A : Type 0} (xs : List A) (n : ℕ) (x : A) → n < length xs → take (n + 1) (insert xs n x) ≡ take n xs ++ x ∷ []
put_there [] n x lt = absurd (omega (arith, lt))
put_there (y ∷ xs) zero x lt = refl
put_there (y ∷ xs) (suc n) x lt =
    let more : suc n + 1 ≡ suc (n + 1) = omega (arith) in
    ap (λ m. take m (insert (y ∷ xs) (suc n) x)) more ∙ ap (λ ys. y ∷ ys) (put_there xs n x (omega (arith, lt)))

-- a part of a list, as views of its items
pub behind_viewed : {A B : Type 0} (f : A → B) (n : ℕ) (xs rest : List A) → rest ≡ drop n xs → map f rest ≡ drop n (map f xs)
behind_viewed f n xs rest is = ap (map f) is ∙ sym (drop-map f n xs)

pub page_viewed : {A B : Type 0} (f : A → B) (n m : ℕ) (xs rest page : List A) → rest ≡ drop n xs → page ≡ take m rest
    → map f page ≡ take m (drop n (map f xs))
page_viewed f n m xs rest page is cut = ap (map f) cut ∙ (sym (take-map f m rest) ∙ ap (take m) (behind_viewed f n xs rest is))
