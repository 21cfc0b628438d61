-- Lists that are gone through item by item.
use Rattle.std.proofs.Common.{◌≡◌, ℕ, ◌+◌, ◌<◌, ◌++◌, List, [], ◌∷◌, length, map, drop, sym, ap, ◌∙◌}
use Rattle.std.specs.Prelude.{get_or}
use Rattle.std.proofs.lemmas.List.{append_assoc, at_drop_more, map-append}

-- the first of those that are left
pub next_left : {A B : Type 0} (f : List A → B) (xs : List A) (i : ℕ) (x : A) → i < length xs → x ≡ get_or xs i x → f (drop i xs) ≡ f (x ∷ drop (i + 1) xs)
next_left f xs i x within is = at_drop_more f xs i x within ∙ ap (λ y. f (y ∷ drop (i + 1) xs)) (sym is)

-- what is seen of an item goes from the rest to the copies
pub one_copied : {A C V : Type 0} (see : C → V) (of : A → V) (made more : List C) (y : C) (xs : List A) (i : ℕ) (d : A) → i < length xs → more ≡ made ++ y ∷ []
    → see y ≡ of (get_or xs i d) → map see made ++ map of (drop i xs) ≡ map of xs → map see more ++ map of (drop (i + 1) xs) ≡ map of xs
one_copied see of made more y xs i d within pushed says so_far =
    let rest = map of (drop (i + 1) xs) in
    ap (λ vs. vs ++ rest) (ap (map see) pushed ∙ map-append see made (y ∷ []))
    ∙ (append_assoc (map see made) (see y ∷ []) rest
    ∙ (ap (λ v. map see made ++ v ∷ rest) says
    ∙ (sym (at_drop_more (λ zs. map see made ++ map of zs) xs i d within) ∙ so_far)))
