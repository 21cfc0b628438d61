-- Loops that collect what is said of each node.
use Rattle.std.proofs.Common.{◌≡◌, List, [], ◌∷◌, ◌++◌, map, sym, ap, ◌∙◌}
use Rattle.std.proofs.lemmas.List.{append_assoc, map-append}

pub collected : {A B : Type 0} (f : A → B) (so_far more : List B) (x : A) (y : B) (before rest all : List A) → before ≡ x ∷ rest
    → more ≡ so_far ++ y ∷ [] → y ≡ f x → so_far ++ map f before ≡ map f all → more ++ map f rest ≡ map f all
collected f so_far more x y before rest all first pushed is done =
    ap (λ ys. ys ++ map f rest) pushed
    ∙ (append_assoc so_far (y ∷ []) (map f rest)
    ∙ (ap (λ z. so_far ++ z ∷ map f rest) is ∙ (sym (ap (λ xs. so_far ++ map f xs) first) ∙ done)))

-- those that are held in another form
pub collected_as : {A B C : Type 0} (f : A → B) (see : C → B) (so_far more : List C) (x : A) (y : C) (before rest all : List A) → before ≡ x ∷ rest
    → more ≡ so_far ++ y ∷ [] → see y ≡ f x → map see so_far ++ map f before ≡ map f all → map see more ++ map f rest ≡ map f all
collected_as f see so_far more x y before rest all first pushed is done =
    collected f (map see so_far) (map see more) x (see y) before rest all first (ap (map see) pushed ∙ map-append see so_far (y ∷ [])) is done
