-- What nodes state with so much of what they are given.
use Rattle.std.proofs.Common.{◌≡◌, ℕ, zero, suc, ◌+◌, ◌≤◌, List, [], ◌∷◌, ◌++◌, length, take, get_or, refl, sym, ap, ◌∙◌, arith}
use Rattle.std.proofs.lemmas.List.{take_more}
use Rattle.yspec.specs.Forest.{Forest}
use Rattle.yspec.specs.linking.Source.{Source}
use Rattle.yschema_given.specs.GivenView.{stated_after, stated_with}
use Rattle.yschema_given.specs.declared.given.Given.{Given}

stated_last : (own : Forest Source) (given : List Given) (one : Given) → stated_after own (given ++ one ∷ []) ≡ stated_with one (stated_after own given)
stated_last own [] one = refl
stated_last own (g ∷ given) one = stated_last (stated_with g own) given one

all_taken : {A : Type 0} (xs : List A) (i : ℕ) → length xs ≤ i → take i xs ≡ xs
all_taken [] zero within = refl
all_taken [] (suc i) within = refl
all_taken (x ∷ xs) zero within = absurd (omega (arith, within))
all_taken (x ∷ xs) (suc i) within = ap (λ rest. x ∷ rest) (all_taken xs i (omega (arith, within)))

-- with one more of what is given, and with all
pub stated_more : (own : Forest Source) (given : List Given) (i : ℕ) (one : Given) → suc i ≤ length given → one ≡ get_or given i one
    → stated_after own (take (i + 1) given) ≡ stated_with one (stated_after own (take i given))
stated_more own given i one within is =
    ap (stated_after own) (take_more given i one within ∙ ap (λ x. take i given ++ x ∷ []) (sym is)) ∙ stated_last own (take i given) one

pub stated_all : (own : Forest Source) (given : List Given) (i : ℕ) → length given ≤ i → stated_after own (take i given) ≡ stated_after own given
stated_all own given i within = ap (stated_after own) (all_taken given i within)
