-- Lists of planned nodes of which none is like an earlier one, and what is left of them where some are left out.
use Rattle.std.proofs.Common.{◌≡◌, ◌≢◌, ◌⊎◌, inl, inr, ℕ, Bool, true, false, ◌&&◌, List, [], ◌∷◌, ◌++◌, Option, Some, None, refl, sym, ap, ◌∙◌, subst}
use Rattle.std.proofs.lemmas.Bool.{eq-eqb}
use Rattle.std.proofs.lemmas.List.Folds.{list_any-append}
use Rattle.std.specs.Prelude.{◌==◌}
use Rattle.std.specs.List.{list_any}
use Rattle.yspec.specs.text.Text.{is_text}
use Rattle.yspec.specs.schema.Breaks.{when}
use Rattle.yspec.specs.linking.Source.{argument_in}
use Rattle.yspec.specs.linking.Planned.{Planned, same_number}
use Rattle.yspec.specs.linking.NodeBreaks.{is_like, broken_at, doubled}
use Rattle.yspec.proofs.LinkingProofs.BreakLemmas.{none_first, none_second, unbroken}
use Rattle.yspec.proofs.BasicLemmas.{or_parts, same_text}

abbrev pub NoneLike : Planned → List Planned → Type 0
NoneLike p [] = Unit {0}
NoneLike p (q ∷ qs) = (is_like q p ≡ false) × NoneLike p qs

abbrev pub Apart : List Planned → Type 0
Apart [] = Unit {0}
Apart (p ∷ ps) = NoneLike p ps × Apart ps

-- what none of a list with one behind it passes
last_parts : (test : Planned → Bool) (before : List Planned) (q : Planned) → list_any test (before ++ q ∷ []) ≡ false
    → (list_any test before ≡ false) × (test q ≡ false)
last_parts test before q o =
    let parts = or_parts (list_any test before) (list_any test (q ∷ [])) (sym (list_any-append test before (q ∷ [])) ∙ o) in
    (parts.0, (or_parts (test q) false parts.1).0)

none_like : (p : Planned) (before ps : List Planned) → ((q : Planned) → list_any (is_like q) before ≡ false → is_like q p ≡ false) → doubled before ps ≡ [] → NoneLike p ps
none_like p before [] known e = tt
none_like p before (q ∷ qs) known e =
    let here = when (list_any (is_like q) before) (broken_at 13 q) in (
      known q (unbroken (list_any (is_like q) before) 13 q.part.source.home q.part.source.statement.line (none_first here (doubled (before ++ q ∷ []) qs) e)),
      none_like p (before ++ q ∷ []) qs (λ r o. known r (last_parts (is_like r) before q o).0) (none_second here (doubled (before ++ q ∷ []) qs) e),
    )

pub apart_of : (before ps : List Planned) → doubled before ps ≡ [] → Apart ps
apart_of before [] e = tt
apart_of before (p ∷ ps) e =
    let rest = none_second (when (list_any (is_like p) before) (broken_at 13 p)) (doubled (before ++ p ∷ []) ps) e in
    (none_like p (before ++ p ∷ []) ps (λ q o. (last_parts (is_like q) before p o).1) rest, apart_of (before ++ p ∷ []) ps rest)

-- ---- some left out

-- the first list is the second without some
abbrev pub Within : List Planned → List Planned → Type 0
Within xs [] = xs ≡ []
Within xs (y ∷ ys) = Within xs ys ⊎ ((zs : List Planned) × (xs ≡ y ∷ zs) × Within zs ys)

pub within_none : (ys : List Planned) → Within [] ys
within_none [] = refl
within_none (y ∷ ys) = inl (within_none ys)

within_same : (ys : List Planned) → Within ys ys
within_same [] = refl
within_same (y ∷ ys) = inr (ys, refl, within_same ys)

pub within_first : (xs ys : List Planned) → Within xs (xs ++ ys)
within_first [] ys = within_none ys
within_first (x ∷ xs) ys = inr (xs, refl, within_first xs ys)

pub within_second : (xs ys : List Planned) → Within ys (xs ++ ys)
within_second [] ys = within_same ys
within_second (x ∷ xs) ys = inl (within_second xs ys)

pub within_joined : (xs ys us vs : List Planned) → Within xs ys → Within us vs → Within (xs ++ us) (ys ++ vs)
within_joined xs [] us vs first second = subst (λ (l : List Planned). Within (l ++ us) vs) (sym first) second
within_joined xs (y ∷ ys) us vs (inl first) second = inl (within_joined xs ys us vs first second)
within_joined xs (y ∷ ys) us vs (inr (zs, is, first)) second = inr (zs ++ us, ap (λ l. l ++ us) is, within_joined zs ys us vs first second)

none_like_within : (p : Planned) (xs ys : List Planned) → Within xs ys → NoneLike p ys → NoneLike p xs
none_like_within p xs [] is none = subst (NoneLike p) (sym is) none
none_like_within p xs (y ∷ ys) (inl rest) none = none_like_within p xs ys rest none.1
none_like_within p xs (y ∷ ys) (inr (zs, is, rest)) none = subst (NoneLike p) (sym is) (none.0, none_like_within p zs ys rest none.1)

pub apart_within : (xs ys : List Planned) → Within xs ys → Apart ys → Apart xs
apart_within xs [] is apart = subst Apart (sym is) apart
apart_within xs (y ∷ ys) (inl rest) apart = apart_within xs ys rest apart.1
apart_within xs (y ∷ ys) (inr (zs, is, rest)) apart = subst Apart (sym is) (none_like_within y zs ys rest apart.0, apart_within zs ys rest apart.1)

-- ---- what it means that they aren't alike

same_number_of : (a b : Option ℕ) → a ≡ b → same_number a b ≡ true
same_number_of None None e = refl
same_number_of None (Some n) e = absurd cc
same_number_of (Some m) None e = absurd cc
same_number_of (Some m) (Some n) e = eq-eqb m n cc

all_three : (a b c : Bool) → a ≡ true → b ≡ true → c ≡ true → (a && (b && c)) ≢ false
all_three true true true first second third e = let no : ⊥ = cc in no
all_three false b c first second third e = absurd cc
all_three true false c first second third e = absurd cc
all_three true true false first second third e = absurd cc

pub names_apart : (p q : Planned) → p.scope ≡ q.scope → is_like q p ≡ false → p.part.owner ≡ q.part.owner
    → argument_in p.part.source ≢ argument_in q.part.source
names_apart p q scopes unlike owners names =
    all_three (same_number q.scope p.scope) (q.part.owner == p.part.owner) (is_text (argument_in q.part.source) (argument_in p.part.source))
    (same_number_of q.scope p.scope (sym scopes)) (eq-eqb q.part.owner p.part.owner (sym owners))
    (subst (λ t. is_text (argument_in q.part.source) t ≡ true) (sym names) (same_text (argument_in q.part.source))) unlike
