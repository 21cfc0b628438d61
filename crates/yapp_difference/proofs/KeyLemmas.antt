-- Keys are the same where they are equal.
use Rattle.std.proofs.Common.{◌≡◌, ℕ, Bool, true, false, List, [], ◌∷◌, Option, Some, None, refl, sym, ap, ap₂, subst, ◌∙◌}
use Rattle.std.specs.Prelude.{◌==◌, ◌&&◌}
use Rattle.std.proofs.lemmas.Bool.{and_parts, eq-eqb, eqb-true}
use Rattle.std.proofs.lemmas.Slice.Eq.{bytes_eq-Decides}
use Rattle.yspec.proofs.BasicLemmas.{same_text}
use Rattle.yspec.specs.document.Document.{Step}
use Rattle.yspec.specs.document.Fault.{Info, no_info, choice_name, unique_number}
use Rattle.yspec_session.specs.Carrying.{same_position, same_step, same_place, same_info}
use Rattle.yapp_difference.specs.Keys.{Key, same_key}

pub equal_numbers : (n : ℕ) → (n == n) ≡ true
equal_numbers n = eq-eqb n n refl

pub both_true : (a b : Bool) → a ≡ true → b ≡ true → (a && b) ≡ true
both_true true true e f = refl
both_true true false e f = absurd cc
both_true false b e f = absurd cc

-- ---- of themselves

same_positions : (p : Option ℕ) → same_position p p ≡ true
same_positions None = refl
same_positions (Some p) = equal_numbers p

same_steps : (s : Step) → same_step s s ≡ true
same_steps s = both_true (s.schema_number == s.schema_number) (same_position s.position s.position) (equal_numbers s.schema_number) (same_positions s.position)

same_places : (steps : List Step) → same_place steps steps ≡ true
same_places [] = refl
same_places (s ∷ steps) = both_true (same_step s s) (same_place steps steps) (same_steps s) (same_places steps)

same_infos : (i : Info) → same_info i i ≡ true
same_infos no_info = refl
same_infos (choice_name name) = same_text name
same_infos (unique_number n) = equal_numbers n

pub itself : (k : Key) → same_key k k ≡ true
itself k = both_true (k.code == k.code) (same_place k.steps k.steps && same_info k.info k.info) (equal_numbers k.code)
    (both_true (same_place k.steps k.steps) (same_info k.info k.info) (same_places k.steps) (same_infos k.info))

-- ---- and of no others

positions_are : (p q : Option ℕ) → same_position p q ≡ true → p ≡ q
positions_are None None e = refl
positions_are None (Some q) e = absurd cc
positions_are (Some p) None e = absurd cc
positions_are (Some p) (Some q) e = ap Some (eqb-true p q e)

pub steps_are : (a b : Step) → same_step a b ≡ true → a ≡ b
steps_are a b e =
    let parts = and_parts (a.schema_number == b.schema_number) (same_position a.position b.position) e in
    let numbers = eqb-true a.schema_number b.schema_number parts.0 in
    let positions = positions_are a.position b.position parts.1 in
    (λ i. record { schema_number = numbers i; position = positions i })

places_are : (xs ys : List Step) → same_place xs ys ≡ true → xs ≡ ys
places_are [] [] e = refl
places_are [] (y ∷ ys) e = absurd cc
places_are (x ∷ xs) [] e = absurd cc
places_are (x ∷ xs) (y ∷ ys) e =
    let parts = and_parts (same_step x y) (same_place xs ys) e in
    ap₂ (λ s steps. s ∷ steps) (steps_are x y parts.0) (places_are xs ys parts.1)

infos_are : (i j : Info) → same_info i j ≡ true → i ≡ j
infos_are no_info no_info e = refl
infos_are no_info (choice_name b) e = absurd cc
infos_are no_info (unique_number n) e = absurd cc
infos_are (choice_name a) no_info e = absurd cc
infos_are (choice_name a) (choice_name b) e = ap choice_name ((bytes_eq-Decides a b).0 e)
infos_are (choice_name a) (unique_number n) e = absurd cc
infos_are (unique_number m) no_info e = absurd cc
infos_are (unique_number m) (choice_name b) e = absurd cc
infos_are (unique_number m) (unique_number n) e = ap unique_number (eqb-true m n e)

pub keys_are : (a b : Key) → same_key a b ≡ true → a ≡ b
keys_are a b e =
    let parts = and_parts (a.code == b.code) (same_place a.steps b.steps && same_info a.info b.info) e in
    let more = and_parts (same_place a.steps b.steps) (same_info a.info b.info) parts.1 in
    let codes = eqb-true a.code b.code parts.0 in
    let places = places_are a.steps b.steps more.0 in
    let infos = infos_are a.info b.info more.1 in
    (λ i. record { code = codes i; steps = places i; info = infos i })

pub reversed : (a b : Key) → same_key a b ≡ same_key b a
reversed a b = by (same_key a b) (same_key b a) refl refl
  where
    by : (s t : Bool) → same_key a b ≡ s → same_key b a ≡ t → s ≡ t
    by true true e f = refl
    by false false e f = refl
    by true false e f =
        let is : a ≡ b = keys_are a b e in
        let same : same_key b a ≡ true = subst (λ k. same_key k a ≡ true) is (itself a) in
        let no : true ≡ false = sym same ∙ f in absurd cc
    by false true e f =
        let is : b ≡ a = keys_are b a f in
        let same : same_key a b ≡ true = subst (λ k. same_key k b ≡ true) is (itself b) in
        let no : true ≡ false = sym same ∙ e in absurd cc
