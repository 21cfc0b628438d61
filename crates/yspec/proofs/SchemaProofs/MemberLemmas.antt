-- What a leafref's member of a union takes, its target's type takes, by the same of its own members.
use Rattle.std.proofs.Common.{◌≡◌, ℕ, zero, suc, ◌+◌, ◌<◌, List, [], ◌∷◌, ◌++◌, map, length, Option, Some, None, refl, sym, ap, ap₂, ◌∙◌, arith, append_assoc}
use Rattle.std.specs.Prelude.{Bool, option_map, slice_get}
use Rattle.std.specs.Option.{option_map_or}
use Rattle.std.specs.List.{range_with_len}
use Rattle.std.proofs.lemmas.Option.{none-some}
use Rattle.yspec.specs.types.Types.{Raw, Content, Val, SimpleType, Shape, single, union, YangType, value, or_value, first_value, shape_value, simple_taken, taken}
use Rattle.yspec.specs.types.Restriction.{members_of, all_members, union_type}
use Rattle.yspec.specs.schema.Schema.{MemberTarget}
use Rattle.yspec.specs.schema.References.{member_reference}
use Rattle.yspec.specs.linking.Planned.{targets_by}

-- a place, and the content that is given there
abbrev Found : Type 0
Found = ℕ × Content

abbrev earlier : Option Found → Option Found → Option Found
earlier None later = later
earlier (Some f) later = Some f

abbrev behind : ℕ → Found → Found
behind n f = (n + f.0, f.1)

abbrev place_or : ℕ → Option Found → ℕ
place_or n o = option_map_or (λ f. f.0) o n

abbrev content_or : Content → Option Found → Content
content_or c o = option_map_or (λ f. f.1) o c

module _ (given : SimpleType → Option Content) where
  -- the first that gives a content
  abbrev found : List SimpleType → Option Found
  found [] = None
  found (x ∷ xs) = earlier (option_map (λ c. (0, c)) (given x)) (option_map (behind 1) (found xs))

  abbrev as_value : ℕ → Found → Val
  as_value k f = value (Some (k + f.0)) f.1

  first_found : (k : ℕ) (xs : List SimpleType) → first_value given k xs ≡ option_map (as_value k) (found xs)
  first_found k [] = refl
  first_found k (x ∷ xs) = by (given x) (found xs) (first_found (k + 1) xs)
    where
      by : (g : Option Content) (o : Option Found) → first_value given (k + 1) xs ≡ option_map (as_value (k + 1)) o
          → or_value (option_map (value (Some k)) g) (first_value given (k + 1) xs)
          ≡ option_map (as_value k) (earlier (option_map (λ c. (0, c)) g) (option_map (behind 1) o))
      by (Some c) o e = let same : k ≡ k + 0 = omega arith in ap (λ n. Some (value (Some n) c)) same
      by None None e = e
      by None (Some f) e = let same : k + 1 + f.0 ≡ k + (1 + f.0) = omega arith in e ∙ ap (λ n. Some (value (Some n) f.1)) same

  found_in_both : (xs ys : List SimpleType) → found (xs ++ ys) ≡ earlier (found xs) (option_map (behind (length xs)) (found ys))
  found_in_both [] ys = by (found ys)
    where
      by : (o : Option Found) → o ≡ option_map (behind 0) o
      by None = refl
      by (Some (n, c)) = let same : n ≡ 0 + n = omega arith in ap (λ m. Some (m, c)) same
  found_in_both (x ∷ xs) ys =
      ap (λ o. earlier (option_map (λ c. (0, c)) (given x)) (option_map (behind 1) o)) (found_in_both xs ys) ∙ by (given x) (found xs) (found ys)
    where
      by : (g : Option Content) (o p : Option Found)
          → earlier (option_map (λ c. (0, c)) g) (option_map (behind 1) (earlier o (option_map (behind (length xs)) p)))
          ≡ earlier (earlier (option_map (λ c. (0, c)) g) (option_map (behind 1) o)) (option_map (behind (suc (length xs))) p)
      by (Some c) o p = refl
      by None (Some f) p = refl
      by None None None = refl
      by None None (Some f) = let same : 1 + (length xs + f.0) ≡ suc (length xs) + f.0 = omega arith in ap (λ n. Some (n, f.1)) same

  found_within : (xs : List SimpleType) (f : Found) → found xs ≡ Some f → f.0 < length xs
  found_within [] f e = absurd (none-some f e)
  found_within (x ∷ xs) f e = by (given x) (found xs) refl (found_within xs) e
    where
      by : (g : Option Content) (o : Option Found) → found xs ≡ o → ((h : Found) → found xs ≡ Some h → h.0 < length xs)
          → earlier (option_map (λ c. (0, c)) g) (option_map (behind 1) o) ≡ Some f → f.0 < suc (length xs)
      by (Some c) o is rest e = let first : 0 ≡ f.0 = ap (place_or 0) e in omega (arith, first)
      by None None is rest e = absurd (none-some f e)
      by None (Some h) is rest e =
          let next : 1 + h.0 ≡ f.0 = ap (place_or 0) e in let less = rest h is in omega (arith, next, less)

  -- one that is found at a place of some between others is found there among these
  found_between : (xs ts ys : List SimpleType) (i : ℕ) (c : Content) → i < length ts
      → found (xs ++ (ts ++ ys)) ≡ Some (length xs + i, c) → found ts ≡ Some (i, c)
  found_between xs ts ys i c less e = by (found xs) (found ts) (found ys) refl refl
      (sym (found_in_both xs (ts ++ ys) ∙ ap (λ o. earlier (found xs) (option_map (behind (length xs)) o)) (found_in_both ts ys)) ∙ e)
    where
      by : (o p q : Option Found) → found xs ≡ o → found ts ≡ p
          → earlier o (option_map (behind (length xs)) (earlier p (option_map (behind (length ts)) q))) ≡ Some (length xs + i, c) → p ≡ Some (i, c)
      by (Some f) p q first second e =
          let place : f.0 ≡ length xs + i = ap (place_or 0) e in let before = found_within xs f first in absurd (omega (arith, place, before))
      by None (Some (k, d)) q first second e =
          let place : length xs + k ≡ length xs + i = ap (place_or 0) e in
          let same : k ≡ i = omega (arith, place) in ap₂ (λ n b. Some (n, b)) same (ap (content_or c) e)
      by None None (Some f) first second e =
          let place : length xs + (length ts + f.0) ≡ length xs + i = ap (place_or 0) e in absurd (omega (arith, place, less))
      by None None None first second e = absurd (none-some (length xs + i, c) e)

-- ---- unions

members_joined : (before after : List YangType) (type : YangType)
    → all_members (before ++ type ∷ after) ≡ all_members before ++ (members_of type.shape ++ all_members after)
members_joined [] after type = refl
members_joined (t ∷ before) after type = ap (λ rest. members_of t.shape ++ rest) (members_joined before after type)
    ∙ sym (append_assoc (members_of t.shape) (all_members before) (members_of type.shape ++ all_members after))

-- what stands at a place of those of a target's members
abbrev made_at : ℕ → Bool → ℕ → Option MemberTarget
made_at number required i = Some (record { target = number; member = Some i; is_required = required })

abbrev member_or : Option ℕ → Option (Option MemberTarget) → Option ℕ
member_or other o = option_map_or (λ p. option_map_or (λ (m : MemberTarget). m.member) p other) o other

place_made : (number : ℕ) (required : Bool) (k : ℕ) (xs : List SimpleType) (i : ℕ) (m : MemberTarget)
    → slice_get (map (made_at number required) (range_with_len k (length xs))) i ≡ Some (Some m) → (i < length xs) × (Some (k + i) ≡ m.member)
place_made number required k [] i m e = absurd (none-some (Some m) e)
place_made number required k (x ∷ xs) zero m e =
    let same : k + 0 ≡ k = omega arith in let less : zero < suc (length xs) = omega arith in (less, ap Some same ∙ ap (member_or None) e)
place_made number required k (x ∷ xs) (suc i) m e = let rest = place_made number required (k + 1) xs i m e in
    let same : k + suc i ≡ k + 1 + i = omega arith in let within = rest.0 in
    let less : suc i < suc (length xs) = omega (arith, within) in (less, ap Some same ∙ rest.1)

only_place : (number : ℕ) (required : Bool) (i : ℕ) (m : MemberTarget)
    → slice_get (Some (record { target = number; member = None; is_required = required }) ∷ []) i ≡ Some (Some m) → (i ≡ 0) × (None ≡ m.member)
only_place number required zero m e = (refl, ap (member_or None) e)
only_place number required (suc i) m e = absurd (none-some (Some m) e)

module _ (raw : Raw) where
  abbrev given_by : SimpleType → Option Content
  given_by s = simple_taken s raw

  pub value_at_target : (before after : List YangType) (type : YangType) (v : Val) (i number : ℕ) (required : Bool) (m : MemberTarget)
      → taken (union_type (before ++ type ∷ after)) raw ≡ Some v → v.member ≡ Some (length (all_members before) + i)
      → slice_get (targets_by number required type.shape) i ≡ Some (Some m) → taken type raw ≡ Some (member_reference v m).value
  value_at_target before after type v i number required m is at target = by type.shape at_place target
    where
      whole : option_map (as_value given_by 0) (found given_by (all_members before ++ (members_of type.shape ++ all_members after))) ≡ Some v
      whole = ap (λ ms. option_map (as_value given_by 0) (found given_by ms)) (sym (members_joined before after type))
          ∙ (sym (first_found given_by 0 (all_members (before ++ type ∷ after))) ∙ is)

      placed : (o : Option Found) → option_map (as_value given_by 0) o ≡ Some v → o ≡ Some (length (all_members before) + i, v.content)
      placed None e = absurd (none-some v e)
      placed (Some (k, c)) e =
          let member : Some (0 + k) ≡ Some (length (all_members before) + i) = ap (option_and_member None) e ∙ at in
          let place : 0 + k ≡ length (all_members before) + i = ap (option_number 0) member in
          let same : k ≡ length (all_members before) + i = omega (arith, place) in
          ap₂ (λ n d. Some (n, d)) same (ap (option_content c) e)
        where
          option_and_member : Option ℕ → Option Val → Option ℕ
          option_and_member other o = option_map_or (λ (w : Val). w.member) o other

          option_number : ℕ → Option ℕ → ℕ
          option_number other o = option_map_or (λ n. n) o other

          option_content : Content → Option Val → Content
          option_content other o = option_map_or (λ (w : Val). w.content) o other

      at_place : i < length (members_of type.shape) → found given_by (members_of type.shape) ≡ Some (i, v.content)
      at_place less = found_between given_by (all_members before) (members_of type.shape) (all_members after) i v.content less
          (placed (found given_by (all_members before ++ (members_of type.shape ++ all_members after))) whole)

      -- one that is no union has one place
      alone : (s : SimpleType) (g : Option Content) → earlier (option_map (λ c. (0, c)) g) None ≡ Some (i, v.content)
          → option_map (value None) g ≡ Some (value None v.content)
      alone s (Some c) e = ap (λ d. Some (value None d)) (ap (content_or c) e)
      alone s None e = absurd (none-some (i, v.content) e)

      by : (shape : Shape) → (i < length (members_of shape) → found given_by (members_of shape) ≡ Some (i, v.content))
          → slice_get (targets_by number required shape) i ≡ Some (Some m) → shape_value given_by shape ≡ Some (value m.member v.content)
      by (single s) here e =
          let place = only_place number required i m e in let less : i < 1 = omega (arith, place.0) in
          alone s (given_by s) (here less) ∙ ap (λ n. Some (value n v.content)) place.1
      by (union ms) here e =
          let place = place_made number required 0 ms i m e in
          first_found given_by 0 ms ∙ (ap (option_map (as_value given_by 0)) (here place.0) ∙ ap (λ n. Some (value n v.content)) place.1)
