-- The newest of some dates is one of them, and none of them is later.
use Rattle.std.proofs.Common.{◌≡◌, Bool, true, false, cond, List, [], ◌∷◌, Some, None, ◌⊎◌, inl, inr, refl, ap, subst, ◌∙◌}
use Rattle.std.specs.Prelude.{◌↔◌}
use Rattle.std.specs.List.{All, Contains}
use Rattle.std.specs.Cmp.Lexicographic.{slice_cmp}
use Rattle.std.specs.Ordering.{is_gt, is_lt, nat_cmp, ordering_reverse}
use Rattle.std.specs.declared.cmp.Ordering.{Ordering}
use Rattle.std.specs.declared.cmp.Ordering.TheVariants.{Less, Equal, Greater}
use Rattle.std.proofs.lemmas.Option.{same_Some}
use Rattle.std.proofs.lemmas.Cmp.{nat_list_cmp_total, tied_itself, upto}
use Rattle.std.proofs.lemmas.List.Elements.{All-cons, All-nil, Contains-append_left, Contains-append_right, Contains-push}
use Rattle.yspec.specs.text.Text.{Text}
use Rattle.yspec.specs.linking.Imports.{later, newest_from}

-- that one date isn't later than another
abbrev IsUpTo : Text → Text → Type 0
IsUpTo other date = is_gt (slice_cmp nat_cmp other date) ≡ false

up_to_itself : (date : Text) → IsUpTo date date
up_to_itself date = ap is_gt (tied_itself nat_list_cmp_total date)

first_up_to : (x d : Text) → IsUpTo x (later (Some x) d)
first_up_to x d = by (slice_cmp nat_cmp x d) refl
  where
    by : (r : Ordering) → slice_cmp nat_cmp x d ≡ r → IsUpTo x (cond (is_lt r) d x)
    by Less e = ap is_gt e
    by Equal e = up_to_itself x
    by Greater e = up_to_itself x

second_up_to : (x d : Text) → IsUpTo d (later (Some x) d)
second_up_to x d = by (slice_cmp nat_cmp x d) refl
  where
    by : (r : Ordering) → slice_cmp nat_cmp x d ≡ r → IsUpTo d (cond (is_lt r) d x)
    by Less e = up_to_itself d
    by Equal e = ap is_gt (nat_list_cmp_total.antisymm d x ∙ ap ordering_reverse e)
    by Greater e = ap is_gt (nat_list_cmp_total.antisymm d x ∙ ap ordering_reverse e)

one_of_two : (x d date : Text) → later (Some x) d ≡ date → (x ≡ date) ⊎ (d ≡ date)
one_of_two x d date = by (is_lt (slice_cmp nat_cmp x d))
  where
    by : (b : Bool) → cond b d x ≡ date → (x ≡ date) ⊎ (d ≡ date)
    by true e = inr e
    by false e = inl e

latest_from : (ds : List Text) (x date : Text) → newest_from (Some x) ds ≡ Some date
    → IsUpTo x date × All (λ other. IsUpTo other date) ds
latest_from [] x date e = (subst (λ d. IsUpTo x d) (same_Some x date e) (up_to_itself x), All-nil (λ other. IsUpTo other date))
latest_from (d ∷ ds) x date e =
    let rest = latest_from ds (later (Some x) d) date e in
    let newer = later (Some x) d in (
      upto nat_list_cmp_total x newer date (first_up_to x d) rest.0,
      All-cons (λ other. IsUpTo other date) d ds (upto nat_list_cmp_total d newer date (second_up_to x d) rest.0) rest.1,
    )

first_of : (d date : Text) (ds : List Text) → d ≡ date → Contains (d ∷ ds) date
first_of d date ds e = subst (λ t. Contains (d ∷ ds) t) e (Contains-append_left (d ∷ []) ds d (Contains-push [] d))

one_from : (ds : List Text) (x date : Text) → newest_from (Some x) ds ≡ Some date → (x ≡ date) ⊎ Contains ds date
one_from [] x date e = inl (same_Some x date e)
one_from (d ∷ ds) x date e = by (one_from ds (later (Some x) d) date e)
  where
    of_two : (x ≡ date) ⊎ (d ≡ date) → (x ≡ date) ⊎ Contains (d ∷ ds) date
    of_two (inl is) = inl is
    of_two (inr is) = inr (first_of d date ds is)

    by : (later (Some x) d ≡ date) ⊎ Contains ds date → (x ≡ date) ⊎ Contains (d ∷ ds) date
    by (inl is) = of_two (one_of_two x d date is)
    by (inr among) = inr (Contains-append_right (d ∷ []) ds date among)

none_from : (ds : List Text) (x : Text) → newest_from (Some x) ds ≡ None → ⊥
none_from [] x e = let no : ⊥ = cc in no
none_from (d ∷ ds) x e = none_from ds (later (Some x) d) e

pub newest_is_one : (dates : List Text) (date : Text) → newest_from None dates ≡ Some date → Contains dates date
newest_is_one [] date e = absurd cc
newest_is_one (d ∷ ds) date e = by (one_from ds d date e)
  where
    by : (d ≡ date) ⊎ Contains ds date → Contains (d ∷ ds) date
    by (inl is) = first_of d date ds is
    by (inr among) = Contains-append_right (d ∷ []) ds date among

pub newest_is_latest : (dates : List Text) (date : Text) → newest_from None dates ≡ Some date
    → All (λ other. IsUpTo other date) dates
newest_is_latest [] date e = All-nil (λ other. IsUpTo other date)
newest_is_latest (d ∷ ds) date e =
    let rest = latest_from ds d date e in All-cons (λ other. IsUpTo other date) d ds rest.0 rest.1

pub none_of_none : (dates : List Text) → (newest_from None dates ≡ None) ↔ (dates ≡ [])
none_of_none [] = (λ e. refl, λ e. refl)
none_of_none (d ∷ ds) = (λ e. absurd (none_from ds d e), λ e. absurd cc)
