-- What a value refers to is among what its type refers to.
use Rattle.std.proofs.Common.{◌≡◌, ℕ, zero, suc, Bool, true, false, eqb, ◌||◌, List, [], ◌∷◌, ◌++◌, Option, Some, None, refl, sym, ap, subst, ◌∙◌}
use Rattle.std.specs.Prelude.{option_map, option_and_then, slice_get, unwrap_or}
use Rattle.std.specs.List.{cons_option, filter_map, list_any}
use Rattle.std.specs.Option.{option_map_or}
use Rattle.std.proofs.lemmas.Bool.{eq-eqb}
use Rattle.std.proofs.lemmas.Option.{none-some}
use Rattle.std.proofs.lemmas.List.Folds.{list_any-append}
use Rattle.yspec.specs.types.Types.{Val}
use Rattle.yspec.specs.schema.Schema.{LeafType, MemberTarget}
use Rattle.yspec.specs.schema.References.{Reference, requires_instance, whole_reference, member_target, member_reference, reference_in}

abbrev among : ℕ → List ℕ → Bool
among number ns = list_any (λ n. eqb n number) ns

or_first : (a b : Bool) → a ≡ true → (a || b) ≡ true
or_first a b is = ap (λ x. x || b) is

or_second : (a b : Bool) → b ≡ true → (a || b) ≡ true
or_second true b is = refl
or_second false b is = is

module _ (gives : Option MemberTarget → Option ℕ) (m : MemberTarget) (given : gives (Some m) ≡ Some m.target) where
  later : (o : Option ℕ) (ns : List ℕ) → among m.target ns ≡ true → among m.target (cons_option o ns) ≡ true
  later None ns is = is
  later (Some n) ns is = or_second (eqb n m.target) (among m.target ns) is

  at_front : (o : Option MemberTarget) (ns : List ℕ) → unwrap_or (Some o) None ≡ Some m → among m.target (cons_option (gives o) ns) ≡ true
  at_front o ns is = ap (λ (p : Option MemberTarget). among m.target (cons_option (gives p) ns)) is
      ∙ (ap (λ q. among m.target (cons_option q ns)) given ∙ or_first (eqb m.target m.target) (among m.target ns) (eq-eqb m.target m.target refl))

  found_among : (targets : List (Option MemberTarget)) (n : ℕ) → unwrap_or (slice_get targets n) None ≡ Some m → among m.target (filter_map gives targets) ≡ true
  found_among [] n is = absurd (none-some m is)
  found_among (o ∷ os) zero is = at_front o (filter_map gives os) is
  found_among (o ∷ os) (suc n) is = later (gives o) (filter_map gives os) (found_among os n is)

abbrev target_or : ℕ → Option Reference → ℕ
target_or other o = option_map_or (λ (r : Reference). r.target) o other

abbrev required_or : Bool → Option Reference → Bool
required_or other o = option_map_or (λ (r : Reference). r.is_required) o other

-- Given what is said of a leafref's target and of each member that refers, of those at least that require as much as the value does.
pub reference_among : (type : LeafType) (v : Val) (r : Reference) (gives : Option MemberTarget → Option ℕ) (whole : List ℕ) → reference_in type v ≡ Some r
    → ((target : ℕ) → type.target ≡ Some target → requires_instance type.type ≡ r.is_required → among target whole ≡ true)
    → ((m : MemberTarget) → m.is_required ≡ r.is_required → gives (Some m) ≡ Some m.target)
    → among r.target (whole ++ filter_map gives type.targets) ≡ true
reference_among type v r gives whole is first others = by type.target refl is
  where
    in_first : (target : ℕ) → target ≡ r.target → among target whole ≡ true → among r.target (whole ++ filter_map gives type.targets) ≡ true
    in_first target same e = list_any-append (λ n. eqb n r.target) whole (filter_map gives type.targets)
        ∙ or_first (among r.target whole) (among r.target (filter_map gives type.targets)) (subst (λ n. among n whole ≡ true) same e)

    in_others : (target : ℕ) → target ≡ r.target → among target (filter_map gives type.targets) ≡ true → among r.target (whole ++ filter_map gives type.targets) ≡ true
    in_others target same e = list_any-append (λ n. eqb n r.target) whole (filter_map gives type.targets)
        ∙ or_second (among r.target whole) (among r.target (filter_map gives type.targets)) (subst (λ n. among n (filter_map gives type.targets) ≡ true) same e)

    by_number : (m : MemberTarget) → gives (Some m) ≡ Some m.target → (n : Option ℕ) → option_and_then (λ k. unwrap_or (slice_get type.targets k) None) n ≡ Some m
        → among m.target (filter_map gives type.targets) ≡ true
    by_number m given None e = absurd (none-some m e)
    by_number m given (Some n) e = found_among gives m given type.targets n e

    by_member : (o : Option MemberTarget) → member_target type.targets v ≡ o → option_map (member_reference v) o ≡ Some r
        → among r.target (whole ++ filter_map gives type.targets) ≡ true
    by_member None at e = absurd (none-some r e)
    by_member (Some m) at e = in_others m.target (ap (target_or 0) e) (by_number m (others m (ap (required_or false) e)) v.member at)

    by : (o : Option ℕ) → type.target ≡ o → option_map_or (λ t. Some (whole_reference type v t)) o (option_map (member_reference v) (member_target type.targets v)) ≡ Some r
        → among r.target (whole ++ filter_map gives type.targets) ≡ true
    by (Some t) at e = in_first t (ap (target_or 0) e) (first t at (ap (required_or false) e))
    by None at e = by_member (member_target type.targets v) refl e
