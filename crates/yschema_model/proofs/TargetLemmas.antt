-- What members of a union refer to that stand one behind the other.
use Rattle.std.proofs.Common.{◌≡◌, ℕ, zero, suc, ◌+◌, ◌-◌, ◌<◌, ◌≤◌, ◌≢◌, Bool, true, false, cond, eqb, ◌||◌, List, [], ◌∷◌, ◌++◌, map, length, drop, get_or, replicate, Option, Some, None, refl, sym, ap, ◌∙◌, arith}
use Rattle.std.specs.Prelude.{option_map, option_to_list, slice_get, unwrap_or}
use Rattle.std.specs.List.{cons_option, filter_map, list_any, range_with_len}
use Rattle.std.proofs.lemmas.Bool.{ne_eqb}
use Rattle.std.proofs.lemmas.List.{append-nil, at_drop_all, at_drop_more, length-map, length-replicate}
use Rattle.std.proofs.lemmas.List.Concat.{flat_map-append}
use Rattle.std.proofs.lemmas.List.FromFn.{length-range_with_len}
use Rattle.yspec.specs.types.Types.{SimpleType, union}
use Rattle.yspec.specs.linking.Planned.{targets_by}
use Rattle.yspec.specs.schema.Schema as spec
use Rattle.yspec.specs.schema.References.{has_leafrefs}
use Rattle.yschema_model.specs.declared.node.MemberTarget.{MemberTarget}
use Rattle.yschema_model.specs.declared.node.MemberTargets.{MemberTargets}
use Rattle.yschema_model.specs.declared.node.MemberTargets.TheVariants.{Own, One, All}
use Rattle.yschema_model.specs.declared.node.SchemaId.{SchemaId}
use Rattle.yschema_model.specs.Layout.{each_target, member_target_view, targets_view}

-- ---- how many, and what each refers to

abbrev pub count_of : MemberTargets → ℕ
count_of (Own count) = count
count_of (One target required) = 1
count_of (All target count required) = count

abbrev pub each_of : ℕ → Bool → ℕ → Option spec.MemberTarget
each_of target required i = Some (record { target = target; member = Some i; is_required = required })

pub count_is : (m : MemberTargets) → count_of m ≡ length (each_target m)
count_is (Own count) = sym (length-replicate count None)
count_is (One target required) = refl
count_is (All target count required) =
    sym (length-map (range_with_len 0 count) (each_of target.0 required) ∙ length-range_with_len 0 count)

abbrev pub at_of : MemberTargets → ℕ → Option MemberTarget
at_of (Own count) number = None
at_of (One target required) number = Some (record { target = target; member = None; is_required = required })
at_of (All target count required) number = Some (record { target = target; member = Some number; is_required = required })

abbrev no_target : Option spec.MemberTarget
no_target = None

none_at : (count number : ℕ) → no_target ≡ unwrap_or (slice_get (replicate count no_target) number) no_target
none_at zero number = refl
none_at (suc count) zero = refl
none_at (suc count) (suc number) = none_at count number

module _ (f : ℕ → Option spec.MemberTarget) where
  made_at : (k count number : ℕ) → number < length (map f (range_with_len k count)) → f (k + number) ≡ unwrap_or (slice_get (map f (range_with_len k count)) number) None
  made_at k zero number within = let none : number < 0 = within in absurd (omega (arith, none))
  made_at k (suc count) zero within = let same : k + 0 ≡ k = omega arith in ap f same
  made_at k (suc count) (suc number) within =
      let more : suc number < suc (length (map f (range_with_len (k + 1) count))) = within in
      let same : k + suc number ≡ k + 1 + number = omega arith in
      ap f same ∙ made_at (k + 1) count number (omega (arith, more))

pub at_is : (m : MemberTargets) (number : ℕ) → number < length (each_target m) → option_map member_target_view (at_of m number) ≡ unwrap_or (slice_get (each_target m) number) None
at_is (Own count) number within = none_at count number
at_is (One target required) zero within = refl
at_is (One target required) (suc number) within = let one : suc number < 1 = within in absurd (omega (arith, one))
at_is (All target count required) number within =
    let same : number ≡ 0 + number = omega arith in
    ap (each_of target.0 required) same ∙ made_at (each_of target.0 required) 0 count number within

-- ---- some behind others

pub within_front : {X : Type 0} (xs ys : List X) (n : ℕ) → n < length xs → slice_get (xs ++ ys) n ≡ slice_get xs n
within_front [] ys n within = let none : n < 0 = within in absurd (omega (arith, none))
within_front (x ∷ xs) ys zero within = refl
within_front (x ∷ xs) ys (suc n) within = let more : suc n < suc (length xs) = within in within_front xs ys n (omega (arith, more))

pub behind_front : {X : Type 0} (xs ys : List X) (n : ℕ) → length xs ≤ n → slice_get (xs ++ ys) n ≡ slice_get ys (n - length xs)
behind_front [] ys n past = let same : n ≡ n - 0 = omega arith in ap (slice_get ys) same
behind_front (x ∷ xs) ys zero past = let none : suc (length xs) ≤ 0 = past in absurd (omega (arith, none))
behind_front (x ∷ xs) ys (suc n) past =
    let more : suc (length xs) ≤ suc n = past in
    let same : n - length xs ≡ suc n - suc (length xs) = omega arith in
    behind_front xs ys n (omega (arith, more)) ∙ ap (slice_get ys) same

module _ (ts : List MemberTargets) (i : ℕ) (m other : MemberTargets) (inside : i < length ts) (is : m ≡ get_or ts i other) where
  parted : {Y : Type 0} (f : List (Option spec.MemberTarget) → Y) → f (targets_view (drop i ts)) ≡ f (each_target m ++ targets_view (drop (i + 1) ts))
  parted f = at_drop_more (λ xs. f (targets_view xs)) ts i other inside ∙ ap (λ x. f (each_target x ++ targets_view (drop (i + 1) ts))) (sym is)

  -- it is one of these, or stands behind them
  pub found_here : (left : ℕ) (found whole : Option spec.MemberTarget) → left < length (each_target m) → found ≡ unwrap_or (slice_get (each_target m) left) None
      → unwrap_or (slice_get (targets_view (drop i ts)) left) None ≡ whole → found ≡ whole
  found_here left found whole within at so_far =
      at ∙ (ap (λ (o : Option (Option spec.MemberTarget)). unwrap_or o None) (sym (parted (λ xs. slice_get xs left) ∙ within_front (each_target m) (targets_view (drop (i + 1) ts)) left within)) ∙ so_far)

  pub found_behind : (left count : ℕ) (whole : Option spec.MemberTarget) → count ≡ length (each_target m) → count ≤ left
      → unwrap_or (slice_get (targets_view (drop i ts)) left) None ≡ whole → unwrap_or (slice_get (targets_view (drop (i + 1) ts)) (left - count)) None ≡ whole
  found_behind left count whole long past so_far =
      ap (λ n. unwrap_or (slice_get (targets_view (drop (i + 1) ts)) (left - n)) None) long
      ∙ (ap (λ (o : Option (Option spec.MemberTarget)). unwrap_or o None)
      (sym (parted (λ xs. slice_get xs left) ∙ behind_front (each_target m) (targets_view (drop (i + 1) ts)) left (omega (arith, long, past))))
      ∙ so_far)

  -- whether there is any
  pub some_here : (whole : Bool) (count : ℕ) → count ≡ length (each_target m) → 0 < count → has_leafrefs (targets_view (drop i ts)) ≡ whole → true ≡ whole
  some_here whole count long some so_far = by (each_target m) (omega (arith, long, some)) ∙ (sym (parted has_leafrefs) ∙ so_far)
    where
      by : (xs : List (Option spec.MemberTarget)) → 0 < length xs → true ≡ has_leafrefs (xs ++ targets_view (drop (i + 1) ts))
      by [] some = let none : 0 < 0 = some in absurd (omega (arith, none))
      by (x ∷ xs) some = refl

  pub none_here : (whole : Bool) (count : ℕ) → count ≡ length (each_target m) → count ≤ 0 → has_leafrefs (targets_view (drop i ts)) ≡ whole → has_leafrefs (targets_view (drop (i + 1) ts)) ≡ whole
  none_here whole count long none so_far = by (each_target m) (omega (arith, long, none)) ∙ (sym (parted has_leafrefs) ∙ so_far)
    where
      by : (xs : List (Option spec.MemberTarget)) → length xs ≡ 0 → has_leafrefs (targets_view (drop (i + 1) ts)) ≡ has_leafrefs (xs ++ targets_view (drop (i + 1) ts))
      by [] none = refl
      by (x ∷ xs) none = let some : suc (length xs) ≡ 0 = none in absurd (omega (arith, some))

-- behind all
pub found_past : (ts : List MemberTargets) (i left : ℕ) (whole : Option spec.MemberTarget) → length ts ≤ i
    → unwrap_or (slice_get (targets_view (drop i ts)) left) None ≡ whole → None ≡ whole
found_past ts i left whole past so_far =
    sym (at_drop_all (λ xs. unwrap_or (slice_get (targets_view xs) left) None) ts i past) ∙ so_far

pub some_past : (ts : List MemberTargets) (i : ℕ) (whole : Bool) → length ts ≤ i → has_leafrefs (targets_view (drop i ts)) ≡ whole → false ≡ whole
some_past ts i whole past so_far = sym (at_drop_all (λ xs. has_leafrefs (targets_view xs)) ts i past) ∙ so_far

-- ---- numbers that are gathered of them

module _ (gives : Option spec.MemberTarget → Option ℕ) (none : gives None ≡ None) where
  pub own_gathered : (count : ℕ) → filter_map gives (each_target (Own count) ++ []) ≡ []
  own_gathered zero = refl
  own_gathered (suc count) = ap (λ o. cons_option o (filter_map gives (each_target (Own count) ++ []))) none ∙ own_gathered count

  module _ (target : ℕ) (required : Bool) (given : Option ℕ) (each : (i : ℕ) → gives (each_of target required i) ≡ given) where
    all_from : (k count : ℕ) (number : ℕ) → list_any (λ n. eqb n number) (filter_map gives (map (each_of target required) (range_with_len k (suc count)) ++ []))
        ≡ list_any (λ n. eqb n number) (option_to_list given)
    all_from k zero number = ap (λ o. list_any (λ n. eqb n number) (cons_option o [])) (each k) ∙ alone given
      where
        alone : (o : Option ℕ) → list_any (λ n. eqb n number) (cons_option o []) ≡ list_any (λ n. eqb n number) (option_to_list o)
        alone None = refl
        alone (Some n) = refl
    all_from k (suc count) number =
        ap (λ o. list_any (λ n. eqb n number) (cons_option o (filter_map gives (map (each_of target required) (range_with_len (k + 1) (suc count)) ++ [])))) (each k)
        ∙ again given (all_from (k + 1) count number)
      where
        twice : (b : Bool) → (b || (b || false)) ≡ (b || false)
        twice true = refl
        twice false = refl

        again : (o : Option ℕ) → list_any (λ n. eqb n number) (filter_map gives (map (each_of target required) (range_with_len (k + 1) (suc count)) ++ [])) ≡ list_any (λ n. eqb n number) (option_to_list o)
            → list_any (λ n. eqb n number) (cons_option o (filter_map gives (map (each_of target required) (range_with_len (k + 1) (suc count)) ++ []))) ≡ list_any (λ n. eqb n number) (option_to_list o)
        again None rest = rest
        again (Some n) rest = ap (λ b. eqb n number || b) rest ∙ twice (eqb n number)

-- the same by how many they are
pub all_gathered : (gives : Option spec.MemberTarget → Option ℕ) (none : gives None ≡ None) (target : SchemaId) (count : ℕ) (required : Bool) (given : Option ℕ)
    → ((i : ℕ) → gives (each_of target.0 required i) ≡ given) → (number : ℕ)
    → list_any (λ n. eqb n number) (filter_map gives (each_target (All target count required) ++ [])) ≡ list_any (λ n. eqb n number) (cond (eqb count 0) [] (option_to_list given))
all_gathered gives none target zero required given each number = refl
all_gathered gives none target (suc count) required given each number =
    all_from gives none target.0 required given each 0 count number
    ∙ ap (λ b. list_any (λ n. eqb n number) (cond b [] (option_to_list given))) (sym (ne_eqb (suc count) 0 other))
  where
    other : suc count ≢ 0
    other = omega arith

-- ---- for who makes them

-- one more, behind the others
pub targets_pushed : (ts : List MemberTargets) (m : MemberTargets) → targets_view (ts ++ m ∷ []) ≡ targets_view ts ++ each_target m
targets_pushed ts m = flat_map-append each_target ts (m ∷ []) ∙ ap (λ xs. targets_view ts ++ xs) (append-nil (each_target m))

-- those of a type that is no leafref's
pub own_is : {X : Type 0} (xs : List X) → each_target (Own (length xs)) ≡ map (λ x. None) xs
own_is [] = refl
own_is (x ∷ xs) = ap (λ ms. None ∷ ms) (own_is xs)

-- those of a leafref whose target's type is a union of so many members
pub all_is : (target : SchemaId) (count : ℕ) (required : Bool) (members : List SimpleType) → count ≡ length members
    → each_target (All target count required) ≡ targets_by target.0 required (union members)
all_is target count required members long = ap (λ n. map (each_of target.0 required) (range_with_len 0 n)) long
