-- The fellows of all instances of a schema node in a row, each as it is found alone.
use Rattle.std.proofs.Common.{◌≡◌, ℕ, zero, suc, ◌+◌, ◌-◌, ◌<◌, Bool, true, false, cond, not, ◌&&◌, List, [], ◌∷◌, ◌++◌, length, map, get_or, Option, Some, None, Vec, Ordering, Less, Equal, Greater, refl, sym, ap, ap₂, ◌∙◌, arith}
use Rattle.std.specs.Prelude.{◌==◌, nat_eq, option_map, option_and_then, slice_get}
use Rattle.std.specs.Cmp.Lexicographic.{slice_cmp, pointwise}
use Rattle.std.specs.Global.{Global}
use Rattle.std.specs.Option.{option_eq, option_map_or}
use Rattle.std.specs.Ordering.{is_eq, eq_by_cmp, ordering_then}
use Rattle.std.proofs.lemmas.Bool.{and_parts, eqb-true}
use Rattle.std.proofs.lemmas.List.{get_or-map, length-map}
use Rattle.yspec.specs.Forest.{end, node}
use Rattle.yspec.specs.types.Types.{Val}
use Rattle.yspec.specs.types.Order.{value_cmp, same_value}
use Rattle.yspec.specs.schema.Schema.{Schema}
use Rattle.yspec.specs.document.Document.{Stored, Tree, Step, instances, step_at}
use Rattle.yspec.specs.document.Fault.{Info}
use Rattle.yspec.specs.document.FaultCode.{FaultCode}
use Rattle.yspec.specs.document.Instances.{Tuple, tuple, value_of, same_tuple}
use Rattle.yinst_tree.specs.View.{place_view, step_view}
use Rattle.yinst_tree.specs.declared.tree.Step as code
use Rattle.yinst_tree.specs.contracts.tree.StepPartialEq.TheImpl.{ghosts}
use Rattle.ycheck.specs.View.{views}
use Rattle.ycheck.specs.View as fault_views
use Rattle.ycheck.specs.declared.fault.Fault as ycheck
use Rattle.ysay_fault.specs.Fellows.{first_other, fellow_by}
use Rattle.ysay_fault.specs.FoundFellows.{each_in, fellow_asked, fellow_at, fellow_by_that, fellow_of, fellows_in}
use Rattle.ysay_fault.specs.Others.{first_same, others_from}
use Rattle.ysay_place.specs.Places.{last_step, nth_instance, row_at, steps_above}
use Rattle.ysay_place.proofs.PlaceLemmas.{last_seen, above_seen}

-- ---- each instance

module _ {A : Type 0} (said : Stored → Tree → A) (number : ℕ) where
  each_at : (t : Tree) (i : ℕ) → slice_get (each_in number said t) i ≡ option_map (λ (found : Stored × Tree). said found.0 found.1) (nth_instance number i t)
  each_at end i = refl
  each_at (node s below after) zero = by (s.schema_number == number) (each_at after zero)
    where
      by : (b : Bool) → slice_get (each_in number said after) zero ≡ option_map (λ (found : Stored × Tree). said found.0 found.1) (nth_instance number zero after)
          → slice_get (cond b (said s below ∷ each_in number said after) (each_in number said after)) zero
          ≡ option_map (λ (found : Stored × Tree). said found.0 found.1) (cond b (Some (s, below)) (nth_instance number zero after))
      by true later = refl
      by false later = later
  each_at (node s below after) (suc i) = by (s.schema_number == number) (each_at after i) (each_at after (suc i))
    where
      by : (b : Bool) → slice_get (each_in number said after) i ≡ option_map (λ (found : Stored × Tree). said found.0 found.1) (nth_instance number i after)
          → slice_get (each_in number said after) (suc i) ≡ option_map (λ (found : Stored × Tree). said found.0 found.1) (nth_instance number (suc i) after)
          → slice_get (cond b (said s below ∷ each_in number said after) (each_in number said after)) (suc i)
          ≡ option_map (λ (found : Stored × Tree). said found.0 found.1) (cond b (nth_instance number i after) (nth_instance number (suc i) after))
      by true next later = next
      by false next later = later

-- ---- the first other one

others_at : {A : Type 0} (same : A → A → Bool) (all : List (Option A)) (n : ℕ) (xs : List (Option A)) (i : ℕ)
    → slice_get (others_from same all n xs) i ≡ option_map (λ key. option_and_then (λ x. first_same same (n + i) 1 x all) key) (slice_get xs i)
others_at same all n [] i = refl
others_at same all n (x ∷ xs) zero =
    let here : n ≡ n + 0 = omega arith in ap (λ m. Some (option_and_then (λ y. first_same same m 1 y all) x)) here
others_at same all n (x ∷ xs) (suc i) =
    let moved : n + 1 + i ≡ n + suc i = omega arith in
    others_at same all (n + 1) xs i ∙ ap (λ m. option_map (λ key. option_and_then (λ y. first_same same m 1 y all) key) (slice_get xs i)) moved

same_instance : {A : Type 0} (same : A → A → Bool) (said : Stored → Tree → Option A) (number own position : ℕ) (x : A) (t : Tree)
    → first_same same own position x (each_in number said t) ≡ first_other own position (λ s below. option_map_or (same x) (said s below) false) (instances number t)
same_instance same said number own position x end = refl
same_instance same said number own position x (node s below after) =
    by (s.schema_number == number) (same_instance same said number own position x after) (same_instance same said number own (position + 1) x after)
  where
    test : Stored → Tree → Bool
    test r b = option_map_or (same x) (said r b) false

    by : (b : Bool) → first_same same own position x (each_in number said after) ≡ first_other own position test (instances number after)
        → first_same same own (position + 1) x (each_in number said after) ≡ first_other own (position + 1) test (instances number after)
        → first_same same own position x (cond b (said s below ∷ each_in number said after) (each_in number said after))
        ≡ first_other own position test (cond b (node s below (instances number after)) (instances number after))
    by true here next = ap (cond (not (position == own) && test s below) (Some position)) next
    by false here next = here

-- of the instance at a position
found_at : {A : Type 0} (same : A → A → Bool) (said : Stored → Tree → Option A) (number position : ℕ) (t : Tree) → 0 < position
    → option_and_then (λ fellow. fellow) (slice_get (others_from same (each_in number said t) 1 (each_in number said t)) (position - 1))
    ≡ option_and_then (λ (found : Stored × Tree). option_and_then (λ x. fellow_by (λ s below. option_map_or (same x) (said s below) false) t number position) (said found.0 found.1))
    (nth_instance number (position - 1) t)
found_at {A} same said number position t some =
    let keys = each_in number said t in
    let own : 1 + (position - 1) ≡ position = omega (arith, some) in
    ap (option_and_then (λ fellow. fellow)) (others_at same keys 1 keys (position - 1)
    ∙ (ap (λ n. option_map (λ key. option_and_then (λ x. first_same same n 1 x keys) key) (slice_get keys (position - 1))) own
    ∙ ap (option_map (λ key. option_and_then (λ x. first_same same position 1 x keys) key)) (each_at said number t (position - 1))))
    ∙ by (nth_instance number (position - 1) t)
  where
    of_one : (key : Option A) → option_and_then (λ x. first_same same position 1 x (each_in number said t)) key
        ≡ option_and_then (λ x. fellow_by (λ s below. option_map_or (same x) (said s below) false) t number position) key
    of_one None = refl
    of_one (Some x) = same_instance same said number position 1 x t

    by : (o : Option (Stored × Tree))
        → option_and_then (λ fellow. fellow) (option_map (λ key. option_and_then (λ x. first_same same position 1 x (each_in number said t)) key) (option_map (λ (found : Stored × Tree). said found.0 found.1) o))
        ≡ option_and_then (λ (found : Stored × Tree). option_and_then (λ x. fellow_by (λ s below. option_map_or (same x) (said s below) false) t number position) (said found.0 found.1)) o
    by None = refl
    by (Some found) = of_one (said found.0 found.1)

pub found_fellow : (schema : Schema) (by : Option ℕ) (number position : ℕ) (t : Tree) → 0 < position
    → option_and_then (λ fellow. fellow) (slice_get (fellows_in schema by number t) (position - 1)) ≡ fellow_by_that schema by t (step_at number position)
found_fellow schema (Some u) number position t some = found_at same_tuple (λ s below. tuple schema s below u) number position t some
found_fellow schema None number position t some = found_at same_value (λ s below. value_of schema s) number position t some

-- ---- by another view of the keys

module _ {A B : Type 0} (f : A → B) (same : A → A → Bool) (alike : B → B → Bool) (agree : (x y : A) → same x y ≡ alike (f x) (f y)) where
  same_seen : (own n : ℕ) (x : A) (xs : List (Option A)) → first_same same own n x xs ≡ first_same alike own n (f x) (map (option_map f) xs)
  same_seen own n x [] = refl
  same_seen own n x (y ∷ xs) = ap₂ (λ (b : Bool) (o : Option ℕ). cond (not (n == own) && b) (Some n) o) (one y) (same_seen own (n + 1) x xs)
    where
      one : (y : Option A) → option_map_or (same x) y false ≡ option_map_or (alike (f x)) (option_map f y) false
      one None = refl
      one (Some z) = agree x z

  pub others_seen : (all : List (Option A)) (n : ℕ) (xs : List (Option A)) → others_from same all n xs ≡ others_from alike (map (option_map f) all) n (map (option_map f) xs)
  others_seen all n [] = refl
  others_seen all n (x ∷ xs) = ap₂ (λ (o : Option ℕ) (os : List (Option ℕ)). o ∷ os) (one x) (others_seen all (n + 1) xs)
    where
      one : (x : Option A) → option_and_then (λ y. first_same same n 1 y all) x ≡ option_and_then (λ y. first_same alike n 1 y (map (option_map f) all)) (option_map f x)
      one None = refl
      one (Some y) = same_seen n 1 y all

alike_tuples : (vs ws : Tuple) → is_eq (slice_cmp value_cmp vs ws) ≡ pointwise same_value vs ws
alike_tuples [] [] = refl
alike_tuples [] (w ∷ ws) = refl
alike_tuples (v ∷ vs) [] = refl
alike_tuples (v ∷ vs) (w ∷ ws) = by (value_cmp v w) ∙ ap (λ b. is_eq (value_cmp v w) && b) (alike_tuples vs ws)
  where
    by : (o : Ordering) → is_eq (ordering_then o (slice_cmp value_cmp vs ws)) ≡ (is_eq o && is_eq (slice_cmp value_cmp vs ws))
    by Less = refl
    by Equal = refl
    by Greater = refl

pub tuples_seen : (schema : Schema) (u number : ℕ) (t : Tree) (found : List (Option (Vec Val Global)))
    → map (option_map (λ vs. vs.items)) found ≡ each_in number (λ s below. tuple schema s below u) t
    → others_from (eq_by_cmp (λ (x y : Vec Val Global). slice_cmp value_cmp x.items y.items)) found 1 found ≡ fellows_in schema (Some u) number t
tuples_seen schema u number t found are =
    others_seen (λ (vs : Vec Val Global). vs.items) (eq_by_cmp (λ (x y : Vec Val Global). slice_cmp value_cmp x.items y.items)) same_tuple (λ x y. alike_tuples x.items y.items) found 1 found
    ∙ ap (λ ts. others_from same_tuple ts 1 ts) are

-- ---- at the last step to a place

pub fellow_at_last : (schema : Schema) (tree row : Tree) (info : Info) (k : FaultCode) (steps above : List code.Step) (step : code.Step)
    → steps ≡ above ++ step ∷ [] → row ≡ row_at tree (place_view above)
    → fellow_at schema tree (place_view steps) info k ≡ option_and_then (λ by. fellow_by_that schema by row (step_view step)) (fellow_asked k info)
fellow_at_last schema tree row info k steps above step parted row_is = of (fellow_asked k info)
  where
    of : (asked : Option (Option ℕ))
        → option_and_then (λ by. option_and_then (fellow_by_that schema by (row_at tree (steps_above (place_view steps)))) (last_step (place_view steps))) asked
        ≡ option_and_then (λ by. fellow_by_that schema by row (step_view step)) asked
    of None = refl
    of (Some by) =
        ap (λ (o : Option Step). option_and_then (fellow_by_that schema by (row_at tree (steps_above (place_view steps)))) o) (last_seen steps above step parted)
        ∙ (ap (λ (xs : List Step). fellow_by_that schema by (row_at tree xs) (step_view step)) (above_seen steps above step parted)
        ∙ ap (λ (r : Tree). fellow_by_that schema by r (step_view step)) (sym row_is))

pub told_by : (schema : Schema) (tree row : Tree) (info : Info) (k : FaultCode) (steps above : List code.Step) (step : code.Step) (by : Option ℕ)
    → steps ≡ above ++ step ∷ [] → row ≡ row_at tree (place_view above) → fellow_asked k info ≡ Some by
    → fellow_by_that schema by row (step_view step) ≡ fellow_at schema tree (place_view steps) info k
told_by schema tree row info k steps above step by parted row_is asked =
    sym (fellow_at_last schema tree row info k steps above step parted row_is ∙ ap (option_and_then (λ b. fellow_by_that schema b row (step_view step))) asked)

-- ---- steps that are the same

same_position : (p q : Option ℕ) → option_eq nat_eq p q ≡ true → p ≡ q
same_position None None e = refl
same_position None (Some n) e = absurd cc
same_position (Some m) None e = absurd cc
same_position (Some m) (Some n) e = ap Some (eqb-true m n e)

same_step : (a b : code.Step) → ghosts.eq a b ≡ true → a ≡ b
same_step a b e =
    let parts = and_parts (nat_eq a.id.0 b.id.0) (option_eq nat_eq a.position b.position) e in
    ap₂ (λ (n : ℕ) (p : Option ℕ). record { id = record { 0 = n }; position = p }) (eqb-true a.id.0 b.id.0 parts.0) (same_position a.position b.position parts.1)

pub same_steps : (xs ys : List code.Step) → pointwise ghosts.eq xs ys ≡ true → xs ≡ ys
same_steps [] [] e = refl
same_steps [] (y ∷ ys) e = absurd cc
same_steps (x ∷ xs) [] e = absurd cc
same_steps (x ∷ xs) (y ∷ ys) e =
    let parts = and_parts (ghosts.eq x y) (pointwise ghosts.eq xs ys) e in
    ap₂ (λ (z : code.Step) (zs : List code.Step). z ∷ zs) (same_step x y parts.0) (same_steps xs ys parts.1)

-- ---- of a fault among others

module _ (schema : Schema) (tree : Tree) (faults : List ycheck.Fault) (fellows : List (Option ℕ)) (are : fellows ≡ map (fellow_of schema tree) (views faults)) where
  pub fellow_for_each : length fellows ≡ length faults
  fellow_for_each = ap length are ∙ (length-map (views faults) (fellow_of schema tree) ∙ length-map faults fault_views.view)

  pub fellow_listed : (i : ℕ) (fault : ycheck.Fault) (fellow : Option ℕ) → i < length faults → fault ≡ get_or faults i fault → fellow ≡ get_or fellows i fellow
      → fellow ≡ fellow_of schema tree (fault_views.view fault)
  fellow_listed i fault fellow within fault_is fellow_is =
      let below : i < length (views faults) = omega (arith, within, length-map faults fault_views.view) in
      fellow_is ∙ (ap (λ os. get_or os i fellow) are
      ∙ (get_or-map (fellow_of schema tree) (views faults) i (fault_views.view fault) fellow below
      ∙ ap (fellow_of schema tree) (get_or-map fault_views.view faults i fault (fault_views.view fault) within ∙ ap fault_views.view (sym fault_is))))
