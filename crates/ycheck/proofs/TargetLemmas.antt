-- What is gathered of the values of targets, part by part.
use Rattle.std.proofs.Common.{◌≡◌, ℕ, zero, suc, ◌+◌, ◌<◌, ◌≤◌, Bool, true, false, cond, ◌&&◌, ◌||◌, eqb, ltb, List, [], ◌∷◌, ◌++◌, true≢false, length, drop, get_or, Option, Some, None, refl, sym, ap, ap₂, subst, ◌∙◌, arith}
use Rattle.std.specs.Prelude.{count_by, sum_by, is_some}
use Rattle.std.specs.Option.{option_map_or}
use Rattle.std.specs.Ordering.{is_eq, nat_cmp}
use Rattle.std.specs.Map.{lookup}
use Rattle.std.specs.BTreeMap.{BTreeMap}
use Rattle.std.specs.BTreeSet.{BTreeSet, contains}
use Rattle.std.proofs.lemmas.Bool.Decides.{nat_tests}
use Rattle.ytype.specs.Laws.{same_value_equiv}
use Rattle.yschema_model.specs.declared.node.SchemaId.{SchemaId}
use Rattle.std.proofs.lemmas.Bool.{lt-ltb, eqb-true}
use Rattle.std.proofs.lemmas.List.{at_drop_more, at_drop_all, append-nil}
use Rattle.std.proofs.lemmas.List.Sums.{sum_by-cons, sum_by-append}
use Rattle.yspec.specs.Forest.{Forest, end, node, size, weigh_nodes}
use Rattle.yspec.specs.types.Types.{Val}
use Rattle.yspec.specs.types.Order.{value_cmp, same_value}
use Rattle.yspec.specs.schema.Schema.{Schema, SchemaNode, LeafType, Kind, container, leaf, leaf_list, list, choice, case, Absence, allowed, default_used, mandatory, key, Amount, is_data, children_of}
use Rattle.yspec.specs.document.Document.{Stored, Tree, Step, step_to, instances_in}
use Rattle.yspec.specs.document.FaultCode.{V2, V3, V4, V5, V6, V7}
use Rattle.yspec.specs.document.Fault.{plain_fault, fault_with, choice_name}
use Rattle.yspec.specs.document.Faults.{Times}
use Rattle.yspec.specs.document.Fitting.{IsNumbered}
use Rattle.yspec.specs.document.Sorting.{IsSorted}
use Rattle.yinst_tree.specs.Walk.{others}
use Rattle.yspec.specs.document.Instances.{value_of, times_in_use, times_at}
use Rattle.yspec.specs.document.Play.{Item, tell, in_use, visit, visit_each, cases, stored_cases, or_default, choice_faults, absent_leaf, absent_items, exceeds, amount_faults, is_among, node_items, stored_inside, steps_inside, items_in_play}
use Rattle.std.proofs.Common.{Vec}
use Rattle.std.specs.Global.{Global}
use Rattle.yschema_model.specs.declared.node.Kind as code
use Rattle.yschema_model.specs.declared.node.LeafType as code_type
use Rattle.yschema_model.specs.declared.node.Absence as code_absence
use Rattle.yschema_model.specs.declared.node.Amount as code_amount
use Rattle.yschema_model.specs.declared.node.Kind.TheVariants as kinds
use Rattle.yschema_model.specs.Layout.{kind_view}
use Rattle.ycheck.specs.Cases.{is_chosen, Chooses}
use Rattle.ycheck.specs.Targets.{kept, is_kept, holds, Gathers, one_value, some_values, default_value, times_used, times_of_row, times_of_node, own_value}
use Rattle.ycheck.specs.declared.cases.Chosen.{Chosen}
use Rattle.ycheck.specs.declared.cases.Chosen.TheVariants as chosen
use Rattle.ycheck.specs.declared.targets.Targets.{Targets}
use Rattle.ycheck.proofs.CaseLemmas.{among_same, cases_same, counts_others, sorted_others}

-- ---- what is gathered in turn

-- what is held with what is to be added
abbrev pub holds_with : Targets → Times → ℕ → Val → Bool
holds_with targets times number v = holds targets number v || (is_kept targets number && ltb 0 (times number v))

-- what is held now with the rest is what was held with all
abbrev pub Still : Targets → Targets → Times → Times → Type 0
Still old now whole rest = (number : ℕ) (v : Val) → (is_kept now number ≡ is_kept old number) × (holds_with now rest number v ≡ holds_with old whole number v)

or_sum : (h k : Bool) (x y : ℕ) → ((h || (k && ltb 0 x)) || (k && ltb 0 y)) ≡ (h || (k && ltb 0 (x + y)))
or_sum true k x y = refl
or_sum false false x y = refl
or_sum false true zero y = let same : y ≡ 0 + y = omega arith in ap (ltb 0) same
or_sum false true (suc x) y = ap (λ b. b || ltb 0 y) (lt-ltb 0 (suc x) (omega arith)) ∙ sym (lt-ltb 0 (suc x + y) (omega arith))

or_none : (h k : Bool) → (h || (k && false)) ≡ h
or_none true k = refl
or_none false true = refl
or_none false false = refl

pub still_all_left : (old : Targets) (whole : Times) → Still old old whole whole
still_all_left old whole number v = (refl, refl)

pub still_more : (old now next : Targets) (whole rest added left : Times) → Still old now whole rest → Gathers now next added
    → ((number : ℕ) (v : Val) → rest number v ≡ added number v + left number v) → Still old next whole left
still_more old now next whole rest added left so gathered parts number v =
    let here = so number v in
    let more = gathered number v in (
      more.0 ∙ here.0,
      ap₂ (λ h k. h || (k && ltb 0 (left number v))) more.1 more.0
          ∙ (or_sum (holds now number v) (is_kept now number) (added number v) (left number v)
          ∙ (ap (λ x. holds now number v || (is_kept now number && ltb 0 x)) (sym (parts number v)) ∙ here.1)),
    )

pub still_none_left : (old now : Targets) (whole rest : Times) → Still old now whole rest → ((number : ℕ) (v : Val) → rest number v ≡ 0) → Gathers old now whole
still_none_left old now whole rest so none number v =
    let here = so number v in (
      here.0,
      sym (or_none (holds now number v) (is_kept now number)) ∙ (ap (λ x. holds now number v || (is_kept now number && ltb 0 x)) (sym (none number v)) ∙ here.1),
    )

-- where nothing is added that is kept
pub gathers_none : (t : Targets) (times : Times) → ((number : ℕ) (v : Val) → is_kept t number ≡ true → times number v ≡ 0) → Gathers t t times
gathers_none t times none number v = (refl, by (is_kept t number) refl)
  where
    by : (b : Bool) → is_kept t number ≡ b → holds t number v ≡ (holds t number v || (is_kept t number && ltb 0 (times number v)))
    by true e = sym (ap₂ (λ k x. holds t number v || (k && ltb 0 x)) e (none number v e) ∙ or_none (holds t number v) true)
    by false e = sym (ap (λ k. holds t number v || (k && ltb 0 (times number v))) e ∙ or_none (holds t number v) true)

pub gathers_same : (old new : Targets) (times other : Times) → ((number : ℕ) (v : Val) → times number v ≡ other number v) → Gathers old new times → Gathers old new other
gathers_same old new times other same gathered number v =
    let here = gathered number v in (here.0, here.1 ∙ ap (λ x. holds old number v || (is_kept old number && ltb 0 x)) (same number v))

-- ---- what is in use of a node

module _ (number : ℕ) (v : Val) where
  -- what is in use of a node that is stored or not, in play or not, by what is in use in it
  abbrev pub node_times : Bool → Bool → ℕ → Kind → ℕ → ℕ
  node_times stored in_play m (container presence) inside = cond stored 0 (cond presence 0 inside)
  node_times stored in_play m (leaf type absence) inside = cond stored 0 (default_value m absence number v)
  node_times stored in_play m (leaf_list type defaults amount) inside = cond stored 0 (some_values m defaults number v)
  node_times stored in_play m (list tuples amount) inside = 0
  node_times stored in_play m (choice default_case is_mandatory) inside = inside
  node_times stored in_play m case inside = cond in_play inside 0

  one_item : (item : Item) → sum_by (times_in_use number v) (item ∷ []) ≡ times_in_use number v item
  one_item item = sum_by-cons (times_in_use number v) item [] ∙ omega arith

  both : (first second : List Item) (x : ℕ) → sum_by (times_in_use number v) first ≡ 0 → sum_by (times_in_use number v) second ≡ x → sum_by (times_in_use number v) (first ++ second) ≡ x
  both first second x none so = sum_by-append (times_in_use number v) first second ∙ omega (arith, none, so)

  amount_weighs : (steps : List Step) (amount : Amount) (count : ℕ) → sum_by (times_in_use number v) (amount_faults steps amount count) ≡ 0
  amount_weighs steps amount count = by (ltb count amount.min_elements) (exceeds count amount.max_elements)
    where
      by : (a b : Bool) → sum_by (times_in_use number v) (cond a (tell (plain_fault V6 steps) ∷ []) (cond b (tell (plain_fault V7 steps) ∷ []) [])) ≡ 0
      by true b = one_item (tell (plain_fault V6 steps))
      by false true = one_item (tell (plain_fault V7 steps))
      by false false = refl

  choice_weighs : (above : List Step) (n : SchemaNode) (is_mandatory : Bool) (ns : List ℕ) → sum_by (times_in_use number v) (choice_faults above n is_mandatory ns) ≡ 0
  choice_weighs above n true [] = one_item (tell (fault_with (choice_name n.name) V4 above))
  choice_weighs above n false [] = refl
  choice_weighs above n is_mandatory (first ∷ []) = refl
  choice_weighs above n is_mandatory (first ∷ second ∷ more) = one_item (tell (fault_with (choice_name n.name) V5 above))

  items_weigh : (m : ℕ) (vs : List Val) → sum_by (times_in_use number v) (absent_items m vs) ≡ some_values m vs number v
  items_weigh m [] = by (eqb m number)
    where
      by : (b : Bool) → 0 ≡ cond b (count_by (same_value v) []) 0
      by true = refl
      by false = refl
  items_weigh m (w ∷ ws) = one_item (in_use m (w ∷ ws))

  leaf_weighs : (m : ℕ) (steps : List Step) (absence : Absence) → sum_by (times_in_use number v) (absent_leaf m steps absence) ≡ default_value m absence number v
  leaf_weighs m steps allowed = refl
  leaf_weighs m steps (default_used w) = one_item (in_use m (w ∷ [])) ∙ ap (λ x. cond (eqb m number) x 0) (sum_by-cons (λ (u : Val). cond (same_value v u) 1 0) w [] ∙ omega arith)
  leaf_weighs m steps mandatory = one_item (tell (plain_fault V3 steps))
  leaf_weighs m steps key = one_item (tell (plain_fault V2 steps))

  visit_or : (b : Bool) (item : Item) (absent : List Item) (x : ℕ) → times_in_use number v item ≡ 0 → sum_by (times_in_use number v) absent ≡ x
      → sum_by (times_in_use number v) (cond b (item ∷ []) absent) ≡ cond b 0 x
  visit_or true item absent x none so = one_item item ∙ none
  visit_or false item absent x none so = so

  node_weighs : (s : ℕ → ℕ) (numbers : List ℕ) (above : List Step) (n : SchemaNode) (kind : Kind) (below : Forest SchemaNode) (inside : List Item)
      → sum_by (times_in_use number v) (node_items s numbers above n kind below inside)
      ≡ node_times (ltb 0 (s n.number)) (is_among numbers n.number) n.number kind (sum_by (times_in_use number v) inside)
  node_weighs s numbers above n (container presence) below inside =
      visit_or (ltb 0 (s n.number)) (visit n.number) (cond presence [] inside) (cond presence 0 (sum_by (times_in_use number v) inside)) refl (by presence)
    where
      by : (b : Bool) → sum_by (times_in_use number v) (cond b [] inside) ≡ cond b 0 (sum_by (times_in_use number v) inside)
      by true = refl
      by false = refl
  node_weighs s numbers above n (leaf type absence) below inside =
      visit_or (ltb 0 (s n.number)) (visit n.number) (absent_leaf n.number (above ++ step_to n.number ∷ []) absence) (default_value n.number absence number v) refl
      (leaf_weighs n.number (above ++ step_to n.number ∷ []) absence)
  node_weighs s numbers above n (leaf_list type defaults amount) below inside =
      both (amount_faults (above ++ step_to n.number ∷ []) amount (s n.number)) (cond (ltb 0 (s n.number)) (visit_each n.number ∷ []) (absent_items n.number defaults))
      (cond (ltb 0 (s n.number)) 0 (some_values n.number defaults number v)) (amount_weighs (above ++ step_to n.number ∷ []) amount (s n.number))
      (visit_or (ltb 0 (s n.number)) (visit_each n.number) (absent_items n.number defaults) (some_values n.number defaults number v) refl (items_weigh n.number defaults))
  node_weighs s numbers above n (list tuples amount) below inside =
      both (amount_faults (above ++ step_to n.number ∷ []) amount (s n.number)) (cond (ltb 0 (s n.number)) (visit_each n.number ∷ []) []) 0
      (amount_weighs (above ++ step_to n.number ∷ []) amount (s n.number))
      (visit_or (ltb 0 (s n.number)) (visit_each n.number) [] 0 refl refl ∙ by (ltb 0 (s n.number)))
    where
      by : (b : Bool) → cond {A = ℕ} b 0 0 ≡ 0
      by true = refl
      by false = refl
  node_weighs s numbers above n (choice default_case is_mandatory) below inside =
      both (choice_faults above n is_mandatory (stored_cases s below)) inside (sum_by (times_in_use number v) inside) (choice_weighs above n is_mandatory (stored_cases s below)) refl
  node_weighs s numbers above n case below inside = by (is_among numbers n.number)
    where
      by : (b : Bool) → sum_by (times_in_use number v) (cond b inside []) ≡ cond b (sum_by (times_in_use number v) inside) 0
      by true = refl
      by false = refl

  -- wherever the steps lead from
  steps_weigh : (s : ℕ → ℕ) (numbers : List ℕ) (above other : List Step) (f : Forest SchemaNode)
      → sum_by (times_in_use number v) (items_in_play s numbers above f) ≡ sum_by (times_in_use number v) (items_in_play s numbers other f)
  unfolding items_in_play
  steps_weigh s numbers above other end = refl
  steps_weigh s numbers above other (node n below after) =
      let inside : List Step → List Item = λ steps. items_in_play (stored_inside n.kind s) (cases s n.kind below) (steps_inside n.kind steps n.number) below in
      let here : List Step → List Item = λ steps. node_items s numbers steps n n.kind below (inside steps) in
      sum_by-append (times_in_use number v) (here above) (items_in_play s numbers above after)
      ∙ (ap₂ ◌+◌ (node_weighs s numbers above n n.kind below (inside above)
      ∙ (ap (node_times (ltb 0 (s n.number)) (is_among numbers n.number) n.number n.kind)
      (steps_weigh (stored_inside n.kind s) (cases s n.kind below) (steps_inside n.kind above n.number) (steps_inside n.kind other n.number) below)
      ∙ sym (node_weighs s numbers other n n.kind below (inside other)))) (steps_weigh s numbers above other after)
      ∙ sym (sum_by-append (times_in_use number v) (here other) (items_in_play s numbers other after)))

  -- a node alone
  pub node_used : (s : ℕ → ℕ) (numbers : List ℕ) (n : SchemaNode) (below : Forest SchemaNode) → times_used s numbers (node n below end) number v
      ≡ node_times (ltb 0 (s n.number)) (is_among numbers n.number) n.number n.kind (times_used (stored_inside n.kind s) (cases s n.kind below) below number v)
  unfolding items_in_play
  node_used s numbers n below =
      let inside : List Item = items_in_play (stored_inside n.kind s) (cases s n.kind below) (steps_inside n.kind [] n.number) below in
      ap (sum_by (times_in_use number v)) (append-nil (node_items s numbers [] n n.kind below inside))
      ∙ (node_weighs s numbers [] n n.kind below inside
      ∙ ap (node_times (ltb 0 (s n.number)) (is_among numbers n.number) n.number n.kind)
      (steps_weigh (stored_inside n.kind s) (cases s n.kind below) (steps_inside n.kind [] n.number) [] below))

  -- and those after it
  pub first_used : (s : ℕ → ℕ) (numbers : List ℕ) (n : SchemaNode) (below after : Forest SchemaNode)
      → times_used s numbers (node n below after) number v ≡ times_used s numbers (node n below end) number v + times_used s numbers after number v
  unfolding items_in_play
  first_used s numbers n below after =
      let here : List Item = node_items s numbers [] n n.kind below (items_in_play (stored_inside n.kind s) (cases s n.kind below) (steps_inside n.kind [] n.number) below) in
      sum_by-append (times_in_use number v) here (items_in_play s numbers [] after)
      ∙ ap (λ xs. sum_by (times_in_use number v) xs + sum_by (times_in_use number v) (items_in_play s numbers [] after)) (sym (append-nil here))

  pub none_used : (s : ℕ → ℕ) (numbers : List ℕ) (f : Forest SchemaNode) → f ≡ end → times_used s numbers f number v ≡ 0
  unfolding items_in_play
  none_used s numbers f is = ap (λ g. sum_by (times_in_use number v) (items_in_play s numbers [] g)) is

-- ---- the sets

abbrev Sets : Type 0
Sets = BTreeMap SchemaId (BTreeSet Val)

same_id : (a b : ℕ) → is_eq (nat_cmp a b) ≡ eqb b a
same_id a b = grind (arith, nat_tests)

found_by : (es : List (SchemaId × BTreeSet Val)) (m : ℕ) → lookup (λ (k : SchemaId). is_eq (nat_cmp m k.0)) es ≡ lookup (λ (k : SchemaId). eqb k.0 m) es
found_by [] m = refl
found_by (e ∷ es) m = ap₂ (λ b o. cond b (Some e.1) o) (same_id m e.0.0) (found_by es m)

-- one that is put in, or written anew
after_put : (old new : Sets) (id : SchemaId) (w : BTreeSet Val) → ((q : SchemaId) → lookup (λ (k : SchemaId). is_eq (nat_cmp q.0 k.0)) new.entries
    ≡ cond (is_eq (nat_cmp id.0 q.0)) (Some w) (lookup (λ (k : SchemaId). is_eq (nat_cmp q.0 k.0)) old.entries))
    → (number : ℕ) → kept (record { sets = new }) number ≡ cond (eqb id.0 number) (Some w) (kept (record { sets = old }) number)
after_put old new id w put number =
    sym (found_by new.entries number) ∙ (put (record { 0 = number })
    ∙ ap₂ (λ b o. cond b (Some w) o) (same_id id.0 number ∙ turned number id.0) (found_by old.entries number))
  where
    turned : (a b : ℕ) → eqb a b ≡ eqb b a
    turned a b = grind (arith, nat_tests)

-- a schema node whose values are kept from now on
pub kept_more : (old new : Sets) (id : SchemaId) (w : BTreeSet Val) → is_kept (record { sets = old }) id.0 ≡ false → w.keys ≡ []
    → ((q : SchemaId) → lookup (λ (k : SchemaId). is_eq (nat_cmp q.0 k.0)) new.entries ≡ cond (is_eq (nat_cmp id.0 q.0)) (Some w) (lookup (λ (k : SchemaId). is_eq (nat_cmp q.0 k.0)) old.entries))
    → (number : ℕ) → (is_kept (record { sets = new }) number ≡ (is_kept (record { sets = old }) number || eqb id.0 number))
    × ((v : Val) → holds (record { sets = new }) number v ≡ holds (record { sets = old }) number v)
kept_more old new id w none empty put number = by (eqb id.0 number) refl
  where
    after : kept (record { sets = new }) number ≡ cond (eqb id.0 number) (Some w) (kept (record { sets = old }) number)
    after = after_put old new id w put number

    or_true : (b : Bool) → true ≡ (b || true)
    or_true true = refl
    or_true false = refl

    or_false : (b : Bool) → b ≡ (b || false)
    or_false true = refl
    or_false false = refl

    missing : (o : Option (BTreeSet Val)) (v : Val) → is_some o ≡ false → false ≡ option_map_or (λ values. contains value_cmp values v) o false
    missing None v e = refl
    missing (Some x) v e = absurd cc

    by : (b : Bool) → eqb id.0 number ≡ b → (is_kept (record { sets = new }) number ≡ (is_kept (record { sets = old }) number || eqb id.0 number))
        × ((v : Val) → holds (record { sets = new }) number v ≡ holds (record { sets = old }) number v)
    by true e =
        let now = after ∙ ap (λ b. cond b (Some w) (kept (record { sets = old }) number)) e in (
          ap is_some now ∙ (or_true (is_kept (record { sets = old }) number) ∙ ap (λ b. is_kept (record { sets = old }) number || b) (sym e)),
          λ v. ap (λ o. option_map_or (λ values. contains value_cmp values v) o false) now
              ∙ (ap (λ ks. contains value_cmp (record { keys = ks }) v) empty
              ∙ missing (kept (record { sets = old }) number) v (ap (is_kept (record { sets = old })) (sym (eqb-true id.0 number e)) ∙ none)),
        )
    by false e =
        let now = after ∙ ap (λ b. cond b (Some w) (kept (record { sets = old }) number)) e in (
          ap is_some now ∙ (or_false (is_kept (record { sets = old }) number) ∙ ap (λ b. is_kept (record { sets = old }) number || b) (sym e)),
          λ v. ap (λ o. option_map_or (λ values. contains value_cmp values v) o false) now,
        )

-- a value that is added to a set
pub value_added : (old new : Sets) (id : SchemaId) (set w : BTreeSet Val) (value : Val) → kept (record { sets = old }) id.0 ≡ Some set
    → ((q : Val) → contains value_cmp w q ≡ cond (is_eq (value_cmp value q)) true (contains value_cmp set q))
    → ((q : SchemaId) → lookup (λ (k : SchemaId). is_eq (nat_cmp q.0 k.0)) new.entries ≡ cond (is_eq (nat_cmp id.0 q.0)) (Some w) (lookup (λ (k : SchemaId). is_eq (nat_cmp q.0 k.0)) old.entries))
    → Gathers (record { sets = old }) (record { sets = new }) (one_value id.0 value)
value_added old new id set w value was added put number v = by (eqb id.0 number) refl
  where
    after : kept (record { sets = new }) number ≡ cond (eqb id.0 number) (Some w) (kept (record { sets = old }) number)
    after = after_put old new id w put number

    same : (b c : Bool) → cond b true c ≡ (c || (true && ltb 0 (cond b 1 0)))
    same true true = refl
    same true false = refl
    same false true = refl
    same false false = refl

    by : (b : Bool) → eqb id.0 number ≡ b → (is_kept (record { sets = new }) number ≡ is_kept (record { sets = old }) number)
        × (holds (record { sets = new }) number v ≡ (holds (record { sets = old }) number v || (is_kept (record { sets = old }) number && ltb 0 (one_value id.0 value number v))))
    by true e =
        let now = after ∙ ap (λ b. cond b (Some w) (kept (record { sets = old }) number)) e in
        let before : kept (record { sets = old }) number ≡ Some set = ap (kept (record { sets = old })) (sym (eqb-true id.0 number e)) ∙ was in (
          ap is_some now ∙ sym (ap is_some before),
          ap (λ o. option_map_or (λ values. contains value_cmp values v) o false) now
              ∙ (added v ∙ (ap (λ b. cond b true (contains value_cmp set v)) (same_value_equiv.symm value v)
              ∙ (same (same_value v value) (contains value_cmp set v)
              ∙ sym (ap₂ (λ o b. option_map_or (λ values. contains value_cmp values v) o false || (is_some o && ltb 0 (cond b (cond (same_value v value) 1 0) 0))) before e)))),
        )
    by false e =
        let now = after ∙ ap (λ b. cond b (Some w) (kept (record { sets = old }) number)) e in (
          ap is_some now,
          ap (λ o. option_map_or (λ values. contains value_cmp values v) o false) now
              ∙ (sym (or_none (holds (record { sets = old }) number v) (is_kept (record { sets = old }) number))
              ∙ sym (ap (λ b. holds (record { sets = old }) number v || (is_kept (record { sets = old }) number && ltb 0 (cond b (cond (same_value v value) 1 0) 0))) e)),
        )

pub key_found : (old : Sets) (m : ℕ) (set : BTreeSet Val) → Some set ≡ lookup (λ (k : SchemaId). is_eq (nat_cmp m k.0)) old.entries → kept (record { sets = old }) m ≡ Some set
key_found old m set is = sym (is ∙ found_by old.entries m)

-- ---- the kinds

module _ (number : ℕ) (v : Val) where
  -- a choice, and a case, by what is in use of the data nodes in it
  pub choice_used : (s : ℕ → ℕ) (numbers : List ℕ) (n : SchemaNode) (below : Forest SchemaNode) (default_case : Option ℕ) (is_mandatory : Bool) → n.kind ≡ choice default_case is_mandatory
      → times_used s (or_default default_case (stored_cases s below)) below number v ≡ times_used s numbers (node n below end) number v
  choice_used s numbers n below default_case is_mandatory is = sym (node_used number v s numbers n below
      ∙ ap (λ kind. node_times number v (ltb 0 (s n.number)) (is_among numbers n.number) n.number kind (times_used (stored_inside kind s) (cases s kind below) below number v)) is)

  pub case_used : (s : ℕ → ℕ) (numbers : List ℕ) (n : SchemaNode) (below : Forest SchemaNode) → n.kind ≡ case → is_among numbers n.number ≡ true
      → times_used s [] below number v ≡ times_used s numbers (node n below end) number v
  case_used s numbers n below is here = sym (node_used number v s numbers n below
      ∙ (ap (λ kind. node_times number v (ltb 0 (s n.number)) (is_among numbers n.number) n.number kind (times_used (stored_inside kind s) (cases s kind below) below number v)) is
      ∙ ap (λ b. cond b (times_used s [] below number v) 0) here))

  pub case_unused : (s : ℕ → ℕ) (numbers : List ℕ) (n : SchemaNode) (below : Forest SchemaNode) → n.kind ≡ case → is_among numbers n.number ≡ false
      → times_used s numbers (node n below end) number v ≡ 0
  case_unused s numbers n below is here = node_used number v s numbers n below
      ∙ (ap (λ kind. node_times number v (ltb 0 (s n.number)) (is_among numbers n.number) n.number kind (times_used (stored_inside kind s) (cases s kind below) below number v)) is
      ∙ ap (λ b. cond b (times_used s [] below number v) 0) here)

  -- nothing of a data node that is stored
  pub stored_unused : (s : ℕ → ℕ) (numbers : List ℕ) (n : SchemaNode) (below : Forest SchemaNode) → is_data n.kind ≡ true → true ≡ ltb 0 (s n.number)
      → times_used s numbers (node n below end) number v ≡ 0
  stored_unused s numbers n below data_node stored = node_used number v s numbers n below
      ∙ (ap (λ b. node_times number v b (is_among numbers n.number) n.number n.kind (times_used (stored_inside n.kind s) (cases s n.kind below) below number v)) (sym stored)
      ∙ by n.kind data_node)
    where
      by : (kind : Kind) → is_data kind ≡ true → node_times number v true (is_among numbers n.number) n.number kind (times_used (stored_inside kind s) (cases s kind below) below number v) ≡ 0
      by (container presence) e = refl
      by (leaf type absence) e = refl
      by (leaf_list type defaults amount) e = refl
      by (list tuples amount) e = refl
      by (choice default_case is_mandatory) e = absurd cc
      by case e = absurd cc

  -- of one that isn't stored the same, whatever else is
  pub absent_used : (s : ℕ → ℕ) (numbers : List ℕ) (n : SchemaNode) (below : Forest SchemaNode) → is_data n.kind ≡ true → false ≡ ltb 0 (s n.number)
      → times_used (instances_in end) [] (node n below end) number v ≡ times_used s numbers (node n below end) number v
  absent_used s numbers n below data_node absent =
      node_used number v (instances_in end) [] n below
      ∙ (by n.kind data_node
      ∙ sym (node_used number v s numbers n below
      ∙ ap (λ b. node_times number v b (is_among numbers n.number) n.number n.kind (times_used (stored_inside n.kind s) (cases s n.kind below) below number v)) (sym absent)))
    where
      by : (kind : Kind) → is_data kind ≡ true
          → node_times number v false false n.number kind (times_used (stored_inside kind (instances_in end)) (cases (instances_in end) kind below) below number v)
          ≡ node_times number v false (is_among numbers n.number) n.number kind (times_used (stored_inside kind s) (cases s kind below) below number v)
      by (container presence) e = refl
      by (leaf type absence) e = refl
      by (leaf_list type defaults amount) e = refl
      by (list tuples amount) e = refl
      by (choice default_case is_mandatory) e = absurd cc
      by case e = absurd cc

  -- a container that is implied, a leaf and a leaf-list that aren't stored
  at_kind : (n : SchemaNode) (below : Forest SchemaNode) (kind : Kind) → n.kind ≡ kind
      → times_used (instances_in end) [] (node n below end) number v
      ≡ node_times number v false false n.number kind (times_used (stored_inside kind (instances_in end)) (cases (instances_in end) kind below) below number v)
  at_kind n below kind is = node_used number v (instances_in end) [] n below
      ∙ ap (λ k. node_times number v false false n.number k (times_used (stored_inside k (instances_in end)) (cases (instances_in end) k below) below number v)) is

  pub implied_used : (n : SchemaNode) (below : Forest SchemaNode) → n.kind ≡ container false
      → times_used (instances_in end) [] below number v ≡ times_used (instances_in end) [] (node n below end) number v
  implied_used n below is = sym (at_kind n below (container false) is)

  pub present_used : (n : SchemaNode) (below : Forest SchemaNode) → n.kind ≡ container true → times_used (instances_in end) [] (node n below end) number v ≡ 0
  present_used n below is = at_kind n below (container true) is

  pub leaf_used : (n : SchemaNode) (below : Forest SchemaNode) (type : LeafType) (absence : Absence) → n.kind ≡ leaf type absence
      → default_value n.number absence number v ≡ times_used (instances_in end) [] (node n below end) number v
  leaf_used n below type absence is = sym (at_kind n below (leaf type absence) is)

  pub leaf_list_used : (n : SchemaNode) (below : Forest SchemaNode) (type : LeafType) (defaults : List Val) (amount : Amount) → n.kind ≡ leaf_list type defaults amount
      → some_values n.number defaults number v ≡ times_used (instances_in end) [] (node n below end) number v
  leaf_list_used n below type defaults amount is = sym (at_kind n below (leaf_list type defaults amount) is)

-- ---- counts that agree from a number on

kind_inside : (kind : Kind) (s r : ℕ → ℕ) (k : ℕ) → ((m : ℕ) → k ≤ m → s m ≡ r m) → (m : ℕ) → k ≤ m → stored_inside kind s m ≡ stored_inside kind r m
kind_inside (container presence) s r k same m from = refl
kind_inside (leaf type absence) s r k same m from = same m from
kind_inside (leaf_list type defaults amount) s r k same m from = same m from
kind_inside (list tuples amount) s r k same m from = same m from
kind_inside (choice default_case is_mandatory) s r k same m from = same m from
kind_inside case s r k same m from = same m from

chosen_same : (kind : Kind) (below : Forest SchemaNode) (k : ℕ) (s r : ℕ → ℕ) → IsNumbered k below → ((m : ℕ) → k ≤ m → s m ≡ r m) → cases s kind below ≡ cases r kind below
chosen_same (container presence) below k s r numbered same = refl
chosen_same (leaf type absence) below k s r numbered same = refl
chosen_same (leaf_list type defaults amount) below k s r numbered same = refl
chosen_same (list tuples amount) below k s r numbered same = refl
chosen_same (choice default_case is_mandatory) below k s r numbered same = ap (or_default default_case) (cases_same below k s r numbered same)
chosen_same case below k s r numbered same = refl

module _ (number : ℕ) (v : Val) where
  pub used_same : (f : Forest SchemaNode) (k : ℕ) (s r : ℕ → ℕ) (numbers : List ℕ) → IsNumbered k f → ((m : ℕ) → k ≤ m → s m ≡ r m)
      → times_used s numbers f number v ≡ times_used r numbers f number v
  used_same end k s r numbers numbered same = none_used number v s numbers end refl ∙ sym (none_used number v r numbers end refl)
  used_same (node n below after) k s r numbers numbered same =
      first_used number v s numbers n below after
      ∙ (ap₂ ◌+◌ (node_used number v s numbers n below
      ∙ (ap₂ (λ c x. node_times number v (ltb 0 c) (is_among numbers n.number) n.number n.kind x) (same n.number (omega (arith, numbered.0)))
      (ap (λ c. times_used (stored_inside n.kind s) c below number v) (chosen_same n.kind below (k + 1) s r numbered.1 (λ m from. same m (omega (arith, from))))
      ∙ used_same below (k + 1) (stored_inside n.kind s) (stored_inside n.kind r) (cases r n.kind below) numbered.1
      (kind_inside n.kind s r (k + 1) (λ m from. same m (omega (arith, from)))))
      ∙ sym (node_used number v r numbers n below)))
      (used_same after (k + 1 + size below) s r numbers numbered.2 (λ m from. same m (omega (arith, from))))
      ∙ sym (first_used number v r numbers n below after))

is_chosen_same : (c : Chosen) (s r : ℕ → ℕ) (m : ℕ) (below : Forest SchemaNode) (k : ℕ) → IsNumbered k below → ((m : ℕ) → k ≤ m → s m ≡ r m) → is_chosen c s m below ≡ is_chosen c r m below
is_chosen_same chosen.NoCase s r m below k numbered same = refl
is_chosen_same chosen.EachStored s r m below k numbered same = ap (ltb 0) (among_same below k s r numbered same)
is_chosen_same (chosen.Only id) s r m below k numbered same = refl

pub chooses_same : (c : Chosen) (f : Forest SchemaNode) (k : ℕ) (s r : ℕ → ℕ) (numbers : List ℕ) → IsNumbered k f → ((m : ℕ) → k ≤ m → s m ≡ r m) → Chooses c s numbers f → Chooses c r numbers f
chooses_same c end k s r numbers numbered same chooses = tt
chooses_same c (node n below after) k s r numbers numbered same chooses = (
  chooses.0 ∙ is_chosen_same c s r n.number below (k + 1) numbered.1 (λ m from. same m (omega (arith, from))),
  chooses_same c after (k + 1 + size below) s r numbers numbered.2 (λ m from. same m (omega (arith, from))) chooses.1,
)

-- ---- one more

pub gathers_both : (a b c : Targets) (first second whole : Times) → Gathers a b first → Gathers b c second → ((number : ℕ) (v : Val) → whole number v ≡ first number v + second number v) → Gathers a c whole
gathers_both a b c first second whole one two parts =
    still_none_left a c whole (λ number v. 0) (still_more a b c whole second second (λ number v. 0)
    (still_more a a b whole whole first second (still_all_left a whole) one parts) two (λ number v. omega arith)) (λ number v. refl)

pub own_some : (s : Schema) (st : Stored) (m : ℕ) (value : Val) → m ≡ st.schema_number → Some value ≡ value_of s st → (number : ℕ) (v : Val) → one_value m value number v ≡ own_value s st number v
own_some s st m value same is number v =
    ap₂ (λ k (o : Option Val). cond (eqb k number) (cond (option_map_or (same_value v) o false) 1 0) 0) same is

pub values_next : (m : ℕ) (vs : List Val) (i : ℕ) (x : Val) → i < length vs → x ≡ get_or vs i x → (number : ℕ) (v : Val)
    → some_values m (drop i vs) number v ≡ one_value m x number v + some_values m (drop (i + 1) vs) number v
values_next m vs i x within is number v =
    at_drop_more (λ ws. some_values m ws number v) vs i x within
    ∙ (ap (λ y. some_values m (y ∷ drop (i + 1) vs) number v) (sym is) ∙ by (eqb m number))
  where
    by : (b : Bool) → cond b (count_by (same_value v) (x ∷ drop (i + 1) vs)) 0 ≡ cond b (cond (same_value v x) 1 0) 0 + cond b (count_by (same_value v) (drop (i + 1) vs)) 0
    by true = sum_by-cons (λ (u : Val). cond (same_value v u) 1 0) x (drop (i + 1) vs)
    by false = refl

pub values_none : (m : ℕ) (vs : List Val) (i : ℕ) → length vs ≤ i → (number : ℕ) (v : Val) → some_values m (drop i vs) number v ≡ 0
values_none m vs i ended number v = at_drop_all (λ ws. some_values m ws number v) vs i ended ∙ by (eqb m number)
  where
    by : (b : Bool) → cond b (count_by (same_value v) []) 0 ≡ 0
    by true = refl
    by false = refl

-- ---- rows of stored nodes

-- what is left to add of the nodes of a row
abbrev pub left_times : Schema → Tree → Times
left_times s t number v = weigh_nodes (times_at s number v) t

pub stored_next : (s : Schema) (rest after : Tree) (st : Stored) (below : Tree) (old now next : Targets) (whole : Times) → rest ≡ node st below after
    → (IsSorted below → Gathers now next (times_of_node s st below))
    → IsSorted rest × Still old now whole (left_times s rest) → IsSorted after × Still old next whole (left_times s after)
stored_next s rest after st below old now next whole is gathered so =
    let here : IsSorted (node st below after) = subst IsSorted is so.0 in (
      here.2,
      still_more old now next whole (left_times s rest) (times_of_node s st below) (left_times s after) so.1 (gathered here.1) (λ number v.
          ap (weigh_nodes (times_at s number v)) is ∙ omega arith),
    )

-- ---- rows of schema nodes

-- what is in use of those that are left is left to add
abbrev pub UsesLeft : Chosen → List ℕ → Targets → Targets → Times → Tree → Forest SchemaNode → Type 0
UsesLeft c numbers old now whole rest f =
    IsSorted rest × Chooses c (instances_in rest) numbers f × Still old now whole (times_used (instances_in rest) numbers f)

pub use_next : (c : Chosen) (f after below : Forest SchemaNode) (n : SchemaNode) (k m : ℕ) (rest left : Tree) (old now next : Targets) (whole : Times) (numbers : List ℕ)
    → IsNumbered k f → f ≡ node n below after → m ≡ n.number → left ≡ others m rest
    → ((ns : List ℕ) → IsSorted rest → Chooses c (instances_in rest) ns (node n below end) → Gathers now next (times_used (instances_in rest) ns (node n below end)))
    → UsesLeft c numbers old now whole rest f → UsesLeft c numbers old next whole left after
use_next c f after below n k m rest left old now next whole numbers numbered is number_is left_is gathered so =
    let here : IsNumbered k (node n below after) = subst (IsNumbered k) is numbered in
    let chooses : Chooses c (instances_in rest) numbers (node n below after) = subst (Chooses c (instances_in rest) numbers) is so.1 in
    let same : (i : ℕ) → k + 1 + size below ≤ i → instances_in rest i ≡ instances_in left i =
    λ i from. sym (ap (λ u. instances_in u i) left_is ∙ counts_others m i rest (omega (arith, number_is, here.0, from))) in (
      subst IsSorted (sym left_is) (sorted_others m rest so.0),
      chooses_same c after (k + 1 + size below) (instances_in rest) (instances_in left) numbers here.2 same chooses.1,
      still_more old now next whole (times_used (instances_in rest) numbers f) (times_used (instances_in rest) numbers (node n below end)) (times_used (instances_in left) numbers after)
          so.2 (gathered numbers so.0 (chooses.0, tt)) (λ number v.
          ap (λ g. times_used (instances_in rest) numbers g number v) is ∙ (first_used number v (instances_in rest) numbers n below after
          ∙ ap (λ x. times_used (instances_in rest) numbers (node n below end) number v + x) (used_same number v after (k + 1 + size below) (instances_in rest) (instances_in left) numbers here.2 same))),
    )

pub use_ended : (c : Chosen) (f : Forest SchemaNode) (rest : Tree) (old now : Targets) (whole : Times) (numbers : List ℕ) → f ≡ end → UsesLeft c numbers old now whole rest f → Gathers old now whole
use_ended c f rest old now whole numbers is so =
    still_none_left old now whole (times_used (instances_in rest) numbers f) so.2 (λ number v. none_used number v (instances_in rest) numbers f is)

-- ---- the targets

or_assoc : (a b c : Bool) → (a || (b || c)) ≡ ((a || b) || c)
or_assoc true b c = refl
or_assoc false b c = refl

-- ---- kinds as the crate below has them

pub data_kind : (k : code.Kind) → ((d : Option SchemaId) (m : Bool) → k ≡ kinds.Choice d m → ⊥) → (k ≡ kinds.Case → ⊥) → is_data (kind_view k) ≡ true
data_kind (kinds.Container presence) choice_not case_not = refl
data_kind (kinds.Leaf type absence) choice_not case_not = refl
data_kind (kinds.LeafList type defaults amount) choice_not case_not = refl
data_kind (kinds.List tuples amount) choice_not case_not = refl
data_kind (kinds.Choice default_case flag) choice_not case_not = absurd (choice_not default_case flag refl)
data_kind kinds.Case choice_not case_not = absurd (case_not refl)

-- of a data node that isn't stored and is no container, leaf or leaf-list nothing is in use
pub rest_unused : (number : ℕ) (v : Val) (n : SchemaNode) (below : Forest SchemaNode) (k : code.Kind) → n.kind ≡ kind_view k → is_data n.kind ≡ true
    → ((presence : Bool) → k ≡ kinds.Container presence → ⊥) → ((type : code_type.LeafType) (absence : code_absence.Absence) → k ≡ kinds.Leaf type absence → ⊥)
    → ((type : code_type.LeafType) (defaults : Vec Val Global) (amount : code_amount.Amount) → k ≡ kinds.LeafList type defaults amount → ⊥)
    → times_used (instances_in end) [] (node n below end) number v ≡ 0
rest_unused number v n below (kinds.Container presence) is data_node container_not leaf_not list_not = absurd (container_not presence refl)
rest_unused number v n below (kinds.Leaf type absence) is data_node container_not leaf_not list_not = absurd (leaf_not type absence refl)
rest_unused number v n below (kinds.LeafList type defaults amount) is data_node container_not leaf_not list_not = absurd (list_not type defaults amount refl)
rest_unused number v n below (kinds.List tuples amount) is data_node container_not leaf_not list_not = at_kind number v n below (kind_view (kinds.List tuples amount)) is
rest_unused number v n below (kinds.Choice default_case flag) is data_node container_not leaf_not list_not = absurd (true≢false (sym data_node ∙ ap (λ kind. is_data kind) is))
rest_unused number v n below kinds.Case is data_node container_not leaf_not list_not = absurd (true≢false (sym data_node ∙ ap (λ kind. is_data kind) is))

-- of a stored node: its value, and the row below it
pub node_parts : (s : Schema) (st : Stored) (below t : Tree) (f : Forest SchemaNode) → f ≡ children_of s st.schema_number → t ≡ below → (number : ℕ) (v : Val)
    → times_of_node s st below number v ≡ own_value s st number v + times_of_row s f t number v
node_parts s st below t f f_is t_is number v =
    let row = ap₂ (λ (g : Forest SchemaNode) (u : Tree). times_of_row s g u number v) f_is t_is in
    omega (arith, row)

-- nothing is left of a row
pub stored_ended : (s : Schema) (t : Tree) (old now : Targets) (whole : Times) → t ≡ end → Still old now whole (left_times s t) → Gathers old now whole
stored_ended s t old now whole is so = still_none_left old now whole (left_times s t) so (λ number v. ap (weigh_nodes (times_at s number v)) is)

-- ---- the whole

-- at first nothing is held
pub nothing_held : (t : Targets) (number : ℕ) (v : Val) → t.sets.entries ≡ [] → holds t number v ≡ false
nothing_held t number v none = ap (λ (es : List (SchemaId × BTreeSet Val)). option_map_or (λ values. contains value_cmp values v) (lookup (λ (k : SchemaId). eqb k.0 number) es) false) none

pub nothing_kept : (t : Targets) (number : ℕ) → t.sets.entries ≡ [] → is_kept t number ≡ false
nothing_kept t number none = ap (λ (es : List (SchemaId × BTreeSet Val)). is_some (lookup (λ (k : SchemaId). eqb k.0 number) es)) none
