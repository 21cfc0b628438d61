-- What the walk tells are the faults of the document.
use Rattle.std.proofs.Common.{◌≡◌, ℕ, zero, suc, ◌+◌, ◌≤◌, Bool, true, false, cond, eqb, ltb, List, [], ◌∷◌, ◌++◌, map, length, drop, Option, Some, None, refl, sym, ap, ap₂, ◌∙◌, subst, arith, append_assoc, zero-add}
use Rattle.std.proofs.lemmas.Bool.{eqb-true}
use Rattle.std.proofs.lemmas.List.{append-nil}
use Rattle.std.specs.Prelude.{option_and_then}
use Rattle.std.specs.List.{flat_map}
use Rattle.std.specs.Option.{option_map_or}
use Rattle.yspec.specs.Forest.{Forest, end, node, size, weigh_row}
use Rattle.yspec.specs.types.Types.{Raw, Val, taken, app_tag_of}
use Rattle.yspec.specs.schema.Schema.{Schema, SchemaNode, Kind, container, leaf, leaf_list, list, choice, case, Tuples, Amount, LeafType, LeafPath, is_data, has_value, node_at}
use Rattle.yspec.specs.document.Document.{Stored, Tree, step_to, instances_in, instances}
use Rattle.yspec.specs.document.FaultCode.{V1, V10}
use Rattle.yspec.specs.document.Fault.{Fault, fault, plain_fault}
use Rattle.yspec.specs.document.Play.{cases, stored_cases, or_default, is_among}
use Rattle.yspec.specs.document.Instances.{Tuple, is_value, is_tuple, kind_value, kind_tuple, value_of, tuple, tuples_in, items_in}
use Rattle.yspec.specs.document.Faults.{Times, RowTimes, reference_faults, value_faults, item_twice, tuple_fault, tuple_faults, own_faults, under, at_positions, row_times}
use Rattle.yspec.specs.document.RowFaults.{each_instance, wrong_amount, wrong_choice, one_or, node_faults, row_faults}
use Rattle.yspec.specs.document.Fitting.{IsNumbered}
use Rattle.yspec.specs.document.Sorting.{StartsAt, IsSorted, from_number}
use Rattle.yspec.proofs.DocumentProofs.CursorLemmas.{sorted_left}
use Rattle.yspec.proofs.DocumentProofs.CheckingRowLemmas.{Has}
use Rattle.yinst_tree.specs.View.{row_view}
use Rattle.yinst_tree.specs.Walk.{front, mine, others}
use Rattle.yinst_tree.specs.declared.tree.Stored as tree
use Rattle.yinst_tree.proofs.WalkLemmas.{IsLeft, left_later, left_others, mine_left}
use Rattle.ycheck.specs.declared.cases.StoredCases.{StoredCases}
use Rattle.ycheck.specs.declared.cases.StoredCases.TheVariants as count
use Rattle.ycheck.specs.declared.cases.Chosen.{Chosen}
use Rattle.ycheck.specs.declared.cases.Chosen.TheVariants as variant
use Rattle.ycheck.specs.Cases.{chosen_from, how_many, is_chosen, Chooses}
use Rattle.ycheck.specs.Walk.{value_told, is_repeated, item_value, has_item_twice, entry_tuple, has_tuple_twice, tuples_twice, marks_of, repetition, marks_told, absent_told, each_told, each_of, instance_told, present_or, data_told, choice_told, inside_told, walked}
use Rattle.ycheck.proofs.CaseLemmas.{among_same, cases_same, counts_from, no_case, none_chosen, default_chosen, stored_chosen}

-- ---- each instance below its step

each_positions : (number position : ℕ) (each : List (List Fault)) → each_told true number position each ≡ at_positions number position each
each_positions number position [] = refl
each_positions number position (fs ∷ others) = ap (λ (xs : List Fault). map (under (record { schema_number = number; position = Some position })) fs ++ xs) (each_positions number (position + 1) others)

each_one : (number position : ℕ) (each : List (List Fault)) → each_told false number position each ≡ flat_map (map (under (step_to number))) each
each_one number position [] = refl
each_one number position (fs ∷ others) = ap (λ (xs : List Fault). map (under (step_to number)) fs ++ xs) (each_one number (position + 1) others)

length_each : {A B : Type 0} (f : Stored → Tree → A) (g : Stored → Tree → B) (t : Tree) → length (each_of f t) ≡ length (each_of g t)
length_each f g end = refl
length_each f g (node s below after) = ap suc (length_each f g after)

-- ---- counts of one schema node's instances

module _ (m : ℕ) where
  count_own : (w v : Stored → Tree → ℕ) (t : Tree) → ((s : Stored) (b : Tree) → s.schema_number ≡ m → w s b ≡ v s b)
      → weigh_row v (instances m t) ≡ weigh_row (λ s b. cond (eqb s.schema_number m) (w s b) 0) t
  count_own w v end same = refl
  count_own w v (node s below after) same = by (eqb s.schema_number m) refl (count_own w v after same)
    where
      by : (b : Bool) → eqb s.schema_number m ≡ b → weigh_row v (instances m after) ≡ weigh_row (λ s b. cond (eqb s.schema_number m) (w s b) 0) after
          → weigh_row v (cond b (node s below (instances m after)) (instances m after)) ≡ cond b (w s below) 0 + weigh_row (λ s b. cond (eqb s.schema_number m) (w s b) 0) after
      by true is h = ap₂ ◌+◌ (sym (same s below (eqb-true s.schema_number m is))) h
      by false is h = h ∙ sym (zero-add (weigh_row (λ s b. cond (eqb s.schema_number m) (w s b) 0) after))

  -- what is said of each of them
  each_same : (said other : Stored → Tree → List Fault) (t : Tree) → IsSorted t → ((s : Stored) (b : Tree) → s.schema_number ≡ m → IsSorted b → said s b ≡ other s b)
      → each_instance m said t ≡ each_of other (instances m t)
  each_same said other end sorted same = refl
  each_same said other (node s below after) sorted same = by (eqb s.schema_number m) refl (each_same said other after sorted.2 same)
    where
      by : (b : Bool) → eqb s.schema_number m ≡ b → each_instance m said after ≡ each_of other (instances m after)
          → cond b (said s below ∷ each_instance m said after) (each_instance m said after) ≡ each_of other (cond b (node s below (instances m after)) (instances m after))
      by true is h = ap₂ ◌∷◌ (same s below (eqb-true s.schema_number m is) sorted.1) h
      by false is h = h

-- ---- values

-- the references of a type are judged the same
abbrev pub Agree : Times → Times → Kind → Type 0
Agree told times (leaf type absence) = (v : Val) → reference_faults told type v ≡ reference_faults times type v
Agree told times (leaf_list type defaults amount) = (v : Val) → reference_faults told type v ≡ reference_faults times type v
Agree told times _ = Unit {0}

abbrev pub AllAgree : Times → Times → Forest SchemaNode → Type 0
AllAgree told times end = Unit {0}
AllAgree told times (node n below after) = Agree told times n.kind × AllAgree told times below × AllAgree told times after

module _ (told times : Times) where
  raw_same : (type : LeafType) → ((v : Val) → reference_faults told type v ≡ reference_faults times type v) → (raw : Raw) → value_faults told type raw ≡ value_faults times type raw
  raw_same type same raw = by (taken type.type raw)
    where
      by : (o : Option Val) → option_map_or (reference_faults told type) o (fault V1 (app_tag_of type.type raw) [] ∷ [])
          ≡ option_map_or (reference_faults times type) o (fault V1 (app_tag_of type.type raw) [] ∷ [])
      by None = refl
      by (Some v) = same v

  value_same : (type : LeafType) → ((v : Val) → reference_faults told type v ≡ reference_faults times type v) → (value : Option Raw)
      → option_map_or (value_faults told type) value [] ≡ option_map_or (value_faults times type) value []
  value_same type same None = refl
  value_same type same (Some raw) = raw_same type same raw

-- ---- tuples and items

tuple_marked : (row : RowTimes) (number u : ℕ) (o : Option Tuple) → tuple_fault row number u o ≡ cond (is_repeated (row.tuples number u) o) (repetition false u ∷ []) []
tuple_marked row number u None = refl
tuple_marked row number u (Some vs) = refl

repeated_same : {A : Type 0} (f g : A → ℕ) (o p : Option A) → ((x : A) → f x ≡ g x) → o ≡ p → is_repeated f o ≡ is_repeated g p
repeated_same {A} f g o p same is = by o ∙ ap (is_repeated g) is
  where
    by : (o : Option A) → is_repeated f o ≡ is_repeated g o
    by None = refl
    by (Some x) = ap (ltb 1) (same x)

-- what the walk asks of the instances of a schema node, against what is asked of the row
module _ (told times : Times) (schema : Schema) (n : SchemaNode) (t : Tree) where
  abbrev HasTuples : Kind → Type 0
  HasTuples kind = (s : Stored) (b : Tree) (u : ℕ) → s.schema_number ≡ n.number → tuple schema s b u ≡ kind_tuple schema kind b u

  abbrev HasValues : Kind → Type 0
  HasValues kind = (s : Stored) → s.schema_number ≡ n.number → value_of schema s ≡ option_and_then (kind_value kind) s.value

  abbrev found : Tree
  found = instances n.number t

  tuple_same : (tuples : Tuples) (amount : Amount) → HasTuples (list tuples amount) → (s : Stored) (b : Tree) (u : ℕ) → s.schema_number ≡ n.number
      → is_repeated (tuples_in schema t n.number u) (tuple schema s b u) ≡ has_tuple_twice schema tuples u found b
  tuple_same tuples amount has s b u same = repeated_same (tuples_in schema t n.number u)
      (λ vs. weigh_row (λ r c. cond (is_tuple vs (entry_tuple schema tuples u c)) 1 0) found) (tuple schema s b u) (entry_tuple schema tuples u b)
      (λ vs. sym (count_own n.number (λ r c. cond (is_tuple vs (tuple schema r c u)) 1 0) (λ r c. cond (is_tuple vs (entry_tuple schema tuples u c)) 1 0) t
      (λ r c is. ap (λ o. cond (is_tuple vs o) 1 0) (has r c u is)))) (has s b u same)

  tuple_told : (tuples : Tuples) (amount : Amount) → HasTuples (list tuples amount) → (s : Stored) (b : Tree) (u : ℕ) → s.schema_number ≡ n.number
      → tuple_fault (row_times schema t) n.number u (tuple schema s b u) ≡ cond (has_tuple_twice schema tuples u found b) (repetition false u ∷ []) []
  tuple_told tuples amount has s b u same = tuple_marked (row_times schema t) n.number u (tuple schema s b u)
      ∙ ap (λ c. cond c (repetition false u ∷ []) []) (tuple_same tuples amount has s b u same)

  tuples_told : (tuples : Tuples) (amount : Amount) → HasTuples (list tuples amount) → (s : Stored) (b : Tree) (u v : ℕ) (uniques : List (List LeafPath)) → u ≡ v → s.schema_number ≡ n.number
      → tuple_faults (row_times schema t) n.number (tuple schema s b) u uniques ≡ marks_told false v (tuples_twice schema tuples found b u uniques)
  tuples_told tuples amount has s b u v [] is same = refl
  tuples_told tuples amount has s b u v (x ∷ xs) is same = ap₂ ◌++◌
      (tuple_told tuples amount has s b u same ∙ ap (λ k. cond (has_tuple_twice schema tuples u found b) (repetition false k ∷ []) []) is)
      (tuples_told tuples amount has s b (suc u) (v + 1) xs (omega (arith, is)) same)

  item_same : (type : LeafType) (defaults : List Val) (amount : Amount) → HasValues (leaf_list type defaults amount) → (v : Val)
      → items_in schema t n.number v ≡ weigh_row (λ r c. cond (is_value v (item_value type.type r)) 1 0) found
  item_same type defaults amount has v = sym (count_own n.number (λ r c. cond (is_value v (value_of schema r)) 1 0) (λ r c. cond (is_value v (item_value type.type r)) 1 0) t
      (λ r c is. ap (λ o. cond (is_value v o) 1 0) (has r is)))

  item_told : (type : LeafType) (defaults : List Val) (amount : Amount) → HasValues (leaf_list type defaults amount) → (raw : Raw) (s : Stored) → s.value ≡ Some raw
      → item_twice (row_times schema t) n type raw ≡ marks_told true 0 (cond n.distinct_items (has_item_twice type.type found s ∷ []) [])
  item_told type defaults amount has raw s is = by n.distinct_items (taken type.type raw)
      ∙ ap (λ (value : Option Raw). marks_told true 0 (cond n.distinct_items (is_repeated counted (option_and_then (taken type.type) value) ∷ []) [])) (sym is)
    where
      counted : Val → ℕ
      counted = λ v. weigh_row (λ r c. cond (is_value v (item_value type.type r)) 1 0) found

      by : (distinct : Bool) (o : Option Val)
          → cond distinct (option_map_or (λ v. cond (ltb 1 (items_in schema t n.number v)) (plain_fault V10 [] ∷ []) []) o []) []
          ≡ marks_told true 0 (cond distinct (is_repeated counted o ∷ []) [])
      by false o = refl
      by true None = refl
      by true (Some v) = ap (λ c. cond (ltb 1 c) (plain_fault V10 [] ∷ []) []) (item_same type defaults amount has v)
          ∙ sym (append-nil (cond (ltb 1 (counted v)) (plain_fault V10 [] ∷ []) []))

  -- the faults of its own that an instance has
  own_told : (kind : Kind) → HasTuples kind → HasValues kind → Agree told times kind → (s : Stored) (b : Tree) → s.schema_number ≡ n.number
      → own_faults times (row_times schema t) n kind s.value (tuple schema s b)
      ≡ value_told told kind s.value ++ marks_told (has_value kind) 0 (marks_of schema kind n.distinct_items found s b)
  own_told (container presence) tuples values agree s b same = refl
  own_told (leaf type absence) tuples values agree s b same = sym (append-nil _ ∙ value_same told times type agree s.value)
  own_told (leaf_list type defaults amount) tuples values agree s b same = by s.value refl
    where
      twice : List Fault
      twice = marks_told true 0 (cond n.distinct_items (has_item_twice type.type found s ∷ []) [])

      by : (value : Option Raw) → s.value ≡ value
          → option_map_or (λ raw. value_faults times type raw ++ item_twice (row_times schema t) n type raw) value [] ≡ option_map_or (value_faults told type) value [] ++ twice
      by (Some raw) is = ap₂ ◌++◌ (sym (raw_same told times type agree raw)) (item_told type defaults amount values raw s is)
      by None is = none n.distinct_items ∙ ap (λ (value : Option Raw). marks_told true 0 (cond n.distinct_items (is_repeated counted (option_and_then (taken type.type) value) ∷ []) [])) (sym is)
        where
          counted : Val → ℕ
          counted = λ v. weigh_row (λ r c. cond (is_value v (item_value type.type r)) 1 0) found

          none : (distinct : Bool) → [] ≡ marks_told true 0 (cond distinct (is_repeated counted None ∷ []) [])
          none true = refl
          none false = refl
  own_told (list shape amount) tuples values agree s b same =
      ap₂ ◌++◌ (tuple_told shape amount tuples s b 0 same) (tuples_told shape amount tuples s b 1 1 shape.uniques refl same)
  own_told (choice default_case is_mandatory) tuples values agree s b same = refl
  own_told case tuples values agree s b same = refl

-- ---- one schema node

present_one : (number : ℕ) (absent : List Fault) (said : Stored → Tree → List Fault) (t : Tree)
    → one_or number absent (each_of said t) ≡ present_or t absent (each_told false number 1 (each_of said t))
present_one number absent said end = refl
present_one number absent said (node s below after) = sym (each_one number 1 (each_of said (node s below after)))

present_each : (number : ℕ) (said : Stored → Tree → List Fault) (t : Tree)
    → at_positions number 1 (each_of said t) ≡ present_or t [] (each_told true number 1 (each_of said t))
present_each number said end = refl
present_each number said (node s below after) = sym (each_positions number 1 (each_of said (node s below after)))

many_told : (number : ℕ) (amount : Amount) (said : Stored → Tree → List Fault) (t : Tree) (each : List (List Fault)) → each ≡ each_of said t
    → wrong_amount number amount (length each) ++ at_positions number 1 each
    ≡ wrong_amount number amount (length (each_of (λ s b. s) t)) ++ present_or t [] (each_told true number 1 (each_of said t))
many_told number amount said t each is = ap (λ (e : List (List Fault)). wrong_amount number amount (length e) ++ at_positions number 1 e) is
    ∙ ap₂ ◌++◌ (ap (wrong_amount number amount) (length_each said (λ s b. s) t)) (present_each number said t)

-- of a data node
data_is : (told : Times) (schema : Schema) (chosen : List ℕ) (n : SchemaNode) (kind : Kind) (stored : List ℕ) (each : List (List Fault)) (implied within : List Fault) (inside : Tree → List Fault) (found : Tree)
    → is_data kind ≡ true → each ≡ each_of (instance_told told schema n kind inside found) found → implied ≡ inside end
    → node_faults chosen n kind stored each implied within ≡ data_told told schema n kind inside found
data_is told schema chosen n (container presence) stored each implied within inside found is each_is implied_is =
    ap₂ (λ (e : List (List Fault)) (i : List Fault). one_or n.number (absent_told n.number (container presence) i) e) each_is implied_is
    ∙ present_one n.number (absent_told n.number (container presence) (inside end)) (instance_told told schema n (container presence) inside found) found
data_is told schema chosen n (leaf type absence) stored each implied within inside found is each_is implied_is =
    ap (one_or n.number (absent_told n.number (leaf type absence) (inside end))) each_is
    ∙ present_one n.number (absent_told n.number (leaf type absence) (inside end)) (instance_told told schema n (leaf type absence) inside found) found
data_is told schema chosen n (leaf_list type defaults amount) stored each implied within inside found is each_is implied_is =
    many_told n.number amount (instance_told told schema n (leaf_list type defaults amount) inside found) found each each_is
data_is told schema chosen n (list tuples amount) stored each implied within inside found is each_is implied_is =
    many_told n.number amount (instance_told told schema n (list tuples amount) inside found) found each each_is
data_is told schema chosen n (choice default_case is_mandatory) stored each implied within inside found is each_is implied_is = absurd cc
data_is told schema chosen n case stored each implied within inside found is each_is implied_is = absurd cc

choice_is : (n : SchemaNode) (is_mandatory : Bool) (stored : List ℕ) → wrong_choice n is_mandatory stored ≡ choice_told n.name is_mandatory (how_many stored)
choice_is n is_mandatory [] = refl
choice_is n is_mandatory (first ∷ []) = refl
choice_is n is_mandatory (first ∷ second ∷ more) = refl

-- the chosen cases of a choice
chosen_is : (stored : ℕ → ℕ) (default_case : Option ℕ) (f : Forest SchemaNode) (k : ℕ) → IsNumbered k f
    → Chooses (chosen_from default_case (how_many (stored_cases stored f))) stored (or_default default_case (stored_cases stored f)) f
chosen_is stored default_case f k numbered = by default_case (how_many (stored_cases stored f)) refl
  where
    by : (d : Option ℕ) (c : StoredCases) → c ≡ how_many (stored_cases stored f) → Chooses (chosen_from d c) stored (or_default d (stored_cases stored f)) f
    by None count.Zero is = none_chosen stored f is
    by (Some number) count.Zero is = default_chosen stored (record { 0 = number }) f is
    by None count.One is = stored_chosen stored None count.One f k (λ e. absurd cc) numbered is
    by None count.Several is = stored_chosen stored None count.Several f k (λ e. absurd cc) numbered is
    by (Some number) count.One is = stored_chosen stored (Some number) count.One f k (λ e. absurd cc) numbered is
    by (Some number) count.Several is = stored_chosen stored (Some number) count.Several f k (λ e. absurd cc) numbered is

-- ---- what is left

count_left : (j m : ℕ) (rest t : Tree) → j ≤ m → IsLeft j rest t → instances_in rest m ≡ instances_in t m
count_left j m rest t lower left = sym (counts_from m m rest (omega arith)) ∙ (ap (λ u. instances_in u m) (left m lower) ∙ counts_from m m t (omega arith))

choice_left : (c : Chosen) (number : ℕ) (f : Forest SchemaNode) (k : ℕ) (rest t : Tree) → IsNumbered k f → IsLeft k rest t
    → is_chosen c (instances_in rest) number f ≡ is_chosen c (instances_in t) number f
choice_left variant.NoCase number f k rest t numbered left = refl
choice_left variant.EachStored number f k rest t numbered left =
    ap (ltb 0) (among_same f k (instances_in rest) (instances_in t) numbered (λ m from. count_left k m rest t from left))
choice_left (variant.Only id) number f k rest t numbered left = refl

-- the instances of a node are in order as the row is
starts_front : (m k : ℕ) (t : Tree) → StartsAt k t → StartsAt k (front m t)
starts_front m k end starts = tt
starts_front m k (node s below after) starts = by (eqb s.schema_number m)
  where
    by : (b : Bool) → StartsAt k (cond b (node s below (front m after)) end)
    by true = starts
    by false = tt

sorted_front : (m : ℕ) (t : Tree) → IsSorted t → IsSorted (front m t)
sorted_front m end sorted = tt
sorted_front m (node s below after) sorted = by (eqb s.schema_number m) (sorted_front m after sorted.2)
  where
    by : (b : Bool) → IsSorted (front m after) → IsSorted (cond b (node s below (front m after)) end)
    by true h = (starts_front m s.schema_number after sorted.0, sorted.1, h)
    by false h = tt

pub sorted_mine : (m : ℕ) (t : Tree) → IsSorted t → IsSorted (mine m t)
sorted_mine m t sorted = sorted_front m (from_number m t) (sorted_left t m sorted).0

sorted_drop : (row : List tree.Stored) (i : ℕ) → IsSorted (row_view row) → IsSorted (row_view (drop i row))
sorted_drop row zero sorted = sorted
sorted_drop [] (suc i) sorted = tt
sorted_drop (x ∷ xs) (suc i) sorted = sorted_drop xs i sorted.2

-- what stands below a node of a row
pub sorted_at : (row : List tree.Stored) (i : ℕ) (s : Stored) (below after : Tree) → row_view (drop i row) ≡ node s below after → IsSorted (row_view row) → IsSorted below
sorted_at row i s below after is sorted = let so : IsSorted (node s below after) = subst IsSorted is (sorted_drop row i sorted) in so.1

-- ---- as the code goes

pub length_row : (row : List tree.Stored) → length row ≡ length (each_of (λ s b. s) (row_view row))
length_row [] = refl
length_row (x ∷ xs) = ap suc (length_row xs)

pub present_some : (row : List tree.Stored) (absent present : List Fault) → eqb (length row) 0 ≡ false → present ≡ present_or (row_view row) absent present
present_some [] absent present some = absurd cc
present_some (x ∷ xs) absent present some = refl

pub choice_inside : (n : SchemaNode) (kind : Kind) (c : Chosen) (below : Forest SchemaNode) (inside : Chosen → Tree → List Fault) (rest : Tree) (default_case : Option ℕ) (is_mandatory : Bool)
    → kind ≡ choice default_case is_mandatory
    → choice_told n.name is_mandatory (how_many (stored_cases (instances_in rest) below)) ++ inside (chosen_from default_case (how_many (stored_cases (instances_in rest) below))) rest
    ≡ inside_told n kind c below inside rest
choice_inside n kind c below inside rest default_case is_mandatory is = ap (λ k. inside_told n k c below inside rest) (sym is)

pub container_absent : (number : ℕ) (kind : Kind) (implied : List Fault) → kind ≡ container false → map (under (step_to number)) implied ≡ absent_told number kind implied
container_absent number kind implied is = ap (λ k. absent_told number k implied) (sym is)

pub no_row : (told : Times) (schema : Schema) (c : Chosen) (f : Forest SchemaNode) (rest : Tree) → f ≡ end → walked told schema c f rest ≡ []
unfolding walked
no_row told schema c f rest is = ap (λ g. walked told schema c g rest) is

-- the first schema node of a row, and then the others
pub next_walked : (told : Times) (schema : Schema) (c : Chosen) (f : Forest SchemaNode) (n : SchemaNode) (below after : Forest SchemaNode) (rest behind : Tree)
    → f ≡ node n below after → behind ≡ others n.number rest → walked told schema c f rest ≡ walked told schema c (node n below end) rest ++ walked told schema c after behind
unfolding walked
next_walked told schema c f n below after rest behind is behind_is = ap (λ g. walked told schema c g rest) is
    ∙ (ap (λ u. first ++ walked told schema c after u) (sym behind_is)
    ∙ ap (λ (fs : List Fault). fs ++ walked told schema c after behind) (sym (append-nil first)))
  where
    first : List Fault
    first = cond (is_data n.kind) (data_told told schema n n.kind (λ t. walked told schema variant.NoCase below t) (mine n.number rest))
        (inside_told n n.kind c below (λ d t. walked told schema d below t) (others n.number rest))

pub data_walked : (told : Times) (schema : Schema) (c : Chosen) (n : SchemaNode) (below : Forest SchemaNode) (rest here : Tree) → is_data n.kind ≡ true → here ≡ mine n.number rest
    → data_told told schema n n.kind (λ t. walked told schema variant.NoCase below t) here ≡ walked told schema c (node n below end) rest
unfolding walked
data_walked told schema c n below rest here is found_is = ap (data_told told schema n n.kind (λ t. walked told schema variant.NoCase below t)) found_is
    ∙ (ap (λ b. cond b (data_told told schema n n.kind (λ t. walked told schema variant.NoCase below t) (mine n.number rest))
    (inside_told n n.kind c below (λ d t. walked told schema d below t) (others n.number rest))) (sym is)
    ∙ sym (append-nil (cond (is_data n.kind) (data_told told schema n n.kind (λ t. walked told schema variant.NoCase below t) (mine n.number rest))
    (inside_told n n.kind c below (λ d t. walked told schema d below t) (others n.number rest)))))

pub inside_walked : (told : Times) (schema : Schema) (c : Chosen) (n : SchemaNode) (below : Forest SchemaNode) (rest behind : Tree) → is_data n.kind ≡ false → behind ≡ others n.number rest
    → inside_told n n.kind c below (λ d t. walked told schema d below t) behind ≡ walked told schema c (node n below end) rest
unfolding walked
inside_walked told schema c n below rest behind is behind_is = ap (inside_told n n.kind c below (λ d t. walked told schema d below t)) behind_is
    ∙ (ap (λ b. cond b (data_told told schema n n.kind (λ t. walked told schema variant.NoCase below t) (mine n.number rest))
    (inside_told n n.kind c below (λ d t. walked told schema d below t) (others n.number rest))) (sym is)
    ∙ sym (append-nil (cond (is_data n.kind) (data_told told schema n n.kind (λ t. walked told schema variant.NoCase below t) (mine n.number rest))
    (inside_told n n.kind c below (λ d t. walked told schema d below t) (others n.number rest)))))

-- ---- rows

module _ (told times : Times) (schema : Schema) where
  -- of a choice or a case
  inside_is : (chosen : List ℕ) (n : SchemaNode) (kind : Kind) (c : Chosen) (below : Forest SchemaNode) (k : ℕ) (rest t : Tree) (each : List (List Fault)) (implied : List Fault)
      → is_data kind ≡ false → IsNumbered k below → IsLeft k rest t → is_among chosen n.number ≡ is_chosen c (instances_in t) n.number below
      → ((d : Chosen) (numbers : List ℕ) → Chooses d (instances_in t) numbers below → walked told schema d below rest ≡ row_faults times schema (row_times schema t) numbers below t)
      → inside_told n kind c below (λ d u. walked told schema d below u) rest
      ≡ node_faults chosen n kind (stored_cases (instances_in t) below) each implied (row_faults times schema (row_times schema t) (cases (instances_in t) kind below) below t)
  inside_is chosen n (choice default_case is_mandatory) c below k rest t each implied is numbered left among so =
      let same = cases_same below k (instances_in rest) (instances_in t) numbered (λ m from. count_left k m rest t from left) in
      ap (λ ns. choice_told n.name is_mandatory (how_many ns) ++ walked told schema (chosen_from default_case (how_many ns)) below rest) same
      ∙ ap₂ ◌++◌ (sym (choice_is n is_mandatory (stored_cases (instances_in t) below)))
      (so (chosen_from default_case (how_many (stored_cases (instances_in t) below))) (or_default default_case (stored_cases (instances_in t) below))
      (chosen_is (instances_in t) default_case below k numbered))
  inside_is chosen n case c below k rest t each implied is numbered left among so =
      ap₂ (λ (b : Bool) (fs : List Fault). cond b fs []) (choice_left c n.number below k rest t numbered left ∙ sym among) (so variant.NoCase [] (no_case (instances_in t) below))
  inside_is chosen n (container presence) c below k rest t each implied is numbered left among so = absurd cc
  inside_is chosen n (leaf type absence) c below k rest t each implied is numbered left among so = absurd cc
  inside_is chosen n (leaf_list type defaults amount) c below k rest t each implied is numbered left among so = absurd cc
  inside_is chosen n (list tuples amount) c below k rest t each implied is numbered left among so = absurd cc

  -- the walk over a row of schema nodes, from what is left of the stored row
  pub walked_is : (f : Forest SchemaNode) (k : ℕ) (c : Chosen) (chosen : List ℕ) (t rest : Tree) → IsNumbered k f → Has schema f → AllAgree told times f
      → IsSorted t → IsLeft k rest t → Chooses c (instances_in t) chosen f
      → walked told schema c f rest ≡ row_faults times schema (row_times schema t) chosen f t
  unfolding walked row_faults
  walked_is end k c chosen t rest numbered has agree sorted left chooses = refl
  walked_is (node n below after) k c chosen t rest numbered has agree sorted left chooses =
      let here : IsLeft n.number rest t = λ m from. left m (omega (arith, from, numbered.0)) in
      let next = others n.number rest in
      let inside : Tree → List Fault = λ u. walked told schema variant.NoCase below u in
      let below_is : (u : Tree) → IsSorted u → inside u ≡ row_faults times schema (row_times schema u) [] below u =
      λ u sorted_u. walked_is below (k + 1) variant.NoCase [] u u numbered.1 has.2 agree.1 sorted_u (λ m from. refl) (no_case (instances_in u) below) in
      let said : Stored → Tree → List Fault = λ s b. own_faults times (row_times schema t) n n.kind s.value (tuple schema s b) ++ row_faults times schema (row_times schema b) [] below b in
      let is_said : (s : Stored) (b : Tree) → s.schema_number ≡ n.number → IsSorted b → said s b ≡ instance_told told schema n n.kind inside (instances n.number t) s b =
      λ s b same sorted_b. ap₂ ◌++◌ (own_told told times schema n t n.kind
      (λ s b u is. ap (λ j. option_and_then (λ x. kind_tuple schema x.kind b u) (node_at schema j)) is ∙ ap (λ o. option_and_then (λ x. kind_tuple schema x.kind b u) o) has.0)
      (λ s is. ap (λ j. option_and_then (λ x. option_and_then (kind_value x.kind) s.value) (node_at schema j)) is ∙ ap (λ o. option_and_then (λ x. option_and_then (kind_value x.kind) s.value) o) has.0)
      agree.0 s b same) (sym (below_is b sorted_b))
      ∙ append_assoc (value_told told n.kind s.value) (marks_told (has_value n.kind) 0 (marks_of schema n.kind n.distinct_items (instances n.number t) s b)) (inside b) in
      let each = each_same n.number said (instance_told told schema n n.kind inside (instances n.number t)) t sorted is_said in
      let of_data : is_data n.kind ≡ true → data_told told schema n n.kind inside (mine n.number rest)
      ≡ node_faults chosen n n.kind (stored_cases (instances_in t) below) (each_instance n.number said t) (row_faults times schema (row_times schema end) [] below end)
      (row_faults times schema (row_times schema t) (cases (instances_in t) n.kind below) below t) =
      λ is. ap (data_told told schema n n.kind inside) (mine_left n.number rest t sorted here)
      ∙ sym (data_is told schema chosen n n.kind (stored_cases (instances_in t) below) (each_instance n.number said t) (row_faults times schema (row_times schema end) [] below end)
      (row_faults times schema (row_times schema t) (cases (instances_in t) n.kind below) below t) inside (instances n.number t) is each (sym (below_is end tt))) in
      let behind = left_others n.number (k + 1) rest t (omega (arith, numbered.0)) here in
      let other : is_data n.kind ≡ false → inside_told n n.kind c below (λ d u. walked told schema d below u) next
      ≡ node_faults chosen n n.kind (stored_cases (instances_in t) below) (each_instance n.number said t) (row_faults times schema (row_times schema end) [] below end)
      (row_faults times schema (row_times schema t) (cases (instances_in t) n.kind below) below t) =
      λ is. inside_is chosen n n.kind c below (k + 1) next t (each_instance n.number said t) (row_faults times schema (row_times schema end) [] below end) is numbered.1 behind chooses.0
      (λ d numbers d_chooses. walked_is below (k + 1) d numbers t next numbered.1 has.2 agree.1 sorted behind d_chooses) in
      ap₂ ◌++◌ (by (is_data n.kind) refl of_data other)
      (walked_is after (k + 1 + size below) c chosen t next numbered.2 has.3 agree.2 sorted (left_later (k + 1) (k + 1 + size below) next t (omega arith) behind) chooses.1)
    where
      by : {x y z : List Fault} → (b : Bool) → is_data n.kind ≡ b → (is_data n.kind ≡ true → x ≡ z) → (is_data n.kind ≡ false → y ≡ z) → cond b x y ≡ z
      by true is first second = first is
      by false is first second = second is
