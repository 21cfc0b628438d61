-- A walk that takes from the front of a row in order finds the faults of the row.
use Rattle.std.proofs.Common.{◌≡◌, ℕ, ◌+◌, ◌≤◌, cond, eqb, ltb, List, [], ◌∷◌, ◌++◌, length, refl, sym, ap, ap₂, ◌∙◌, arith}
use Rattle.yspec.specs.Forest.{Forest, end, node, size}
use Rattle.yspec.specs.schema.Schema.{Schema, SchemaNode, Kind, container, leaf, leaf_list, list, choice, case, is_data}
use Rattle.yspec.specs.document.Document.{Stored, Tree, instances_in}
use Rattle.yspec.specs.document.Fault.{Fault}
use Rattle.yspec.specs.document.Play.{cases, stored_among, stored_cases, or_default}
use Rattle.yspec.specs.document.Instances.{tuple}
use Rattle.yspec.specs.document.Faults.{Times, RowTimes, own_faults, row_times}
use Rattle.yspec.specs.document.RowFaults.{each_instance, node_faults, row_faults}
use Rattle.yspec.specs.document.FrontFaults.{front_faults}
use Rattle.yspec.specs.document.Fitting.{IsNumbered}
use Rattle.yspec.specs.document.Sorting.{IsSorted, from_number, each_front}
use Rattle.yspec.proofs.DocumentProofs.CheckingRowLemmas.{count_each}
use Rattle.yspec.proofs.DocumentProofs.CursorLemmas.{left, each_is_front, sorted_left}

-- ---- what is left of a row says of later nodes what the row says

nothing : Stored → Tree → List Fault
nothing s b = []

count_left : (m k : ℕ) (t : Tree) → k ≤ m → instances_in (from_number k t) m ≡ instances_in t m
count_left m k t lower = count_each m nothing (from_number k t) ∙ (ap length (left m nothing t k lower) ∙ sym (count_each m nothing t))

among_left : (f : Forest SchemaNode) (j k : ℕ) (t : Tree) → IsNumbered j f → k ≤ j
    → stored_among (instances_in (from_number k t)) f ≡ stored_among (instances_in t) f
among_left end j k t numbered lower = refl
among_left (node n below after) j k t numbered lower = ap₂ ◌+◌
    (ap₂ (cond (is_data n.kind)) (count_left n.number k t (omega (arith, lower, numbered.0))) (among_left below (j + 1) k t numbered.1 (omega (arith, lower))))
    (among_left after (j + 1 + size below) k t numbered.2 (omega (arith, lower)))

cases_left : (f : Forest SchemaNode) (j k : ℕ) (t : Tree) → IsNumbered j f → k ≤ j
    → stored_cases (instances_in (from_number k t)) f ≡ stored_cases (instances_in t) f
cases_left end j k t numbered lower = refl
cases_left (node n below after) j k t numbered lower = ap₂ ◌++◌
    (ap (λ c. cond (ltb 0 c) (n.number ∷ []) []) (among_left below (j + 1) k t numbered.1 (omega (arith, lower))))
    (cases_left after (j + 1 + size below) k t numbered.2 (omega (arith, lower)))

chosen_left : (kind : Kind) (f : Forest SchemaNode) (j k : ℕ) (t : Tree) → IsNumbered j f → k ≤ j
    → cases (instances_in (from_number k t)) kind f ≡ cases (instances_in t) kind f
chosen_left (container presence) f j k t numbered lower = refl
chosen_left (leaf type absence) f j k t numbered lower = refl
chosen_left (leaf_list type defaults amount) f j k t numbered lower = refl
chosen_left (list tuples amount) f j k t numbered lower = refl
chosen_left (choice default_case is_mandatory) f j k t numbered lower = ap (or_default default_case) (cases_left f j k t numbered lower)
chosen_left case f j k t numbered lower = refl

module _ (times : Times) (schema : Schema) where
  faults_left : (f : Forest SchemaNode) (j k : ℕ) (row : RowTimes) (chosen : List ℕ) (t : Tree) → IsNumbered j f → k ≤ j
      → row_faults times schema row chosen f (from_number k t) ≡ row_faults times schema row chosen f t
  unfolding row_faults
  faults_left end j k row chosen t numbered lower = refl
  faults_left (node n below after) j k row chosen t numbered lower =
      let said = λ (s : Stored) (b : Tree). own_faults times row n n.kind s.value (tuple schema s b) ++ row_faults times schema (row_times schema b) [] below b in
      let implied = row_faults times schema (row_times schema end) [] below end in
      ap₂ ◌++◌
      (ap (λ (c : List ℕ). node_faults chosen n n.kind c (each_instance n.number said (from_number k t)) implied (row_faults times schema row (cases (instances_in (from_number k t)) n.kind below) below (from_number k t)))
      (cases_left below (j + 1) k t numbered.1 (omega (arith, lower)))
      ∙ (ap (λ (e : List (List Fault)). node_faults chosen n n.kind (stored_cases (instances_in t) below) e implied (row_faults times schema row (cases (instances_in (from_number k t)) n.kind below) below (from_number k t)))
      (left n.number said t k (omega (arith, lower, numbered.0)))
      ∙ ap (λ (i : List Fault). node_faults chosen n n.kind (stored_cases (instances_in t) below) (each_instance n.number said t) implied i)
      (ap (λ (c : List ℕ). row_faults times schema row c below (from_number k t)) (chosen_left n.kind below (j + 1) k t numbered.1 (omega (arith, lower)))
      ∙ faults_left below (j + 1) k row (cases (instances_in t) n.kind below) t numbered.1 (omega (arith, lower)))))
      (faults_left after (j + 1 + size below) k row chosen t numbered.2 (omega (arith, lower)))

  same_each : (number : ℕ) (said other : Stored → Tree → List Fault) (t : Tree) → IsSorted t
      → ((s : Stored) (b : Tree) → IsSorted b → said s b ≡ other s b) → each_front number said t ≡ each_front number other t
  same_each number said other end sorted same = refl
  same_each number said other (node s below after) sorted same = ap₂ (λ (fs : List Fault) (others : List (List Fault)). cond (eqb s.schema_number number) (fs ∷ others) [])
      (same s below sorted.1) (same_each number said other after sorted.2 same)

  front_is : (f : Forest SchemaNode) (j : ℕ) (row : RowTimes) (chosen : List ℕ) (t : Tree) → IsNumbered j f → IsSorted t
      → front_faults times schema row chosen f t ≡ row_faults times schema row chosen f t
  unfolding row_faults front_faults
  front_is end j row chosen t numbered sorted = refl
  front_is (node n below after) j row chosen t numbered sorted =
      let said = λ (s : Stored) (b : Tree). own_faults times row n n.kind s.value (tuple schema s b) ++ row_faults times schema (row_times schema b) [] below b in
      let walked = λ (s : Stored) (b : Tree). own_faults times row n n.kind s.value (tuple schema s b) ++ front_faults times schema (row_times schema b) [] below b in
      let rest = sorted_left t n.number sorted in
      let next = n.number + 1 + size below in
      ap₂ ◌++◌
      (ap (λ (e : List (List Fault)). node_faults chosen n n.kind (stored_cases (instances_in t) below) e (front_faults times schema (row_times schema end) [] below end) (front_faults times schema row (cases (instances_in t) n.kind below) below t))
      (same_each n.number walked said (from_number n.number t) rest.0
      (λ s b b_sorted. ap (λ (fs : List Fault). own_faults times row n n.kind s.value (tuple schema s b) ++ fs) (front_is below (j + 1) (row_times schema b) [] b numbered.1 b_sorted))
      ∙ sym (each_is_front n.number said t sorted))
      ∙ ap₂ (node_faults chosen n n.kind (stored_cases (instances_in t) below) (each_instance n.number said t))
      (front_is below (j + 1) (row_times schema end) [] end numbered.1 tt)
      (front_is below (j + 1) row (cases (instances_in t) n.kind below) t numbered.1 sorted))
      (front_is after (j + 1 + size below) row chosen (from_number next t) numbered.2 (sorted_left t next sorted).0
      ∙ faults_left after (j + 1 + size below) next row chosen t numbered.2 (omega (arith, numbered.0)))

  -- the faults of a row in order
  pub front_faults_are : (f : Forest SchemaNode) (j : ℕ) (row : RowTimes) (t : Tree) → IsNumbered j f → IsSorted t
      → front_faults times schema row [] f t ≡ row_faults times schema row [] f t
  front_faults_are f j row t numbered sorted = front_is f j row [] t numbered sorted
