-- Which instances have what another has too, as they lie and as the definitions count them.
use Rattle.std.proofs.Common.{◌≡◌, ℕ, suc, ◌+◌, ◌<◌, Bool, true, false, cond, eqb, ltb, List, [], ◌∷◌, ◌++◌, map, drop, length, get_or, Option, Some, None, refl, sym, ap, ap₂, ◌∙◌, arith, append_assoc}
use Rattle.std.proofs.lemmas.List.{map-append, get_or-map, length-map, at_drop_more}
use Rattle.std.proofs.lemmas.List.Sums.{sum_by-cons}
use Rattle.std.specs.Prelude.{Vec, ok_or, Result, Ok}
use Rattle.std.specs.Option.{option_map_or}
use Rattle.yspec.specs.Forest.{weigh_row}
use Rattle.yspec.specs.types.Types.{Raw, Val, YangType, taken, app_tag_of}
use Rattle.yspec.specs.types.Order.{same_value}
use Rattle.yspec.specs.schema.Schema.{Schema, Kind, container, leaf, leaf_list, list, choice, case, Tuples, LeafType, LeafPath}
use Rattle.yspec.specs.document.Document.{Stored, Tree}
use Rattle.yspec.specs.document.FaultCode.{V1, V11}
use Rattle.yspec.specs.document.Fault.{fault, plain_fault}
use Rattle.yspec.specs.document.Instances.{same_tuple}
use Rattle.yspec.specs.schema.References.{Reference, reference_in}
use Rattle.yspec.specs.document.Faults as document_faults
use Rattle.yspec.specs.document.Faults.{Times, reference_faults, value_faults}
use Rattle.yinst_tree.specs.View.{view, row_view}
use Rattle.yinst_tree.specs.declared.tree.Stored as tree
use Rattle.ycheck.specs.Repeated.{times_among, repeats, marks, values_of, tuples_of}
use Rattle.ycheck.specs.Walk.{lacks_instance, is_repeated, item_value, has_item_twice, entry_tuple, has_tuple_twice, tuples_twice, marks_of, tables_from, table_of, marks_at}

-- ---- one question

module _ {A : Type 0} (same : A → A → Bool) (h : Stored → Tree → Option A) where
  abbrev pub held : tree.Stored → Option A
  held s = h (view s).0 (view s).1

  -- as they lie, and in the row
  times_row : (xs : List tree.Stored) (x : A)
      → times_among same (map held xs) x ≡ weigh_row (λ r b. cond (option_map_or (same x) (h r b) false) 1 0) (row_view xs)
  times_row [] x = refl
  times_row (s ∷ ss) x = sum_by-cons (λ o. cond (option_map_or (same x) o false) 1 0) (held s) (map held ss)
      ∙ ap (λ n. cond (option_map_or (same x) (held s) false) 1 0 + n) (times_row ss x)

  repeated_row : (xs : List tree.Stored) (o : Option A)
      → repeats same (map held xs) o ≡ is_repeated (λ x. weigh_row (λ r b. cond (option_map_or (same x) (h r b) false) 1 0) (row_view xs)) o
  repeated_row xs None = refl
  repeated_row xs (Some x) = ap (ltb 1) (times_row xs x)

  pub marked : (xs : List tree.Stored) (i : ℕ) (s : tree.Stored) → i < length xs → s ≡ get_or xs i s
      → get_or (marks same (map held xs)) i false
      ≡ is_repeated (λ x. weigh_row (λ r b. cond (option_map_or (same x) (h r b) false) 1 0) (row_view xs)) (held s)
  marked xs i s within is = get_or-map (repeats same (map held xs)) (map held xs) i (held s) false (omega (arith, within, length-map xs held))
      ∙ (ap (repeats same (map held xs)) (get_or-map held xs i s (held s) within ∙ ap held (sym is)) ∙ repeated_row xs (held s))

-- ---- all questions

module _ (schema : Schema) (xs : List tree.Stored) (i : ℕ) (s : tree.Stored) (within : i < length xs) (is : s ≡ get_or xs i s) where
  entry_marked : (tuples : Tuples) (u v : ℕ) → u ≡ v → get_or (marks same_tuple (tuples_of schema tuples u xs)) i false ≡ has_tuple_twice schema tuples v (row_view xs) (view s).1
  entry_marked tuples u v same = marked same_tuple (λ r b. entry_tuple schema tuples u b) xs i s within is
      ∙ ap (λ k. has_tuple_twice schema tuples k (row_view xs) (view s).1) same

  entries_marked : (tuples : Tuples) (u v : ℕ) (uniques : List (List LeafPath)) → u ≡ v
      → marks_at i (tables_from schema tuples xs u uniques) ≡ tuples_twice schema tuples (row_view xs) (view s).1 v uniques
  entries_marked tuples u v [] same = refl
  entries_marked tuples u v (x ∷ rest) same = ap₂ ◌∷◌ (entry_marked tuples u v same) (entries_marked tuples (u + 1) (suc v) rest (omega (arith, same)))

  item_marked : (type : YangType) (distinct : Bool) → marks_at i (cond distinct (marks same_value (values_of type xs) ∷ []) []) ≡ cond distinct (has_item_twice type (row_view xs) (view s).0 ∷ []) []
  item_marked type true = ap (λ b. b ∷ []) (marked same_value (λ r b. item_value type r) xs i s within is)
  item_marked type false = refl

  -- the answers for one instance
  pub marks_are : (kind : Kind) (distinct : Bool) → marks_at i (table_of schema kind distinct xs) ≡ marks_of schema kind distinct (row_view xs) (view s).0 (view s).1
  marks_are (list tuples amount) distinct = ap₂ ◌∷◌ (entry_marked tuples 0 0 refl) (entries_marked tuples 1 1 tuples.uniques refl)
  marks_are (leaf_list type defaults amount) distinct = item_marked type.type distinct
  marks_are (container presence) distinct = refl
  marks_are (leaf type absence) distinct = refl
  marks_are (choice default_case is_mandatory) distinct = refl
  marks_are case distinct = refl

-- ---- the table of a list

-- one more question
pub next_table : {Z : Type 0} (schema : Schema) (tuples : Tuples) (found : List tree.Stored) (i : ℕ) (old new : List (Vec Bool Z)) (answers : Vec Bool Z) (whole : List (List Bool))
    → i < length tuples.uniques → answers.items ≡ marks same_tuple (tuples_of schema tuples (i + 1) found) → new ≡ old ++ answers ∷ []
    → map (λ a. a.items) old ++ tables_from schema tuples found (i + 1) (drop i tuples.uniques) ≡ whole
    → map (λ a. a.items) new ++ tables_from schema tuples found (i + 1 + 1) (drop (i + 1) tuples.uniques) ≡ whole
next_table {Z} schema tuples found i old new answers whole within are pushed so =
    let rest = tables_from schema tuples found (i + 1 + 1) (drop (i + 1) tuples.uniques) in
    ap (λ (vs : List (Vec Bool Z)). map (λ a. a.items) vs ++ rest) pushed
    ∙ (ap (λ (ls : List (List Bool)). ls ++ rest) (map-append (λ a. a.items) old (answers ∷ []))
    ∙ (append_assoc (map (λ a. a.items) old) (answers.items ∷ []) rest
    ∙ (ap (λ (l : List Bool). map (λ a. a.items) old ++ l ∷ rest) are
    ∙ (ap (λ (ls : List (List Bool)). map (λ a. a.items) old ++ ls) (sym (at_drop_more (tables_from schema tuples found (i + 1)) tuples.uniques i [] within)) ∙ so))))

-- ---- references

reference_is : (times : Times) (type : LeafType) (v : Val) → reference_faults times type v ≡ cond (lacks_instance times type v) (plain_fault V11 [] ∷ []) []
reference_is times type v = by (reference_in type v)
  where
    by : (o : Option Reference) → option_map_or (λ r. cond (document_faults.lacks_instance times r) (plain_fault V11 [] ∷ []) []) o []
        ≡ cond (option_map_or (document_faults.lacks_instance times) o false) (plain_fault V11 [] ∷ []) []
    by None = refl
    by (Some r) = refl

the_value : {E : Type 0} → (r : Result Val E) (w v : Val) → r ≡ Ok w → r ≡ Ok v → w ≡ v
the_value r w v first second = cc

-- of a value that a type takes
pub value_read : (times : Times) (type : LeafType) (raw : Raw) (v : Val) (lacks : Bool) → ok_or (taken type.type raw) (app_tag_of type.type raw) ≡ Ok v → lacks ≡ lacks_instance times type v
    → cond lacks (plain_fault V11 [] ∷ []) [] ≡ value_faults times type raw
value_read times type raw v lacks read is = by (taken type.type raw) read
  where
    by : (o : Option Val) → ok_or o (app_tag_of type.type raw) ≡ Ok v
        → cond lacks (plain_fault V11 [] ∷ []) [] ≡ option_map_or (reference_faults times type) o (fault V1 (app_tag_of type.type raw) [] ∷ [])
    by (Some w) e = ap (λ b. cond b (plain_fault V11 [] ∷ []) []) is
        ∙ (sym (reference_is times type v) ∙ sym (ap (reference_faults times type) (the_value (ok_or (Some w) (app_tag_of type.type raw)) w v refl e)))
    by None e = absurd cc
