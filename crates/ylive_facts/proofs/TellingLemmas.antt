-- What is told at a stored node is told by its keys.
use Rattle.std.proofs.Common.{◌≡◌, ℕ, suc, ◌+◌, Bool, true, false, cond, eqb, ltb, ◌&&◌, List, [], ◌∷◌, ◌++◌, length, Option, Some, None, refl, sym, ap, ap₂, ◌∙◌, arith}
use Rattle.std.specs.Prelude.{option_map, option_and_then}
use Rattle.std.specs.Option.{option_map_or}
use Rattle.std.proofs.lemmas.List.{append-nil}
use Rattle.yspec.specs.text.Text.{Text}
use Rattle.yspec.specs.types.Types.{Raw, Val, taken, app_tag_of}
use Rattle.yspec.specs.schema.Schema.{Schema, SchemaNode, Kind, container, leaf, leaf_list, list, choice, case, LeafType, LeafPath, has_value, type_in, node_at}
use Rattle.yspec.proofs.SchemaProofs.NumberLemmas.{number_at}
use Rattle.yspec.specs.document.Document.{Stored, Tree}
use Rattle.yspec.specs.document.FaultCode.{V1, V10, V11}
use Rattle.yspec.specs.document.Fault.{Fault, fault, plain_fault}
use Rattle.yspec.specs.document.Instances.{Tuple, tuple, kind_tuple, tuple_of_paths, paths_of, value_of, kind_value}
use Rattle.yspec.specs.schema.References.{Reference, reference_in}
use Rattle.yspec.specs.document.Faults.{Times, RowTimes, lacks_instance, reference_faults, value_faults, item_twice, tuple_fault, tuple_faults, own_faults, faults_at}
use Rattle.ycheck.specs.Walk.{marks_told, repetition}
use Rattle.ystore_rows.specs.declared.row.Row.{Row}
use Rattle.ylive_facts.specs.Judging.{Judged, right, wrong, missing, kind_judged}
use Rattle.ylive_facts.specs.Keys.{Key, value_key, item_key, tuple_key, required_key, leaf_key, kind_key, item_key_at, kind_flags}
use Rattle.ylive_facts.specs.Telling.{times_of, with_reference, is_shared, flags_from, judged_at, flags_at, judged_faults, told_faults}

module _ (times : Times) (row : RowTimes) where
  abbrev count : Key → ℕ
  count = times_of times row

  -- ---- a value

  missing_or : (b : Bool) → cond b (plain_fault V11 [] ∷ []) [] ≡ judged_faults (cond b missing right)
  missing_or true = refl
  missing_or false = refl

  reference_told : (o : Option Reference) → option_map_or (λ r. cond (lacks_instance times r) (plain_fault V11 [] ∷ []) []) o []
      ≡ judged_faults (with_reference count (option_and_then required_key o) right)
  reference_told None = refl
  reference_told (Some r) = by r.is_required
    where
      by : (b : Bool) → cond (b && eqb (times r.target r.value) 0) (plain_fault V11 [] ∷ []) []
          ≡ judged_faults (with_reference count (cond b (Some (value_key r.target r.value)) None) right)
      by true = missing_or (eqb (times r.target r.value) 0)
      by false = refl

  value_by : (type : LeafType) (tag : Option Text) (o : Option Val) → option_map_or (reference_faults times type) o (fault V1 tag [] ∷ [])
      ≡ judged_faults (with_reference count (option_and_then (leaf_key type) o) (option_map_or (λ v. right) o (wrong tag)))
  value_by type tag None = refl
  value_by type tag (Some v) = reference_told (reference_in type v)

  value_told : (type : LeafType) (value : Option Raw) → option_map_or (value_faults times type) value []
      ≡ judged_faults (with_reference count (option_and_then (leaf_key type) (option_and_then (taken type.type) value)) (kind_judged (Some type.type) value))
  value_told type None = refl
  value_told type (Some raw) = value_by type (app_tag_of type.type raw) (taken type.type raw)

  -- ---- flags

  item_told : (number : ℕ) (above : Row) (distinct : Bool) (o : Option Val)
      → cond distinct (option_map_or (λ v. cond (ltb 1 (row.items number v)) (plain_fault V10 [] ∷ []) []) o []) []
      ≡ marks_told true 0 (cond distinct (is_shared count (option_map (item_key above number) o) ∷ []) [])
  item_told number above true None = refl
  item_told number above true (Some v) = sym (append-nil (cond (ltb 1 (row.items number v)) (plain_fault V10 [] ∷ []) []))
  item_told number above false o = refl

  each_item : (number : ℕ) (above : Row) (type : LeafType) (n : SchemaNode) (value : Option Raw) → n.number ≡ number → option_map_or (item_twice row n type) value []
      ≡ marks_told true 0 (cond n.distinct_items (is_shared count (option_map (item_key above number) (option_and_then (taken type.type) value)) ∷ []) [])
  each_item number above type n None is = nothing n.distinct_items ∙ item_told number above n.distinct_items None
    where
      none : List Fault
      none = []

      nothing : (distinct : Bool) → none ≡ cond distinct none none
      nothing true = refl
      nothing false = refl
  each_item number above type n (Some raw) is =
      ap (λ k. cond n.distinct_items (option_map_or (λ v. cond (ltb 1 (row.items k v)) (plain_fault V10 [] ∷ []) []) (taken type.type raw) []) []) is
      ∙ item_told number above n.distinct_items (taken type.type raw)

  value_and_item : (type : LeafType) (n : SchemaNode) (value : Option Raw) → option_map_or (λ raw. value_faults times type raw ++ item_twice row n type raw) value []
      ≡ option_map_or (value_faults times type) value [] ++ option_map_or (item_twice row n type) value []
  value_and_item type n None = refl
  value_and_item type n (Some raw) = refl

  tuple_told : (number u : ℕ) (above : Row) (o : Option Tuple) → tuple_fault row number u o ≡ cond (is_shared count (option_map (tuple_key above number u) o)) (repetition false u ∷ []) []
  tuple_told number u above None = refl
  tuple_told number u above (Some vs) = refl

  tuples_told : (number : ℕ) (above : Row) (tuples : ℕ → Option Tuple) (u : ℕ) (xs : List (List LeafPath))
      → tuple_faults row number tuples u xs ≡ marks_told false u (flags_from (λ i. is_shared count (option_map (tuple_key above number i) (tuples i))) u (length xs))
  tuples_told number above tuples u [] = refl
  tuples_told number above tuples u (x ∷ xs) =
      let next : suc u ≡ u + 1 = omega arith in
      ap₂ ◌++◌ (tuple_told number u above (tuples u))
      (ap (λ k. tuple_faults row number tuples k xs) next ∙ tuples_told number above tuples (u + 1) xs)

  -- ---- a node

  module _ (schema : Schema) (above : Row) (s : Stored) (below : Tree) where
    abbrev value_as : Kind → Option Val
    value_as kind = option_and_then (kind_value kind) s.value

    abbrev judged_as : Kind → Judged
    judged_as kind = with_reference count (option_and_then (λ type. option_and_then (leaf_key type) (value_as kind)) (type_in kind))
        (kind_judged (option_map (λ (type : LeafType). type.type) (type_in kind)) s.value)

    abbrev flags_as : Bool → Kind → List Bool
    flags_as distinct kind = flags_from (λ u. is_shared count (kind_key schema distinct kind above s below u)) 0 (kind_flags distinct kind)

    item_flags : (distinct : Bool) (o : Option Val) → value_of schema s ≡ o
        → cond distinct (is_shared count (option_map (item_key above s.schema_number) o) ∷ []) [] ≡ flags_from (λ u. is_shared count (item_key_at schema distinct above s u)) 0 (cond distinct 1 0)
    item_flags true o is = ap (λ p. is_shared count (option_map (item_key above s.schema_number) p) ∷ []) (sym is)
    item_flags false o is = refl

    -- by its kind
    kind_told : (n : SchemaNode) (kind : Kind) → n.number ≡ s.schema_number → value_of schema s ≡ value_as kind
        → own_faults times row n kind s.value (kind_tuple schema kind below) ≡ judged_faults (judged_as kind) ++ marks_told (has_value kind) 0 (flags_as n.distinct_items kind)
    kind_told n (container presence) number value = refl
    kind_told n (leaf type absence) number value = value_told type s.value ∙ sym (append-nil (judged_faults (judged_as (leaf type absence))))
    kind_told n (leaf_list type defaults amount) number value =
        value_and_item type n s.value
        ∙ ap₂ ◌++◌ (value_told type s.value) (each_item s.schema_number above type n s.value number
        ∙ ap (marks_told true 0) (item_flags n.distinct_items (value_as (leaf_list type defaults amount)) value))
    kind_told n (list shape amount) number value =
        let tuples : ℕ → Option Tuple = λ u. tuple_of_paths schema below (paths_of shape u) in
        let is_set : ℕ → Bool = λ u. is_shared count (option_map (tuple_key above s.schema_number u) (tuples u)) in
        let all : suc (length shape.uniques) ≡ 1 + length shape.uniques = omega arith in
        ap (λ k. tuple_fault row k 0 (tuples 0) ++ tuple_faults row k tuples 1 shape.uniques) number
        ∙ (ap₂ ◌++◌ (tuple_told s.schema_number 0 above (tuples 0)) (tuples_told s.schema_number above tuples 1 shape.uniques)
        ∙ ap (λ k. marks_told false 0 (flags_from is_set 0 k)) all)
    kind_told n (choice default_case is_mandatory) number value = refl
    kind_told n case number value = refl

    judged_by_node : (n : SchemaNode) → node_at schema s.schema_number ≡ Some n → judged_at count schema s ≡ judged_as n.kind
    judged_by_node n e =
        ap (λ (o : Option SchemaNode). with_reference count
        (option_and_then (λ (m : SchemaNode). option_and_then (λ type. option_and_then (leaf_key type) (option_and_then (λ (m : SchemaNode). value_as m.kind) o)) (type_in m.kind)) o)
        (option_map_or (λ (m : SchemaNode). kind_judged (option_map (λ (type : LeafType). type.type) (type_in m.kind)) s.value) o right)) e

    flags_by_node : (n : SchemaNode) → node_at schema s.schema_number ≡ Some n → flags_at count schema above s below ≡ flags_as n.distinct_items n.kind
    flags_by_node n e =
        ap (λ (o : Option SchemaNode). flags_from (λ u. is_shared count (option_and_then (λ (m : SchemaNode). kind_key schema m.distinct_items m.kind above s below u) o)) 0
        (option_map_or (λ (m : SchemaNode). kind_flags m.distinct_items m.kind) o 0)) e

    tuple_by_node : (n : SchemaNode) → node_at schema s.schema_number ≡ Some n → tuple schema s below ≡ kind_tuple schema n.kind below
    tuple_by_node n e = ap (λ (o : Option SchemaNode). let f : ℕ → Option Tuple = λ u. option_and_then (λ (m : SchemaNode). kind_tuple schema m.kind below u) o in f) e

    value_by_node : (n : SchemaNode) → node_at schema s.schema_number ≡ Some n → value_of schema s ≡ value_as n.kind
    value_by_node n e = ap (option_and_then (λ (m : SchemaNode). value_as m.kind)) e

    by_node : (o : Option SchemaNode) → node_at schema s.schema_number ≡ o
        → option_map_or (λ (n : SchemaNode). own_faults times row n n.kind s.value (tuple schema s below)) o []
        ≡ option_map_or (λ (n : SchemaNode). told_faults n (judged_at count schema s) (flags_at count schema above s below)) o []
    by_node None e = refl
    by_node (Some n) e =
        ap (own_faults times row n n.kind s.value) (tuple_by_node n e)
        ∙ (kind_told n n.kind (number_at schema.nodes s.schema_number n e) (value_by_node n e)
        ∙ sym (ap₂ (told_faults n) (judged_by_node n e) (flags_by_node n e)))

    pub told_by_keys : faults_at times row schema s below
        ≡ option_map_or (λ (n : SchemaNode). told_faults n (judged_at count schema s) (flags_at count schema above s below)) (node_at schema s.schema_number) []
    told_by_keys = by_node (node_at schema s.schema_number) refl
