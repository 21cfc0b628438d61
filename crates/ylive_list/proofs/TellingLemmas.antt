-- What a store lists, where it holds of each node what is told there, are the faults of its document.
use Rattle.std.proofs.Common.{◌≡◌, ℕ, zero, suc, ◌+◌, ◌≤◌, Bool, true, false, cond, eqb, ltb, List, [], ◌∷◌, ◌++◌, length, Option, Some, None, Result, Ok, Err, IfOk, refl, sym, ap, ap₂, ◌∙◌, arith, length-append, ◌&&◌}
use Rattle.std.proofs.lemmas.Bool.{eqb-true}
use Rattle.std.proofs.lemmas.List.{append-nil, length-map}
use Rattle.std.specs.Option.{option_map_or}
use Rattle.std.specs.Prelude.{sum_by, option_map, option_and_then, get_or, unwrap_or}
use Rattle.std.proofs.lemmas.List.Sums.{sum_by-cons}
use Rattle.ystore.specs.Held.{Held}
use Rattle.ystore_rows.specs.Rows.{Child}
use Rattle.ystore.specs.declared.record.Judged.{Judged}
use Rattle.ystore.specs.declared.record.Judged.TheVariants.{Right, Wrong, Missing}
use Rattle.std.proofs.lemmas.Option.{slice_get_past}
use Rattle.yspec.specs.document.Document.{Stored, Tree}
use Rattle.yspec.specs.Forest.{end, node, size, levels}
use Rattle.yspec.specs.types.Types.{Raw, Val, taken}
use Rattle.yspec.specs.schema.Schema.{Schema, SchemaNode, Kind, container, leaf, leaf_list, list, choice, case, LeafPath, has_value, children_of, node_at, Tuples, Amount}
use Rattle.yspec.specs.document.Fault.{Fault, fault_with, plain_fault}
use Rattle.yspec.specs.document.FaultCode.{V10}
use Rattle.yspec.specs.document.Instances.{Tuple, tuple, times_in, kind_tuple, tuple_of_paths}
use Rattle.yspec.specs.document.Faults.{Times, RowTimes, Told, row_times, own_faults, faults_at, faults_of, value_faults, tuple_info, tuple_code, tuple_fault, tuple_faults}
use Rattle.yspec.specs.document.Fitting.{IsNumbered, Fits}
use Rattle.yschema_model.specs.View as schema_view
use Rattle.yschema_model.specs.declared.schema.Schema as rust
use Rattle.yschema_model.proofs.CallerLemmas.{numbered}
use Rattle.ycheck.specs.Walk.{value_told, marks_told, repetition}
use Rattle.yspec_fit.specs.Fit.{CasesInChoices}
use Rattle.yspec_play.specs.Merging.{merged, absences_below, listed_in, listed, told_at, told_count}
use Rattle.yspec_play.proofs.ListLemmas.{documents_listed, merged_counted, listed_counted}
use Rattle.yspec_fit.proofs.FitLemmas.{cases_of}
use Rattle.ystore.specs.Store.{same_at, total_at, node_count, held_at, play_at}
use Rattle.ystore_rows.specs.declared.row.Row.{Row}
use Rattle.ystore_rows.specs.declared.row.Row.TheVariants.{Top, Below}
use Rattle.ystore.specs.declared.nodes.Nodes.{Nodes}
use Rattle.ystore_tree.specs.Hanging.{Numbered, Branches, child_of, children_of as children_in, stored_of, tree_of, Stands, Hangs}
use Rattle.ystore_tree.proofs.HangingLemmas as hanging
use Rattle.ystore_tree.proofs.CopyLemmas.{levels_within}
use Rattle.ylive_list.specs.Listed.{judged_at, judged_told, own_told, told_from, told_below, children_told, list_told, absence_of, is_item}
use Rattle.ylive_list.specs.Telling.{is_twice, are_twice, same_of, TellsBelow, Tells, is_told, number_of, number_at, all_told, AreTotals, TellsAt, is_same}

-- ---- a child that has no fault

nothing_told : (fs : List Fault) (total : ℕ) (b : Bool) → eqb total 0 ≡ b → total ≡ length fs → cond b [] fs ≡ fs
nothing_told [] total true none counted = refl
nothing_told (f ∷ fs) total true none counted = let zero = eqb-true total 0 none in absurd (omega (arith, zero, counted))
nothing_told fs total false some counted = refl

-- ---- how many are told

length-marks : (is_item : Bool) (which : ℕ) (marks : List Bool) → length (marks_told is_item which marks) ≡ sum_by (λ m. cond m 1 0) marks
length-marks is_item which [] = refl
length-marks is_item which (m ∷ marks) =
    length-append (cond m (repetition is_item which ∷ []) []) (marks_told is_item (which + 1) marks)
    ∙ (ap₂ ◌+◌ (one m) (length-marks is_item (which + 1) marks) ∙ sym (sum_by-cons (λ m. cond m 1 0) m marks))
  where
    one : (m : Bool) → length (cond m (repetition is_item which ∷ []) []) ≡ cond m 1 0
    one true = refl
    one false = refl

length-judged : (j : Judged) → length (judged_told j) ≡ cond (is_told j) 1 0
length-judged Right = refl
length-judged (Wrong app_tag) = refl
length-judged Missing = refl

number_is : (schema : Schema) (nodes : Nodes) (child : Child)
    → number_at nodes (Below child.1) ≡ length (own_told schema nodes child) + length (play_at nodes (Below child.1))
number_is schema nodes child = by (held_at nodes (Below child.1)) (is_item schema child.0.0)
  where
    by : (o : Option Held) (b : Bool) → option_map_or number_of (option_map (λ h. h.told) o) 0
        ≡ length (option_map_or judged_told (option_map (λ h. h.told.judged) o) [] ++ marks_told b 0 (option_map_or (λ h. h.told.same) o []))
        + length (option_map_or (λ h. h.told.play) o [])
    by None b = omega arith
    by (Some h) b =
        let first = length-judged h.told.judged in
        let second = length-marks b 0 h.told.same in
        let both = length-append (judged_told h.told.judged) (marks_told b 0 h.told.same) in
        omega (arith, first, second, both)

-- ---- a document

module _ (schema : Schema) (nodes : Nodes) (times : Times) where
  node_number : (row : RowTimes) (n : Numbered) (below : Branches) → TellsAt times row schema nodes n below
      → number_at nodes (Below n.id) ≡ told_at times row schema (stored_of n) (tree_of below)
  node_number row n below here =
      number_is schema nodes (child_of n)
      ∙ ap₂ ◌+◌ (ap length here.own) (sym (length-map (play_at nodes (Below n.id)) absence_of) ∙ ap length here.play)

  all_is : (row : RowTimes) (f : Branches) → TellsBelow times row schema nodes f → all_told nodes f ≡ told_count times row schema (tree_of f)
  unfolding told_count
  all_is row end tells = refl
  all_is row (node n below after) tells = ap₂ ◌+◌ (node_number row n below tells.0)
      (ap₂ ◌+◌ (all_is (row_times schema (tree_of below)) below tells.1) (all_is row after tells.2))

  row_told_is : (k : ℕ)
      → ((above : Row) (row : RowTimes) (f : Branches) → Hangs nodes above f → levels f ≤ k → TellsBelow times row schema nodes f → AreTotals nodes f
      → told_below k schema nodes above ≡ listed_in times row schema (tree_of f))
      → (above : Row) (row : RowTimes) (f : Branches) → Stands nodes above f → levels f ≤ suc k → TellsBelow times row schema nodes f → AreTotals nodes f
      → children_told k schema nodes (children_in f) ≡ listed_in times row schema (tree_of f)
  unfolding listed_in
  row_told_is k deeper above row end stands within tells totals = refl
  row_told_is k deeper above row (node n below after) stands within tells totals =
      let t = tree_of below in
      let here = tells.0 in
      let later = row_told_is k deeper above row after stands.2 (omega (arith, within)) tells.2 totals.2 in
      let under = deeper (Below n.id) (row_times schema t) below (record { listed = hanging.listed_below nodes above n below stands.0; stands = stands.1 }) (omega (arith, within)) tells.1 totals.1 in
      let fs = faults_at times row schema (stored_of n) t in
      let rest = merged schema (Some n.schema.0) (absences_below (children_of schema n.schema.0) t) (listed_in times (row_times schema t) schema t) in
      let told : told_from schema nodes (told_below k schema nodes (Below n.id)) (child_of n) ≡ fs ++ rest =
      ap₂ ◌++◌ here.own (ap₂ (merged schema (Some n.schema.0)) here.play under) in
      let counted : total_at nodes (Below n.id) ≡ length (fs ++ rest) =
      (let both = length-append fs rest in
      let inner = merged_counted schema (Some n.schema.0) times (row_times schema t) (absences_below (children_of schema n.schema.0) t) t in
      let own = node_number row n below here in
      let all = all_is (row_times schema t) below tells.1 in
      omega (arith, totals.0, both, inner, own, all)) in
      ap₂ (λ (xs : List Fault) (ts : List Told). record { schema_number = n.schema.0; faults = xs } ∷ ts)
      (ap (λ (xs : List Fault). cond (eqb (total_at nodes (Below n.id)) 0) [] xs) told
      ∙ nothing_told (fs ++ rest) (total_at nodes (Below n.id)) (eqb (total_at nodes (Below n.id)) 0) refl counted)
      later

  pub told_is : (k : ℕ) (above : Row) (row : RowTimes) (f : Branches) → Hangs nodes above f → levels f ≤ k → TellsBelow times row schema nodes f → AreTotals nodes f
      → told_below k schema nodes above ≡ listed_in times row schema (tree_of f)
  unfolding listed_in
  told_is zero above row end hangs within tells totals = refl
  told_is zero above row (node n below after) hangs within tells totals = absurd (omega (arith, within))
  told_is (suc k) above row f hangs within tells totals =
      ap (children_told k schema nodes) hangs.listed
      ∙ row_told_is k (λ a r g. told_is k a r g) above row f hangs.stands within tells totals

pub list_is : (schema : Schema) (nodes : Nodes) (f : Branches) → Hangs nodes Top f → size f ≤ node_count nodes → Tells schema nodes f
    → list_told schema nodes ≡ listed schema (tree_of f)
unfolding listed
list_is schema nodes f hangs within tells =
    ap₂ (merged schema None) tells.play
    (told_is schema nodes (times_in schema (tree_of f)) (node_count nodes) Top (row_times schema (tree_of f)) f hangs (let deep = levels_within f in omega (arith, deep, within))
    tells.below tells.totals)

-- the total of the top is how many there are
pub total_is : (schema : Schema) (nodes : Nodes) (f : Branches) → Tells schema nodes f → total_at nodes Top ≡ length (play_at nodes Top) + all_told nodes f
    → IsNumbered 0 schema.nodes → CasesInChoices false schema.nodes → Fits schema (tree_of f) → total_at nodes Top ≡ length (faults_of schema (tree_of f))
total_is schema nodes f tells total numbered cased fits =
    total
    ∙ (ap₂ ◌+◌ (sym (length-map (play_at nodes Top) absence_of) ∙ ap length tells.play)
    (all_is schema nodes (times_in schema (tree_of f)) (row_times schema (tree_of f)) f tells.below)
    ∙ (sym (listed_counted schema (tree_of f)) ∙ sym (ap length (documents_listed schema (tree_of f) numbered cased fits))))

-- so where its document fits
pub faults_are : (schema : Schema) (nodes : Nodes) (f : Branches) → Hangs nodes Top f → size f ≤ node_count nodes → Tells schema nodes f
    → IsNumbered 0 schema.nodes → CasesInChoices false schema.nodes → Fits schema (tree_of f) → list_told schema nodes ≡ faults_of schema (tree_of f)
faults_are schema nodes f hangs within tells numbered cased fits =
    list_is schema nodes f hangs within tells ∙ sym (documents_listed schema (tree_of f) numbered cased fits)

pub found_are_faults : {X E : Type 0} (s : rust.Schema) (r : Result X E) (see : X → List Fault) (nodes : Nodes) (f : Branches) → Hangs nodes Top f → size f ≤ node_count nodes
    → Tells (schema_view.view s) nodes f → Fits (schema_view.view s) (tree_of f) → IfOk r (λ x. see x ≡ list_told (schema_view.view s) nodes)
    → IfOk r (λ x. see x ≡ faults_of (schema_view.view s) (tree_of f))
found_are_faults s (Ok x) see nodes f hangs within tells fits is =
    is ∙ faults_are (schema_view.view s) nodes f hangs within tells (numbered s) (cases_of (schema_view.view s) s.fit) fits
found_are_faults s (Err e) see nodes f hangs within tells fits is = tt

-- ---- what is told at a node

tuple_told : (row : RowTimes) (number u v : ℕ) (vs : Option Tuple) → u ≡ v
    → tuple_fault row number u vs ≡ cond (is_twice row number u vs) (repetition false v ∷ []) []
tuple_told row number u v None same = refl
tuple_told row number u v (Some vs) same =
    ap (λ w. cond (ltb 1 (row.tuples number u vs)) (fault_with (tuple_info w) (tuple_code w) [] ∷ []) []) same

tuples_told : (row : RowTimes) (number : ℕ) (tuples : ℕ → Option Tuple) (u v : ℕ) (uniques : List (List LeafPath)) → u ≡ v
    → tuple_faults row number tuples u uniques ≡ marks_told false v (are_twice row number tuples u uniques)
tuples_told row number tuples u v [] same = refl
tuples_told row number tuples u v (x ∷ xs) same =
    ap₂ ◌++◌ (tuple_told row number u v (tuples u) same) (tuples_told row number tuples (suc u) (v + 1) xs (omega (arith, same)))

item_by : (b : Bool) (twice : Val → Bool) (o : Option Val)
    → cond b (option_map_or (λ v. cond (twice v) (plain_fault V10 [] ∷ []) []) o []) [] ≡ marks_told true 0 (cond b (option_map_or twice o false ∷ []) [])
item_by false twice o = refl
item_by true twice None = refl
item_by true twice (Some v) = sym (append-nil (cond (twice v) (plain_fault V10 [] ∷ []) []))

no_item : (b : Bool) → [] ≡ marks_told true 0 (cond b (false ∷ []) [])
no_item true = refl
no_item false = refl

-- the faults at a node are those of its value, and those of what others have too
pub own_is : (times : Times) (row : RowTimes) (n : SchemaNode) (kind : Kind) (value : Option Raw) (tuples : ℕ → Option Tuple)
    → own_faults times row n kind value tuples ≡ value_told times kind value ++ marks_told (has_value kind) 0 (same_of row n kind value tuples)
own_is times row n (container presence) value tuples = refl
own_is times row n (leaf type absence) value tuples = sym (append-nil (option_map_or (value_faults times type) value []))
own_is times row n (leaf_list type defaults amount) None tuples = no_item n.distinct_items
own_is times row n (leaf_list type defaults amount) (Some raw) tuples =
    ap (λ fs. value_faults times type raw ++ fs) (item_by n.distinct_items (λ v. ltb 1 (row.items n.number v)) (taken type.type raw))
own_is times row n (list shape amount) value tuples =
    ap₂ ◌++◌ (tuple_told row n.number 0 0 (tuples 0) refl) (tuples_told row n.number tuples 1 1 shape.uniques refl)
own_is times row n (choice default_case is_mandatory) value tuples = refl
own_is times row n case value tuples = refl

-- ---- by number

-- flags that aren't set tell nothing
marks_same : (is_item : Bool) (which : ℕ) (ms ns : List Bool) → ((u : ℕ) → get_or ms u false ≡ get_or ns u false) → marks_told is_item which ms ≡ marks_told is_item which ns
marks_same is_item which [] [] same = refl
marks_same is_item which [] (n ∷ ns) same =
    marks_same is_item (which + 1) [] ns (λ u. same (suc u))
    ∙ ap (λ b. cond b (repetition is_item which ∷ []) [] ++ marks_told is_item (which + 1) ns) (same 0)
marks_same is_item which (m ∷ ms) [] same =
    ap (λ b. cond b (repetition is_item which ∷ []) [] ++ marks_told is_item (which + 1) ms) (same 0)
    ∙ marks_same is_item (which + 1) ms [] (λ u. same (suc u))
marks_same is_item which (m ∷ ms) (n ∷ ns) same =
    ap₂ (λ (b : Bool) (fs : List Fault). cond b (repetition is_item which ∷ []) [] ++ fs) (same 0) (marks_same is_item (which + 1) ms ns (λ u. same (suc u)))

twice_at : (row : RowTimes) (number : ℕ) (tuples : ℕ → Option Tuple) (k : ℕ) (xs : List (List LeafPath)) (u : ℕ) → ((v : ℕ) → length xs ≤ v → tuples (k + v) ≡ None)
    → get_or (are_twice row number tuples k xs) u false ≡ is_twice row number (k + u) (tuples (k + u))
twice_at row number tuples k [] u none = sym (ap (is_twice row number (k + u)) (none u (omega arith)))
twice_at row number tuples k (x ∷ xs) zero none =
    let here : k ≡ k + 0 = omega arith in ap (λ v. is_twice row number v (tuples v)) here
twice_at row number tuples k (x ∷ xs) (suc u) none =
    let next : suc k + u ≡ k + suc u = omega arith in
    twice_at row number tuples (suc k) xs u (λ v past. let more : suc k + v ≡ k + suc v = omega arith in ap tuples more ∙ none (suc v) (omega (arith, past)))
    ∙ ap (λ v. is_twice row number v (tuples v)) next

entry_at : (row : RowTimes) (n : SchemaNode) (tuples : ℕ → Option Tuple) (uniques : List (List LeafPath)) (u : ℕ) → ((v : ℕ) → length uniques ≤ v → tuples (suc v) ≡ None)
    → get_or (is_twice row n.number 0 (tuples 0) ∷ are_twice row n.number tuples 1 uniques) u false ≡ is_twice row n.number u (tuples u)
entry_at row n tuples uniques zero none = refl
entry_at row n tuples uniques (suc u) none =
    let next : 1 + u ≡ suc u = omega arith in
    twice_at row n.number tuples 1 uniques u (λ v past. let more : 1 + v ≡ suc v = omega arith in ap tuples more ∙ none v past)
    ∙ ap (λ v. is_twice row n.number v (tuples v)) next

item_first : (distinct twice : Bool) → get_or (cond distinct (twice ∷ []) []) 0 false ≡ (distinct && twice)
item_first true twice = refl
item_first false twice = refl

item_behind : (distinct twice : Bool) (u : ℕ) → get_or (cond distinct (twice ∷ []) []) (suc u) false ≡ false
item_behind true twice u = refl
item_behind false twice u = refl

same_at_is : (row : RowTimes) (n : SchemaNode) (kind : Kind) (value : Option Raw) (tuples : ℕ → Option Tuple) (u : ℕ)
    → ((shape : Tuples) (amount : Amount) → kind ≡ list shape amount → (v : ℕ) → length shape.uniques ≤ v → tuples (suc v) ≡ None)
    → get_or (same_of row n kind value tuples) u false ≡ is_same row n kind value tuples u
same_at_is row n (list shape amount) value tuples u none = entry_at row n tuples shape.uniques u (none shape amount refl)
same_at_is row n (leaf_list type defaults amount) value tuples zero none =
    item_first n.distinct_items (option_map_or (λ v. ltb 1 (row.items n.number v)) (option_and_then (taken type.type) value) false)
same_at_is row n (leaf_list type defaults amount) value tuples (suc u) none =
    item_behind n.distinct_items (option_map_or (λ v. ltb 1 (row.items n.number v)) (option_and_then (taken type.type) value) false) u
same_at_is row n (container presence) value tuples u none = refl
same_at_is row n (leaf type absence) value tuples u none = refl
same_at_is row n (choice default_case is_mandatory) value tuples u none = refl
same_at_is row n case value tuples u none = refl

-- a list has no more tuples than a key and its `unique`s
no_more_tuples : (schema : Schema) (s : Stored) (below : Tree) (m : SchemaNode) → node_at schema s.schema_number ≡ Some m
    → (shape : Tuples) (amount : Amount) → m.kind ≡ list shape amount → (v : ℕ) → length shape.uniques ≤ v → tuple schema s below (suc v) ≡ None
no_more_tuples schema s below m is shape amount kind v past =
    ap (λ o. option_and_then (λ (n : SchemaNode). kind_tuple schema n.kind below (suc v)) o) is
    ∙ (ap (λ k. kind_tuple schema k below (suc v)) kind
    ∙ ap (λ o. tuple_of_paths schema below (unwrap_or o [])) (slice_get_past shape.uniques v past))

pub told_at_node : (times : Times) (row : RowTimes) (schema : Schema) (nodes : Nodes) (n : Numbered) (below : Branches) (m : SchemaNode) → node_at schema n.schema.0 ≡ Some m
    → option_map_or judged_told (judged_at nodes n.id) [] ≡ value_told times m.kind n.value
    → ((u : ℕ) → get_or (same_at nodes n.id) u false ≡ is_same row m m.kind n.value (tuple schema (stored_of n) (tree_of below)) u)
    → own_told schema nodes (child_of n) ≡ faults_at times row schema (stored_of n) (tree_of below)
told_at_node times row schema nodes n below m is value same =
    let tuples = tuple schema (stored_of n) (tree_of below) in
    let n' = n in
    let flags : marks_told (has_value m.kind) 0 (same_at nodes n.id) ≡ marks_told (has_value m.kind) 0 (same_of row m m.kind n.value tuples) =
    marks_same (has_value m.kind) 0 (same_at nodes n.id) (same_of row m m.kind n.value tuples)
    (λ u. same u ∙ sym (same_at_is row m m.kind n.value tuples u (no_more_tuples schema (stored_of n) (tree_of below) m is))) in
    ap₂ ◌++◌ value (ap (λ o. marks_told (option_map_or (λ (n : SchemaNode). has_value n.kind) o false) 0 (same_at nodes n.id)) is ∙ flags)
    ∙ (sym (own_is times row m m.kind n.value tuples)
    ∙ sym (ap (λ o. option_map_or (λ (n : SchemaNode). own_faults times row n n.kind n'.value tuples) o []) is))
