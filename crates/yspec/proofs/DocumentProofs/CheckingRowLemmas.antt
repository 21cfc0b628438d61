-- What is in play of a row of schema nodes, woven with what the stored row tells, is what one walk over both finds.
use Rattle.std.proofs.Common.{◌≡◌, ℕ, ◌+◌, ◌<◌, Bool, true, false, cond, eqb, ltb, List, [], ◌∷◌, ◌++◌, map, length, filter, Option, Some, refl, sym, ap, ap₂, ◌∙◌, arith, append_assoc}
use Rattle.std.proofs.lemmas.Bool.{eqb-true, lt-ltb}
use Rattle.std.proofs.lemmas.Grind.{flat_map-append}
use Rattle.std.proofs.lemmas.List.{append-nil, map-id, map-append}
use Rattle.std.specs.List.{flat_map}
use Rattle.std.specs.Option.{option_map_or}
use Rattle.yspec.specs.Forest.{Forest, end, node, row}
use Rattle.yspec.specs.types.Types.{Val}
use Rattle.yspec.specs.schema.Schema.{Schema, SchemaNode, Kind, container, leaf, leaf_list, list, choice, case, Absence, allowed, default_used, mandatory, key, Amount, node_at, children_of}
use Rattle.yspec.specs.document.Document.{Stored, Tree, Step, step_to, instances_in}
use Rattle.yspec.specs.document.Fault.{Fault, plain_fault, fault_with, choice_name}
use Rattle.yspec.specs.document.FaultCode.{V4, V5, V6, V7}
use Rattle.yspec.specs.document.Play.{Item, tell, visit, visit_each, cases, stored_cases, choice_faults, absent_leaf, absent_items, exceeds, amount_faults, is_among, node_items, stored_inside, steps_inside, items_in_play, in_play}
use Rattle.yspec.specs.document.Instances.{tuple}
use Rattle.yspec.specs.document.Faults.{Times, RowTimes, own_faults, under, Told, told_of, at_positions, item_faults, woven, row_times, faults_at, told_in, faults_by}
use Rattle.yspec.proofs.DocumentProofs.FittingLemmas.{instances-cons}
use Rattle.yspec.specs.document.RowFaults.{prefixed, each_instance, absent_leaf_faults, wrong_amount, wrong_choice, one_or, node_faults, row_faults}

-- ---- steps in front

pub prefixed_twice : (above : List Step) (step : Step) (fs : List Fault) → map (prefixed (above ++ step ∷ [])) fs ≡ map (prefixed above) (map (under step) fs)
prefixed_twice above step [] = refl
prefixed_twice above step (f ∷ fs) =
    ap₂ ◌∷◌ (ap (λ (steps : List Step). record f { steps = steps }) (append_assoc above (step ∷ []) f.steps)) (prefixed_twice above step fs)

unprefixed : (above : List Step) (fs : List Fault) → above ≡ [] → fs ≡ map (prefixed above) fs
unprefixed above fs top = sym (map-id fs) ∙ ap (λ (steps : List Step). map (prefixed steps) fs) (sym top)

-- ---- of a node, from what is in play of it

-- what is told where it is stored: only at the top of what is in play
abbrev Tells : ℕ → List Step → List Told → List (List Fault) → ℕ → Type 0
Tells number above tolds each count = 0 < count → (above ≡ []) × (told_of tolds number ≡ each)

one_woven : (number : ℕ) (above : List Step) (tolds : List Told) (absent : List Item) (found : List Fault) (count : ℕ) (each : List (List Fault))
    → count ≡ length each → Tells number above tolds each count → woven absent tolds ≡ map (prefixed above) found
    → woven (cond (ltb 0 count) (visit number ∷ []) absent) tolds ≡ map (prefixed above) (one_or number found each)
one_woven number above tolds absent found count [] counted tells so =
    ap (λ c. woven (cond (ltb 0 c) (visit number ∷ []) absent) tolds) counted ∙ so
one_woven number above tolds absent found count (fs ∷ others) counted tells so =
    let there : 0 < count = omega (arith, counted) in
    let what = tells there in
    ap (λ c. woven (cond c (visit number ∷ []) absent) tolds) (lt-ltb 0 count there)
    ∙ (append-nil (flat_map (map (under (step_to number))) (told_of tolds number))
    ∙ (ap (flat_map (map (under (step_to number)))) what.1
    ∙ unprefixed above (flat_map (map (under (step_to number))) (fs ∷ others)) what.0))

each_woven : (number : ℕ) (above : List Step) (tolds : List Told) (absent : List Item) (count : ℕ) (each : List (List Fault))
    → count ≡ length each → Tells number above tolds each count → woven absent tolds ≡ []
    → woven (cond (ltb 0 count) (visit_each number ∷ []) absent) tolds ≡ map (prefixed above) (at_positions number 1 each)
each_woven number above tolds absent count [] counted tells so =
    ap (λ c. woven (cond (ltb 0 c) (visit_each number ∷ []) absent) tolds) counted ∙ so
each_woven number above tolds absent count (fs ∷ others) counted tells so =
    let there : 0 < count = omega (arith, counted) in
    let what = tells there in
    ap (λ c. woven (cond c (visit_each number ∷ []) absent) tolds) (lt-ltb 0 count there)
    ∙ (append-nil (at_positions number 1 (told_of tolds number))
    ∙ (ap (at_positions number 1) what.1
    ∙ unprefixed above (at_positions number 1 (fs ∷ others)) what.0))

amount_told : (a b : Bool) (number : ℕ) (above : List Step) (tolds : List Told)
    → woven (cond a (tell (plain_fault V6 (above ++ step_to number ∷ [])) ∷ []) (cond b (tell (plain_fault V7 (above ++ step_to number ∷ [])) ∷ []) [])) tolds
    ≡ map (prefixed above) (cond a (plain_fault V6 (step_to number ∷ []) ∷ []) (cond b (plain_fault V7 (step_to number ∷ []) ∷ []) []))
amount_told true b number above tolds = refl
amount_told false true number above tolds = refl
amount_told false false number above tolds = refl

many_woven : (number : ℕ) (above : List Step) (tolds : List Told) (amount : Amount) (absent : List Item) (count : ℕ) (each : List (List Fault))
    → count ≡ length each → Tells number above tolds each count → woven absent tolds ≡ []
    → woven (amount_faults (above ++ step_to number ∷ []) amount count ++ cond (ltb 0 count) (visit_each number ∷ []) absent) tolds
    ≡ map (prefixed above) (wrong_amount number amount (length each) ++ at_positions number 1 each)
many_woven number above tolds amount absent count each counted tells so =
    flat_map-append (item_faults tolds) (amount_faults (above ++ step_to number ∷ []) amount count) (cond (ltb 0 count) (visit_each number ∷ []) absent)
    ∙ (ap₂ ◌++◌ (amount_told (ltb count amount.min_elements) (exceeds count amount.max_elements) number above tolds
    ∙ ap (λ c. map (prefixed above) (wrong_amount number amount c)) counted)
    (each_woven number above tolds absent count each counted tells so)
    ∙ sym (map-append (prefixed above) (wrong_amount number amount (length each)) (at_positions number 1 each)))

absent_told : (number : ℕ) (vs : List Val) (tolds : List Told) → woven (absent_items number vs) tolds ≡ []
absent_told number [] tolds = refl
absent_told number (v ∷ vs) tolds = refl

leaf_told : (number : ℕ) (above : List Step) (absence : Absence) (tolds : List Told)
    → woven (absent_leaf number (above ++ step_to number ∷ []) absence) tolds ≡ map (prefixed above) (absent_leaf_faults number absence)
leaf_told number above allowed tolds = refl
leaf_told number above (default_used v) tolds = refl
leaf_told number above mandatory tolds = refl
leaf_told number above key tolds = refl

choice_told : (n : SchemaNode) (above : List Step) (is_mandatory : Bool) (with_stored : List ℕ) (tolds : List Told)
    → woven (choice_faults above n is_mandatory with_stored) tolds ≡ map (prefixed above) (wrong_choice n is_mandatory with_stored)
choice_told n above true [] tolds = ap (λ (steps : List Step). fault_with (choice_name n.name) V4 steps ∷ []) (sym (append-nil above))
choice_told n above false [] tolds = refl
choice_told n above is_mandatory (first ∷ []) tolds = refl
choice_told n above is_mandatory (first ∷ second ∷ more) tolds =
    ap (λ (steps : List Step). fault_with (choice_name n.name) V5 steps ∷ []) (sym (append-nil above))

-- what is to be known of what is in play below
abbrev Inner : Kind → List Step → ℕ → List Told → List Item → List Fault → List Fault → Type 0
Inner (container presence) above number tolds items implied inside = woven items tolds ≡ map (prefixed (above ++ step_to number ∷ [])) implied
Inner (choice default_case is_mandatory) above number tolds items implied inside = woven items tolds ≡ map (prefixed above) inside
Inner case above number tolds items implied inside = woven items tolds ≡ map (prefixed above) inside
Inner _ above number tolds items implied inside = Unit {0}

implied_told : (presence : Bool) (number : ℕ) (above : List Step) (tolds : List Told) (items : List Item) (implied : List Fault)
    → woven items tolds ≡ map (prefixed (above ++ step_to number ∷ [])) implied
    → woven (cond presence [] items) tolds ≡ map (prefixed above) (cond presence [] (map (under (step_to number)) implied))
implied_told true number above tolds items implied so = refl
implied_told false number above tolds items implied so = so ∙ prefixed_twice above (step_to number) implied

case_told : (chosen : Bool) (above : List Step) (tolds : List Told) (items : List Item) (inside : List Fault)
    → woven items tolds ≡ map (prefixed above) inside → woven (cond chosen items []) tolds ≡ map (prefixed above) (cond chosen inside [])
case_told true above tolds items inside so = so
case_told false above tolds items inside so = refl

node_woven : (stored : ℕ → ℕ) (chosen : List ℕ) (above : List Step) (n : SchemaNode) (kind : Kind) (below : Forest SchemaNode) (items : List Item)
    (tolds : List Told) (each : List (List Fault)) (implied inside : List Fault)
    → stored n.number ≡ length each → Tells n.number above tolds each (stored n.number) → Inner kind above n.number tolds items implied inside
    → woven (node_items stored chosen above n kind below items) tolds
    ≡ map (prefixed above) (node_faults chosen n kind (stored_cases stored below) each implied inside)
node_woven stored chosen above n (container presence) below items tolds each implied inside counted tells inner =
    one_woven n.number above tolds (cond presence [] items) (cond presence [] (map (under (step_to n.number)) implied)) (stored n.number) each
    counted tells (implied_told presence n.number above tolds items implied inner)
node_woven stored chosen above n (leaf type absence) below items tolds each implied inside counted tells inner =
    one_woven n.number above tolds (absent_leaf n.number (above ++ step_to n.number ∷ []) absence) (absent_leaf_faults n.number absence) (stored n.number) each
    counted tells (leaf_told n.number above absence tolds)
node_woven stored chosen above n (leaf_list type defaults amount) below items tolds each implied inside counted tells inner =
    many_woven n.number above tolds amount (absent_items n.number defaults) (stored n.number) each counted tells (absent_told n.number defaults tolds)
node_woven stored chosen above n (list tuples amount) below items tolds each implied inside counted tells inner =
    many_woven n.number above tolds amount [] (stored n.number) each counted tells refl
node_woven stored chosen above n (choice default_case is_mandatory) below items tolds each implied inside counted tells inner =
    flat_map-append (item_faults tolds) (choice_faults above n is_mandatory (stored_cases stored below)) items
    ∙ (ap₂ ◌++◌ (choice_told n above is_mandatory (stored_cases stored below) tolds) inner
    ∙ sym (map-append (prefixed above) (wrong_choice n is_mandatory (stored_cases stored below)) inside))
node_woven stored chosen above n case below items tolds each implied inside counted tells inner =
    case_told (is_among chosen n.number) above tolds items inside inner

-- ---- the stored instances of a schema node

told_cons : (t : Told) (ts : List Told) (m : ℕ) (b : Bool) → eqb t.schema_number m ≡ b
    → told_of (t ∷ ts) m ≡ cond b (t.faults ∷ told_of ts m) (told_of ts m)
told_cons t ts m true same = ap (λ b. map (λ (x : Told). x.faults) (cond b (t ∷ filter (λ (x : Told). eqb x.schema_number m) ts) (filter (λ (x : Told). eqb x.schema_number m) ts))) same
told_cons t ts m false other = ap (λ b. map (λ (x : Told). x.faults) (cond b (t ∷ filter (λ (x : Told). eqb x.schema_number m) ts) (filter (λ (x : Told). eqb x.schema_number m) ts))) other

module _ {A : Type 0} where
  each_cons : (m : ℕ) (said : Stored → Tree → A) (s : Stored) (below after : Tree) (b : Bool) → eqb s.schema_number m ≡ b
      → each_instance m said (node s below after) ≡ cond b (said s below ∷ each_instance m said after) (each_instance m said after)
  each_cons m said s below after b e = ap (λ t. cond t (said s below ∷ each_instance m said after) (each_instance m said after)) e

count_step : (b : Bool) (x : ℕ) (fs : List Fault) (others : List (List Fault)) → x ≡ length others
    → cond b 1 0 + x ≡ length (cond b (fs ∷ others) others)
count_step true x fs others e = omega (arith, e)
count_step false x fs others e = omega (arith, e)

pub count_each : (m : ℕ) (said : Stored → Tree → List Fault) (t : Tree) → instances_in t m ≡ length (each_instance m said t)
count_each m said end = refl
count_each m said (node s below after) = instances-cons s below after m
    ∙ count_step (eqb s.schema_number m) (instances_in after m) (said s below) (each_instance m said after) (count_each m said after)

-- the schema has these nodes under their numbers
abbrev pub Has : Schema → Forest SchemaNode → Type 0
Has schema end = Unit {0}
Has schema (node n below after) = (node_at schema n.number ≡ Some n) × (children_of schema n.number ≡ below) × Has schema below × Has schema after

module _ (times : Times) (schema : Schema) where
  -- what a stored node tells
  abbrev tells_at : RowTimes → Stored → Tree → List Fault
  tells_at row s b = faults_at times row schema s b ++ woven (in_play (instances_in b) (children_of schema s.schema_number)) (told_in times (row_times schema b) schema b)

  abbrev walked_at : RowTimes → SchemaNode → Forest SchemaNode → Stored → Tree → List Fault
  walked_at row n below s b = own_faults times row n n.kind s.value (tuple schema s b) ++ row_faults times schema (row_times schema b) [] below b

  told_each_from : (row : RowTimes) (m : ℕ) (said : Stored → Tree → List Fault) (s : Stored) (below after : Tree) (b : Bool)
      → eqb s.schema_number m ≡ b → (s.schema_number ≡ m → tells_at row s below ≡ said s below)
      → told_of (told_in times row schema after) m ≡ each_instance m said after
      → told_of (told_in times row schema (node s below after)) m ≡ each_instance m said (node s below after)
  unfolding told_in
  told_each_from row m said s below after true same so rest =
      told_cons _ (told_in times row schema after) m true same
      ∙ (ap₂ ◌∷◌ (so (eqb-true s.schema_number m same)) rest ∙ sym (each_cons m said s below after true same))
  told_each_from row m said s below after false other so rest =
      told_cons _ (told_in times row schema after) m false other
      ∙ (rest ∙ sym (each_cons m said s below after false other))

  told_each : (row : RowTimes) (m : ℕ) (said : Stored → Tree → List Fault) (t : Tree)
      → ((s : Stored) (b : Tree) → s.schema_number ≡ m → tells_at row s b ≡ said s b)
      → told_of (told_in times row schema t) m ≡ each_instance m said t
  unfolding told_in
  told_each row m said end so = refl
  told_each row m said (node s below after) so =
      told_each_from row m said s below after (eqb s.schema_number m) refl (so s below) (told_each row m said after so)

  -- ---- the rows

  -- what a row tells is told at the top of what is in play, or nothing is stored in it
  abbrev Sees : RowTimes → List Step → List Told → Tree → Type 0
  Sees row above tolds t = (m : ℕ) → 0 < instances_in t m → (above ≡ []) × (told_of tolds m ≡ told_of (told_in times row schema t) m)

  inner_for : (kind : Kind) (t : Tree) (above : List Step) (number : ℕ) (tolds : List Told) (below : Forest SchemaNode) (implied : List Fault) (inside : List Fault)
      → woven (items_in_play (instances_in end) [] (above ++ step_to number ∷ []) below) tolds ≡ map (prefixed (above ++ step_to number ∷ [])) implied
      → woven (items_in_play (instances_in t) (cases (instances_in t) kind below) above below) tolds ≡ map (prefixed above) inside
      → Inner kind above number tolds (items_in_play (stored_inside kind (instances_in t)) (cases (instances_in t) kind below) (steps_inside kind above number) below) implied inside
  inner_for (container presence) t above number tolds below implied inside empty here = empty
  inner_for (leaf type absence) t above number tolds below implied inside empty here = tt
  inner_for (leaf_list type defaults amount) t above number tolds below implied inside empty here = tt
  inner_for (list tuples amount) t above number tolds below implied inside empty here = tt
  inner_for (choice default_case is_mandatory) t above number tolds below implied inside empty here = here
  inner_for case t above number tolds below implied inside empty here = here

  woven_rows : (f : Forest SchemaNode) (row : RowTimes) (chosen : List ℕ) (t : Tree) (above : List Step) (tolds : List Told) → Has schema f → Sees row above tolds t
      → woven (items_in_play (instances_in t) chosen above f) tolds ≡ map (prefixed above) (row_faults times schema row chosen f t)
  unfolding items_in_play row_faults
  woven_rows end row chosen t above tolds has sees = refl
  woven_rows (node n below after) row chosen t above tolds has sees =
      let said = walked_at row n below in
      let implied = row_faults times schema (row_times schema end) [] below end in
      let inside = row_faults times schema row (cases (instances_in t) n.kind below) below t in
      let instance = λ (s : Stored) (b : Tree) (same : s.schema_number ≡ n.number).
      ap₂ ◌++◌ (ap (λ k. option_map_or (λ (x : SchemaNode). own_faults times row x x.kind s.value (tuple schema s b)) (node_at schema k) []) same
      ∙ ap (λ (o : Option SchemaNode). option_map_or (λ (x : SchemaNode). own_faults times row x x.kind s.value (tuple schema s b)) o []) has.0)
      (ap (λ k. woven (in_play (instances_in b) (children_of schema k)) (told_in times (row_times schema b) schema b)) same
      ∙ (ap (λ (f : Forest SchemaNode). woven (in_play (instances_in b) f) (told_in times (row_times schema b) schema b)) has.1
      ∙ (woven_rows below (row_times schema b) [] b [] (told_in times (row_times schema b) schema b) has.2 (λ m some. (refl, refl))
      ∙ map-id (row_faults times schema (row_times schema b) [] below b)))) in
      flat_map-append (item_faults tolds) (node_items (instances_in t) chosen above n n.kind below
      (items_in_play (stored_inside n.kind (instances_in t)) (cases (instances_in t) n.kind below) (steps_inside n.kind above n.number) below))
      (items_in_play (instances_in t) chosen above after)
      ∙ (ap₂ ◌++◌ (node_woven (instances_in t) chosen above n n.kind below
      (items_in_play (stored_inside n.kind (instances_in t)) (cases (instances_in t) n.kind below) (steps_inside n.kind above n.number) below)
      tolds (each_instance n.number said t) implied inside (count_each n.number said t)
      (λ some. ((sees n.number some).0, (sees n.number some).1 ∙ told_each row n.number said t instance))
      (inner_for n.kind t above n.number tolds below implied inside
      (woven_rows below (row_times schema end) [] end (above ++ step_to n.number ∷ []) tolds has.2 (λ m some. absurd (omega (arith, some))))
      (woven_rows below row (cases (instances_in t) n.kind below) t above tolds has.2 sees)))
      (woven_rows after row chosen t above tolds has.3 sees)
      ∙ sym (map-append (prefixed above) (node_faults chosen n n.kind (stored_cases (instances_in t) below) (each_instance n.number said t) implied inside)
      (row_faults times schema row chosen after t)))

  -- the faults of any document, under a schema whose nodes have numbers of their own
  pub rows_are_faults : (tree : Tree) → Has schema schema.nodes
      → faults_by times schema tree ≡ row_faults times schema (row_times schema tree) [] schema.nodes tree
  rows_are_faults tree has = woven_rows schema.nodes (row_times schema tree) [] tree [] (told_in times (row_times schema tree) schema tree) has (λ m some. (refl, refl))
      ∙ map-id (row_faults times schema (row_times schema tree) [] schema.nodes tree)
