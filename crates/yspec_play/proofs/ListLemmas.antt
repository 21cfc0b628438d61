-- The list of the faults of a document by rows is the list of its faults, and how many there are.
use Rattle.std.proofs.Common.{◌≡◌, ℕ, suc, ◌+◌, ◌≤◌, Bool, true, false, cond, eqb, leb, List, [], ◌∷◌, ◌++◌, map, length, Option, Some, None, ◌⊎◌, inl, inr, refl, sym, ap, ap₂, ◌∙◌, subst, arith, length-append}
use Rattle.std.specs.Prelude.{unwrap_or}
use Rattle.std.proofs.lemmas.Bool.{eqb-true}
use Rattle.std.proofs.lemmas.List.{append-nil, length-map}
use Rattle.std.proofs.Math.Seq.{drop-length}
use Rattle.yspec.specs.Forest.{Forest, end, node, row, join}
use Rattle.yspec.specs.types.Types.{Raw}
use Rattle.yspec.specs.schema.Schema.{Schema, SchemaNode, Kind, container, leaf, leaf_list, list, choice, case, is_data, data_row, child_in, children_of, row_at, way_to, data_way_to}
use Rattle.yspec.specs.document.Document.{Tree, instances_in}
use Rattle.yspec.specs.document.Fault.{Fault}
use Rattle.yspec.specs.document.Fitting.{IsNumbered, next_after, FitsBy, Fits}
use Rattle.yspec.specs.document.Play.{in_play}
use Rattle.yspec.specs.document.Instances.{times_in}
use Rattle.yspec.specs.document.Faults.{Times, RowTimes, Told, under, told_of, woven, row_times, faults_at, told_in, faults_of}
use Rattle.yspec.proofs.DocumentProofs.FittingLemmas.{instances-cons}
use Rattle.yspec.proofs.DocumentProofs.SortingLemmas.{child_number, not_before}
use Rattle.yspec_play.specs.Absences.{Absent, absences_in}
use Rattle.yspec_fit.specs.Fit.{CasesInChoices, is_choice}
use Rattle.yspec_play.specs.Merging.{absence_fault, up_to, behind, position_behind, step_of, merged_behind, merged, to_node, absences_below, listed_in, listed, told_count}
use Rattle.yspec_play.proofs.KnownLemmas.{Known, schema_known, row_known}
use Rattle.yspec_play.proofs.MergedLemmas.{AllTold, count_in, count_told}
use Rattle.yspec_play.proofs.TellLemmas.{Leads}
use Rattle.yspec_play.proofs.FilledLemmas.{DataIn, Rising, filled}
use Rattle.yspec_play.proofs.RowLemmas.{row_meets}

-- ---- the numbers of a row that fits

abbrev pub numbers_of : Tree → List ℕ
numbers_of t = map (λ s. s.schema_number) (row t)

abbrev pub numbers_told : List Told → List ℕ
numbers_told ts = map (λ t. t.schema_number) ts

abbrev AllNumbers : (ℕ → Type 0) → List ℕ → Type 0
AllNumbers P [] = Unit {0}
AllNumbers P (x ∷ xs) = P x × AllNumbers P xs

abbrev RisingNumbers : ℕ → List ℕ → Type 0
RisingNumbers least [] = Unit {0}
RisingNumbers least (x ∷ xs) = (least ≤ x) × RisingNumbers x xs

rising_sooner : (j k : ℕ) (xs : List ℕ) → j ≤ k → RisingNumbers k xs → RisingNumbers j xs
rising_sooner j k [] lower rising = tt
rising_sooner j k (x ∷ xs) lower rising = (omega (arith, lower, rising.0), rising.1)

all_told_of : (P : ℕ → Type 0) (ts : List Told) → AllNumbers P (numbers_told ts) → AllTold P ts
all_told_of P [] all = tt
all_told_of P (t ∷ ts) all = (all.0, all_told_of P ts all.1)

rising_told : (least : ℕ) (ts : List Told) → RisingNumbers least (numbers_told ts) → Rising least ts
rising_told least [] rising = tt
rising_told least (t ∷ ts) rising = (rising.0, rising_told t.schema_number ts rising.1)

count_stored : (t : Tree) (m : ℕ) → instances_in t m ≡ count_in m (numbers_of t)
count_stored end m = refl
count_stored (node s below after) m = instances-cons s below after m ∙ ap (λ c. cond (eqb s.schema_number m) 1 0 + c) (count_stored after m)

-- ---- the data node that a stored node is an instance of

joined_child : (f g : Forest SchemaNode) (m : ℕ) (x : SchemaNode × Forest SchemaNode) → child_in (join f g) m ≡ Some x
    → (child_in f m ≡ Some x) ⊎ (child_in g m ≡ Some x)
joined_child end g m x e = inr e
joined_child (node n below after) g m x e = by (eqb n.number m) e (joined_child after g m x)
  where
    by : (b : Bool) → cond b (Some (n, below)) (child_in (join after g) m) ≡ Some x
        → (child_in (join after g) m ≡ Some x → (child_in after m ≡ Some x) ⊎ (child_in g m ≡ Some x))
        → (cond b (Some (n, below)) (child_in after m) ≡ Some x) ⊎ (child_in g m ≡ Some x)
    by true e rest = inl e
    by false e rest = rest e

pub data_is_no_choice : (kind : Kind) → is_data kind ≡ true → is_choice kind ≡ false
data_is_no_choice (container presence) is = refl
data_is_no_choice (leaf type absence) is = refl
data_is_no_choice (leaf_list type defaults amount) is = refl
data_is_no_choice (list tuples amount) is = refl
data_is_no_choice (choice default_case is_mandatory) is = absurd cc
data_is_no_choice case is = absurd cc

module _ (schema : Schema) where
  -- it stands in the row, and no case stands right below it
  abbrev FoundIn : Forest SchemaNode → ℕ → Forest SchemaNode → Type 0
  FoundIn f m below = DataIn m f × (children_of schema m ≡ below) × CasesInChoices false below

  found_in : (f : Forest SchemaNode) (way : List SchemaNode) (in_choice : Bool) (m : ℕ) (x : SchemaNode × Forest SchemaNode) → Known schema way f → CasesInChoices in_choice f
      → child_in (data_row f) m ≡ Some x → FoundIn f m x.1
  found_in end way in_choice m x known cased e = absurd cc
  found_in (node n below after) way in_choice m x known cased e =
      by (is_data n.kind) refl e (found_in below (way ++ n ∷ []) (is_choice n.kind) m x known.3 cased.1) (found_in after way in_choice m x known.4 cased.2)
    where
      here : is_data n.kind ≡ true → (b : Bool) → eqb n.number m ≡ b → cond b (Some (n, below)) (child_in (data_row after) m) ≡ Some x
          → (child_in (data_row after) m ≡ Some x → FoundIn after m x.1) → FoundIn (node n below after) m x.1
      here is true same e later =
          let number = eqb-true n.number m same in
          let is_below : below ≡ x.1 = ap (λ (o : Option (SchemaNode × Forest SchemaNode)). (unwrap_or o x).1) e in (
            inl (is, sym number),
            ap (children_of schema) (sym number) ∙ (known.2 ∙ is_below),
            subst (CasesInChoices false) is_below (subst (λ b. CasesInChoices b below) (data_is_no_choice n.kind is) cased.1),
          )
      here is false other e later = let found = later e in (inr (inr found.0), found.1, found.2)

      through : is_data n.kind ≡ false → (child_in (data_row below) m ≡ Some x) ⊎ (child_in (data_row after) m ≡ Some x)
          → (child_in (data_row below) m ≡ Some x → FoundIn below m x.1) → (child_in (data_row after) m ≡ Some x → FoundIn after m x.1) → FoundIn (node n below after) m x.1
      through is (inl e) inner later = let found = inner e in (inr (inl (is, found.0)), found.1, found.2)
      through is (inr e) inner later = let found = later e in (inr (inr found.0), found.1, found.2)

      by : (b : Bool) → is_data n.kind ≡ b → child_in (cond b (node n below (data_row after)) (join (data_row below) (data_row after))) m ≡ Some x
          → (child_in (data_row below) m ≡ Some x → FoundIn below m x.1) → (child_in (data_row after) m ≡ Some x → FoundIn after m x.1) → FoundIn (node n below after) m x.1
      by true is e inner later = here is (eqb n.number m) refl e later
      by false is e inner later = through is (joined_child (data_row below) (data_row after) m x e) inner later

  found_at : (above : Option ℕ) (m : ℕ) (x : SchemaNode × Forest SchemaNode) → IsNumbered 0 schema.nodes → CasesInChoices false (row_at schema above)
      → child_in (data_row (row_at schema above)) m ≡ Some x → FoundIn (row_at schema above) m x.1
  found_at None m x numbered cased e = found_in schema.nodes [] false m x (schema_known schema numbered) cased e
  found_at (Some number) m x numbered cased e = found_in (children_of schema number) (way_to schema number) false m x (row_known schema number numbered).known cased e

  module _ (Held : SchemaNode → Option Raw → Type 0) where
    numbers_fit : (f : Forest SchemaNode) (way : List SchemaNode) (in_choice : Bool) (least : ℕ) (t : Tree) → Known schema way f → CasesInChoices in_choice f
        → FitsBy Held f least t → AllNumbers (λ m. DataIn m f) (numbers_of t) × RisingNumbers least (numbers_of t)
    numbers_fit f way in_choice least end known cased fits = (tt, tt)
    numbers_fit f way in_choice least (node s below after) known cased fits =
        let rest = numbers_fit f way in_choice (next_after fits.0.0) after known cased fits.5 in
        let number = child_number (data_row f) s.schema_number fits.0 fits.1 in (
          ((found_in f way in_choice s.schema_number fits.0 known cased fits.1).0, rest.0),
          (fits.2, rising_sooner s.schema_number (next_after fits.0.0) (numbers_of after) (omega (arith, not_before fits.0.0, number)) rest.1),
        )

    -- ---- a row

    row_law : (above : Option ℕ) (f : Forest SchemaNode) (k : ℕ) (way : List SchemaNode) (least : ℕ) (t : Tree) (told : List Told) → IsNumbered k f → Known schema way f
        → Leads schema above way [] → CasesInChoices false f → FitsBy Held f least t → numbers_told told ≡ numbers_of t
        → woven (in_play (instances_in t) f) told ≡ merged schema above (absences_in (instances_in t) [] f) told
    row_law above f k way least t told numbered known leads cased fits same =
        let fit = numbers_fit f way false least t known cased fits in
        let fills = filled f k least told numbered
        (rising_told least told (subst (RisingNumbers least) (sym same) fit.1))
        (all_told_of (λ m. DataIn m f) told (subst (AllNumbers (λ m. DataIn m f)) (sym same) fit.0)) in
        let counts : (m : ℕ) → instances_in t m ≡ length (told_of told m) =
        λ m. count_stored t m ∙ (ap (count_in m) (sym same) ∙ sym (count_told told m)) in
        sym (append-nil (woven (in_play (instances_in t) f) told))
        ∙ (row_meets schema above told (instances_in t) counts f k way false [] told [] [] numbered known leads cased (λ is. absurd (let no : false ≡ true = is in cc))
        fills (λ m w. refl) tt tt
        ∙ ap₂ (merged schema above) (append-nil (absences_in (instances_in t) [] f)) (append-nil told))

    -- below a node, or at the top
    pub row_at_law : (above : Option ℕ) (least : ℕ) (t : Tree) (told : List Told) → IsNumbered 0 schema.nodes → CasesInChoices false (row_at schema above)
        → FitsBy Held (row_at schema above) least t → numbers_told told ≡ numbers_of t
        → woven (in_play (instances_in t) (row_at schema above)) told ≡ merged schema above (absences_in (instances_in t) [] (row_at schema above)) told
    row_at_law None least t told numbered cased fits same =
        row_law None schema.nodes 0 [] least t told numbered (schema_known schema numbered) (refl, omega arith) cased fits same
    row_at_law (Some number) least t told numbered cased fits same =
        let below = row_known schema number numbered in
        row_law (Some number) (children_of schema number) below.first (way_to schema number) least t told below.numbered below.known
        (ap (map to_node) (drop-length (data_way_to schema number)), omega arith) cased fits same

    -- ---- a tree

    module _ (times : Times) (numbered : IsNumbered 0 schema.nodes) where
      told_numbers : (row : RowTimes) (t : Tree) → numbers_told (told_in times row schema t) ≡ numbers_of t
      unfolding told_in
      told_numbers row end = refl
      told_numbers row (node s below after) = ap (λ xs. s.schema_number ∷ xs) (told_numbers row after)

      pub rows_listed : (above : Option ℕ) (least : ℕ) (row : RowTimes) (t : Tree) → CasesInChoices false (row_at schema above) → FitsBy Held (row_at schema above) least t
          → told_in times row schema t ≡ listed_in times row schema t
      unfolding told_in listed_in
      rows_listed above least row end cased fits = refl
      rows_listed above least row (node s below after) cased fits =
          let number = s.schema_number in
          let found = found_at above number fits.0 numbered cased fits.1 in
          let fits_below : FitsBy Held (children_of schema number) 0 below = subst (λ (g : Forest SchemaNode). FitsBy Held g 0 below) (sym found.1) fits.4 in
          let cased_below : CasesInChoices false (children_of schema number) = subst (CasesInChoices false) (sym found.1) found.2 in
          ap₂ (λ (fs : List Fault) (ts : List Told). record { schema_number = number; faults = faults_at times row schema s below ++ fs } ∷ ts)
          (row_at_law (Some number) 0 below (told_in times (row_times schema below) schema below) numbered cased_below fits_below (told_numbers (row_times schema below) below)
          ∙ ap (merged schema (Some number) (absences_below (children_of schema number) below)) (rows_listed (Some number) 0 (row_times schema below) below cased_below fits_below))
          (rows_listed above (next_after fits.0.0) row after cased fits.5)

  -- ---- how many there are

  up_to_and_behind : (number : ℕ) (xs : List Absent) → length (up_to number xs) + length (behind number xs) ≡ length xs
  up_to_and_behind number [] = omega arith
  up_to_and_behind number (a ∷ xs) = by (leb a.1 number) (up_to_and_behind number xs)
    where
      by : (b : Bool) → length (up_to number xs) + length (behind number xs) ≡ length xs
          → length (cond b (a ∷ up_to number xs) []) + length (cond b (behind number xs) (a ∷ xs)) ≡ suc (length xs)
      by true rest = omega (arith, rest)
      by false rest = omega arith

  abbrev pub faults_told : List Told → ℕ
  faults_told [] = 0
  faults_told (t ∷ ts) = length t.faults + faults_told ts

  length-merged : (above : Option ℕ) (last position : ℕ) (xs : List Absent) (ts : List Told)
      → length (merged_behind schema above last position xs ts) ≡ length xs + faults_told ts
  length-merged above last position xs [] = let count = length-map xs (absence_fault schema above) in omega (arith, count)
  length-merged above last position xs (t ∷ ts) =
      let number = t.schema_number in
      let place = position_behind last position number in
      let first = map (absence_fault schema above) (up_to number xs) in
      let child = map (under (step_of schema number place)) t.faults in
      let rest = merged_behind schema above number place (behind number xs) ts in
      let one = length-append first (child ++ rest) in
      let two = length-append child rest in
      let three = length-map (up_to number xs) (absence_fault schema above) in
      let four = length-map t.faults (under (step_of schema number place)) in
      let five = length-merged above number place (behind number xs) ts in
      let six = up_to_and_behind number xs in
      omega (arith, one, two, three, four, five, six)

  told_counted : (times : Times) (row : RowTimes) (t : Tree) → faults_told (listed_in times row schema t) ≡ told_count times row schema t
  unfolding listed_in told_count
  told_counted times row end = refl
  told_counted times row (node s below after) =
      let children = listed_in times (row_times schema below) schema below in
      let xs = absences_below (children_of schema s.schema_number) below in
      let one = length-append (faults_at times row schema s below) (merged schema (Some s.schema_number) xs children) in
      let two = length-merged (Some s.schema_number) 0 0 xs children in
      let three = told_counted times (row_times schema below) below in
      let four = told_counted times row after in
      omega (arith, one, two, three, four)

  pub listed_counted : (tree : Tree) → length (listed schema tree)
      ≡ length (absences_below schema.nodes tree) + told_count (times_in schema tree) (row_times schema tree) schema tree
  unfolding listed
  listed_counted tree =
      length-merged None 0 0 (absences_below schema.nodes tree) (listed_in (times_in schema tree) (row_times schema tree) schema tree)
      ∙ ap (λ c. length (absences_below schema.nodes tree) + c) (told_counted (times_in schema tree) (row_times schema tree) tree)

-- the faults of a document that fits
pub documents_listed : (schema : Schema) (tree : Tree) → IsNumbered 0 schema.nodes → CasesInChoices false schema.nodes → Fits schema tree
    → faults_of schema tree ≡ listed schema tree
unfolding faults_of listed
documents_listed schema tree numbered cased fits =
    let any = λ (n : SchemaNode) (value : Option Raw). Unit {0} in
    let times = times_in schema tree in
    row_at_law schema any None 0 tree (told_in times (row_times schema tree) schema tree) numbered cased fits (told_numbers schema any times numbered (row_times schema tree) tree)
    ∙ ap (merged schema None (absences_below schema.nodes tree)) (rows_listed schema any times numbered None 0 (row_times schema tree) tree cased fits)

-- how many are told in a row and below it
pub merged_counted : (schema : Schema) (above : Option ℕ) (times : Times) (row : RowTimes) (xs : List Absent) (t : Tree)
    → length (merged schema above xs (listed_in times row schema t)) ≡ length xs + told_count times row schema t
merged_counted schema above times row xs t = length-merged schema above 0 0 xs (listed_in times row schema t)
    ∙ ap (λ c. length xs + c) (told_counted schema times row t)
