-- What a row gives next, and what is left of it then.
use Rattle.std.proofs.Common.{◌≡◌, ℕ, zero, suc, ◌+◌, ◌≤◌, true, false, ltb, List, [], ◌∷◌, ◌++◌, map, length, drop, get_or, Option, Some, None, refl, sym, ap, ap₂, ◌∙◌, arith}
use Rattle.std.proofs.lemmas.Bool.{ltb-true, ltb-false}
use Rattle.std.proofs.lemmas.List.Sums.{sum_by-cons}
use Rattle.std.specs.Option.{option_map_or}
use Rattle.yspec.specs.schema.Schema.{Schema}
use Rattle.yspec.specs.document.Fault.{Fault}
use Rattle.yspec.specs.document.Faults.{Told, under}
use Rattle.ycheck.specs.declared.fault.FaultCode.{FaultCode}
use Rattle.yschema_model.specs.declared.node.SchemaId.{SchemaId}
use Rattle.yspec_play.specs.Merging.{absence_fault, behind, merged_behind, position_behind, step_of, up_to}
use Rattle.ystore_rows.specs.Rows.{Child}
use Rattle.ystore.specs.Store.{children_at, play_at}
use Rattle.ystore.specs.declared.nodes.Nodes.{Nodes}
use Rattle.ystore_rows.specs.declared.row.Row.TheVariants.{Below}
use Rattle.ylive_list.specs.Listed.{absence_of, absences_of, child_told, children_told, told_below}
use Rattle.ylive_list.specs.declared.row_left.RowLeft.{RowLeft}
use Rattle.ylive_list.specs.Walked.{row_of, number_above, play_left, children_left, below_left, row_left, step_in, visits, visits_below, AwaitsChild, IsNext, NoneComes, Passes}
use Rattle.ylive_list.proofs.ListingLemmas.{up_to_here, behind_here, up_to_later, behind_later}

abbrev pub Absence : Type 0
Absence = FaultCode × SchemaId

never : {A : Type 0} → false ≡ true → A
never isnt = absurd cc

-- all of them stand behind a number
all_behind : (number : ℕ) (play : List Absence) → ((a : Absence) (others : List Absence) → play ≡ a ∷ others → ltb number a.1.0 ≡ true)
    → (up_to number (absences_of play) ≡ []) × (behind number (absences_of play) ≡ absences_of play)
all_behind number [] later = (refl, refl)
all_behind number (a ∷ others) later =
    let past = ltb-true number a.1.0 (later a others refl) in
    (up_to_later number a others past, behind_later number a others past)

module _ (schema : Schema) (nodes : Nodes) where
  visits_more : (k : ℕ) (child : Child) (others : List Child)
      → visits k nodes (child ∷ others) ≡ 3 + (visits_below k nodes (Below child.1) + visits k nodes others)
  visits_more zero child others = let e = sum_by-cons (λ (c : Child). 3) child others in omega (arith, e)
  visits_more (suc k) child others =
      let e = sum_by-cons (λ (c : Child). 3 + visits k nodes (children_at nodes (Below c.1))) child others in omega (arith, e)

  -- a fault of a node that isn't stored comes first
  absence_first : (above : Option ℕ) (last position : ℕ) (a : Absence) (others : List Absence) (children : List Told)
      → ((t : Told) (ts : List Told) → children ≡ t ∷ ts → a.1.0 ≤ t.schema_number)
      → merged_behind schema above last position (absences_of (a ∷ others)) children
      ≡ absence_fault schema above (absence_of a) ∷ merged_behind schema above last position (absences_of others) children
  absence_first above last position a others [] lower = refl
  absence_first above last position a others (t ∷ ts) lower =
      let here = lower t ts refl in
      let fault = absence_fault schema above in
      let pos = position_behind last position t.schema_number in
      ap₂ (λ us bs. map fault us ++ (map (under (step_of schema t.schema_number pos)) t.faults ++ merged_behind schema above t.schema_number pos bs ts))
      (up_to_here t.schema_number a others here) (behind_here t.schema_number a others here)

  below_same : (k : ℕ) (r s : RowLeft) → s.above ≡ r.above → s.passed ≡ r.passed → below_left k schema nodes s ≡ below_left k schema nodes r
  below_same zero r s above passed = refl
  below_same (suc k) r s above passed =
      ap₂ (λ (a : Option Child) (p : ℕ). children_told k schema nodes (drop p (children_at nodes (row_of a)))) above passed

  -- none of its children stands before it
  lowest : (k : ℕ) (r : RowLeft) (child : Option Child) (a : Absence) → AwaitsChild k nodes r child
      → option_map_or (λ (c : Child). ltb c.0.0 a.1.0) child false ≡ false
      → (t : Told) (ts : List Told) → below_left k schema nodes r ≡ t ∷ ts → a.1.0 ≤ t.schema_number
  lowest k r None a none before t ts is = absurd (let e = ap length (sym (none schema) ∙ is) in omega (arith, e))
  lowest zero r (Some child) a next before t ts is = absurd (let e = ap length is in omega (arith, e))
  lowest (suc k) r (Some child) a next before t ts is =
      let front = sym (ap (children_told k schema nodes) next.1) ∙ is in
      let same : child.0.0 ≡ t.schema_number = ap (λ (xs : List Told). get_or (map (λ (x : Told). x.schema_number) xs) 0 0) front in
      let lower = ltb-false child.0.0 a.1.0 before in
      omega (arith, same, lower)

  pub gives_absence : (k : ℕ) (r s : RowLeft) (child : Option Child) (a : Absence) → AwaitsChild k nodes r child → IsNext nodes child a r
      → s.above ≡ r.above → s.told ≡ r.told + 1 → s.passed ≡ r.passed → s.last.0 ≡ r.last.0 → s.position ≡ r.position
      → row_left k schema nodes r ≡ absence_fault schema (number_above r.above) (absence_of a) ∷ row_left k schema nodes s
  gives_absence k r s child a awaits next above told passed last position =
      let others = drop (r.told + 1) (play_at nodes (row_of r.above)) in
      let left : merged_behind schema (number_above r.above) r.last.0 r.position (absences_of others) (below_left k schema nodes r) ≡ row_left k schema nodes s =
      sym (ap₂ (λ (b : Option Child) (t : ℕ). merged_behind schema (number_above b) s.last.0 s.position (absences_of (drop t (play_at nodes (row_of b)))) (below_left k schema nodes s)) above told
      ∙ (ap₂ (λ l p. merged_behind schema (number_above r.above) l p (absences_of others) (below_left k schema nodes s)) last position
      ∙ ap (merged_behind schema (number_above r.above) r.last.0 r.position (absences_of others)) (below_same k r s above passed))) in
      ap (λ (ys : List Absence). merged_behind schema (number_above r.above) r.last.0 r.position (absences_of ys) (below_left k schema nodes r)) next.1
      ∙ (absence_first (number_above r.above) r.last.0 r.position a others (below_left k schema nodes r) (lowest k r child a awaits next.0)
      ∙ ap (λ (fs : List Fault). absence_fault schema (number_above r.above) (absence_of a) ∷ fs) left)

  pub gives_none : (k : ℕ) (r : RowLeft) → AwaitsChild k nodes r None → NoneComes nodes None r → row_left k schema nodes r ≡ []
  gives_none k r none comes =
      ap (merged_behind schema (number_above r.above) r.last.0 r.position (absences_of (play_left nodes r))) (none schema)
      ∙ ap (map (absence_fault schema (number_above r.above))) (bare (play_left nodes r) comes)
    where
      bare : (play : List Absence) → ((a : Absence) (others : List Absence) → play ≡ a ∷ others → false ≡ true) → absences_of play ≡ []
      bare [] is = refl
      bare (a ∷ others) is = never (is a others refl)

  pub gives_child : (k : ℕ) (r s : RowLeft) (child : Child) → AwaitsChild k nodes r (Some child) → NoneComes nodes (Some child) r
      → s.above ≡ r.above → s.told ≡ r.told → s.passed ≡ r.passed + 1 → s.last.0 ≡ child.0.0 → s.position ≡ position_behind r.last.0 r.position child.0.0
      → Passes k schema nodes child r s
  gives_child zero r s child awaits comes above told passed last position = absurd (omega (arith, awaits.0))
  gives_child (suc k) r s child awaits comes above told passed last position =
      let others = drop (r.passed + 1) (children_at nodes (row_of r.above)) in
      let pos = position_behind r.last.0 r.position child.0.0 in
      let told' = child_told schema nodes (told_below k schema nodes (Below child.1)) child in
      let later = all_behind child.0.0 (play_left nodes r) comes in
      let first : row_left (suc k) schema nodes r
      ≡ map (under (step_of schema child.0.0 pos)) told'.faults
      ++ merged_behind schema (number_above r.above) child.0.0 pos (absences_of (play_left nodes r)) (children_told k schema nodes others) =
      ap (λ (cs : List Child). merged_behind schema (number_above r.above) r.last.0 r.position (absences_of (play_left nodes r)) (children_told k schema nodes cs)) awaits.1
      ∙ ap₂ (λ us bs. map (absence_fault schema (number_above r.above)) us ++ (map (under (step_of schema child.0.0 pos)) told'.faults
      ++ merged_behind schema (number_above r.above) child.0.0 pos bs (children_told k schema nodes others))) later.0 later.1 in
      let same : map (under (step_in schema s)) told'.faults ++ row_left (suc k) schema nodes s
      ≡ map (under (step_of schema child.0.0 pos)) told'.faults
      ++ merged_behind schema (number_above r.above) child.0.0 pos (absences_of (play_left nodes r)) (children_told k schema nodes others) =
      ap₂ (λ (l p : ℕ). map (under (step_of schema l p)) told'.faults ++ merged_behind schema (number_above s.above) l p (absences_of (play_left nodes s)) (children_told k schema nodes (children_left nodes s))) last position
      ∙ (ap₂ (λ (b : Option Child) (t : ℕ). map (under (step_of schema child.0.0 pos)) told'.faults
      ++ merged_behind schema (number_above b) child.0.0 pos (absences_of (drop t (play_at nodes (row_of b)))) (children_told k schema nodes (drop s.passed (children_at nodes (row_of b))))) above told
      ∙ ap (λ (p : ℕ). map (under (step_of schema child.0.0 pos)) told'.faults
      ++ merged_behind schema (number_above r.above) child.0.0 pos (absences_of (play_left nodes r)) (children_told k schema nodes (drop p (children_at nodes (row_of r.above))))) passed) in
      record {
        below = k;
        is_more = refl;
        given = first ∙ sym same;
        fewer = (let front = ap (visits k nodes) awaits.1 ∙ visits_more k child others in
            let back = ap₂ (λ (b : Option Child) (p : ℕ). visits k nodes (drop p (children_at nodes (row_of b)))) above passed in
            omega (arith, front, back));
      }
