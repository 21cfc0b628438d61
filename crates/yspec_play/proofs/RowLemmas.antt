-- What is in play of a row, woven with what its children tell, is what is told of nodes that aren't stored, merged with it.
use Rattle.std.proofs.Common.{◌≡◌, ℕ, suc, ◌+◌, ◌≤◌, ◌<◌, Bool, true, false, cond, eqb, ltb, ◌||◌, List, [], ◌∷◌, ◌++◌, map, length, Option, refl, sym, ap, ap₂, ◌∙◌, subst, arith, append_assoc}
use Rattle.std.specs.List.{flat_map}
use Rattle.std.specs.Option.{option_map_or}
use Rattle.std.proofs.lemmas.Bool.{eq-eqb, lt-ltb}
use Rattle.std.proofs.lemmas.Grind.{flat_map-append}
use Rattle.std.proofs.lemmas.List.{append-nil, length-map}
use Rattle.std.proofs.lemmas.List.Folds.{list_any-append}
use Rattle.yspec.specs.Forest.{Forest, end, node, size}
use Rattle.yspec.specs.schema.Schema.{Schema, SchemaNode, Kind, container, leaf, leaf_list, list, choice, case, Absence, allowed, default_used, mandatory, key, Amount, is_data, is_many}
use Rattle.yspec.specs.document.Document.{Step, step_to}
use Rattle.yspec.specs.document.Fault.{Fault, plain_fault}
use Rattle.yspec.specs.document.FaultCode.{FaultCode, V6, V7}
use Rattle.yspec.specs.document.Fitting.{IsNumbered}
use Rattle.yspec.specs.document.Play.{Item, visit, visit_each, cases, stored_among, stored_cases, or_default, choice_faults, absent_leaf, absent_items, amount_faults, exceeds, is_among, node_items, stored_inside, steps_inside, items_in_play}
use Rattle.yspec.specs.document.Faults.{Told, under, told_of, at_positions, item_faults, woven}
use Rattle.yspec_play.specs.Absences.{Absent, absent_leaf_told, amount_told, choice_told, node_absences, absences_in}
use Rattle.yspec_fit.specs.Fit.{CasesInChoices, is_choice, is_case}
use Rattle.yspec_play.specs.Merging.{absence_fault, merged}
use Rattle.yspec_play.proofs.AbsenceLemmas.{absences_between}
use Rattle.yspec_play.proofs.KnownLemmas.{Known}
use Rattle.yspec_play.proofs.MergedLemmas.{AllTold, all_told, all_told_joined, AllAbsent, all_absent, all_absent_joined, between_all, told_first, IsMany, entries_first, instance_first}
use Rattle.yspec_play.proofs.TellLemmas.{Leads, leads_further, Tells, tells_of, leaf_tells, amount_tells, choice_tells, defaults_tell, nothing, implied_told}
use Rattle.yspec_play.proofs.FilledLemmas.{Fills, Within, Sees, parts_of, among_filled}

-- ---- chosen cases

-- each case that has a stored data node is among the chosen ones
abbrev pub Chosen : (ℕ → ℕ) → List ℕ → Forest SchemaNode → Type 0
Chosen stored chosen f = (m : ℕ) → is_among (stored_cases stored f) m ≡ true → is_among chosen m ≡ true

or_true : (a b : Bool) → b ≡ true → (a || b) ≡ true
or_true true b e = refl
or_true false b e = e

chosen_later : (stored : ℕ → ℕ) (chosen : List ℕ) (n : SchemaNode) (below after : Forest SchemaNode) → Chosen stored chosen (node n below after) → Chosen stored chosen after
chosen_later stored chosen n below after so m there = so m
    (list_any-append (λ j. eqb j m) (cond (ltb 0 (stored_among stored below)) (n.number ∷ []) []) (stored_cases stored after)
    ∙ or_true (is_among (cond (ltb 0 (stored_among stored below)) (n.number ∷ []) []) m) (is_among (stored_cases stored after) m) there)

chosen_here : (stored : ℕ → ℕ) (chosen : List ℕ) (n : SchemaNode) (below after : Forest SchemaNode) → Chosen stored chosen (node n below after)
    → 0 < stored_among stored below → is_among chosen n.number ≡ true
chosen_here stored chosen n below after so some = so n.number
    (ap (λ b. is_among (cond b (n.number ∷ []) [] ++ stored_cases stored after) n.number) (lt-ltb 0 (stored_among stored below) some)
    ∙ ap (λ b. b || is_among (stored_cases stored after) n.number) (eq-eqb n.number n.number refl))

chosen_or_default : (default_case : Option ℕ) (numbers : List ℕ) (m : ℕ) → is_among numbers m ≡ true → is_among (or_default default_case numbers) m ≡ true
chosen_or_default default_case [] m e = absurd cc
chosen_or_default default_case (n ∷ ns) m e = e

chosen_in : (stored : ℕ → ℕ) (kind : Kind) (below : Forest SchemaNode) → is_choice kind ≡ true → Chosen stored (cases stored kind below) below
chosen_in stored (container presence) below is = absurd cc
chosen_in stored (leaf type absence) below is = absurd cc
chosen_in stored (leaf_list type defaults amount) below is = absurd cc
chosen_in stored (list tuples amount) below is = absurd cc
chosen_in stored (choice default_case is_mandatory) below is = λ m there. chosen_or_default default_case (stored_cases stored below) m there
chosen_in stored case below is = absurd cc

leaf_within : (number : ℕ) (absence : Absence) → AllAbsent (λ m. m ≤ number) (absent_leaf_told number absence)
leaf_within number allowed = tt
leaf_within number (default_used v) = tt
leaf_within number mandatory = (omega arith, tt)
leaf_within number key = (omega arith, tt)

amount_by : (a b : Bool) (number : ℕ) → AllAbsent (λ m. m ≤ number) (cond a ((V6, number) ∷ []) (cond b ((V7, number) ∷ []) []))
amount_by true b number = (omega arith, tt)
amount_by false true number = (omega arith, tt)
amount_by false false number = tt

amount_within : (number : ℕ) (amount : Amount) (count : ℕ) → AllAbsent (λ m. m ≤ number) (amount_told number amount count)
amount_within number amount count = amount_by (ltb count amount.min_elements) (exceeds count amount.max_elements) number

choice_within : (number : ℕ) (is_mandatory : Bool) (with_stored : List ℕ) → AllAbsent (λ m. m ≤ number) (choice_told number is_mandatory with_stored)
choice_within number true [] = (omega arith, tt)
choice_within number false [] = tt
choice_within number is_mandatory (first ∷ []) = tt
choice_within number is_mandatory (first ∷ second ∷ more) = (omega arith, tt)

case_is_none : (kind : Kind) → is_case kind ≡ true → is_data kind ≡ false
case_is_none (container presence) is = absurd cc
case_is_none (leaf type absence) is = absurd cc
case_is_none (leaf_list type defaults amount) is = absurd cc
case_is_none (list tuples amount) is = absurd cc
case_is_none (choice default_case is_mandatory) is = refl
case_is_none case is = refl

-- nothing is stored in a case that isn't chosen
not_chosen : (stored : ℕ → ℕ) (chosen : List ℕ) (n : SchemaNode) (below after : Forest SchemaNode) (first : List Told) → Chosen stored chosen (node n below after)
    → stored_among stored below ≡ length first → is_among chosen n.number ≡ false → first ≡ []
not_chosen stored chosen n below after [] so counted other = refl
not_chosen stored chosen n below after (t ∷ first) so counted other =
    absurd (let no : false ≡ true = sym other ∙ chosen_here stored chosen n below after so (omega (arith, counted)) in cc)

module _ (schema : Schema) (row : Option ℕ) (told : List Told) where
  abbrev fault_of : Absent → Fault
  fault_of a = absence_fault schema row a

  -- ---- of a node

  -- what is woven of it, in front of the rest, is what is told of it merged with its children and the rest
  abbrev Meets : List Item → List Absent → List Told → List Absent → List Told → Type 0
  Meets items here first xs rest = woven items told ++ merged schema row xs rest ≡ merged schema row (here ++ xs) (first ++ rest)

  -- nothing of it is stored
  unstored_meets : (middle : ℕ) (items : List Item) (here xs : List Absent) (rest : List Told) → woven items told ≡ map (absence_fault schema row) here
      → AllAbsent (λ m. m ≤ middle) here → AllTold (λ m. middle ≤ m) rest → Meets items here [] xs rest
  unstored_meets middle items here xs rest so before behind =
      ap (λ fs. fs ++ merged schema row xs rest) so ∙ sym (told_first schema row middle 0 0 here xs rest before behind)

  one_meets : (number middle count : ℕ) (items : List Item) (here xs : List Absent) (first rest : List Told)
      → count ≡ length first → told_of told number ≡ map (λ (t : Told). t.faults) first → AllTold (λ m. m ≡ number) first → IsMany schema row false number
      → number < middle → woven items told ≡ map (absence_fault schema row) here → AllAbsent (λ m. m ≤ middle) here
      → AllAbsent (λ m. middle ≤ m) xs → AllTold (λ m. middle ≤ m) rest
      → Meets (cond (ltb 0 count) (visit number ∷ []) items) (cond (ltb 0 count) [] here) first xs rest
  one_meets number middle count items here xs [] rest counted told_here own many less so before later behind =
      subst (λ c. Meets (cond (ltb 0 c) (visit number ∷ []) items) (cond (ltb 0 c) [] here) [] xs rest) (sym counted)
      (unstored_meets middle items here xs rest so before behind)
  one_meets number middle count items here xs (t ∷ first) rest counted told_here own many less so before later behind =
      subst (λ b. Meets (cond b (visit number ∷ []) items) (cond b [] here) (t ∷ first) xs rest) (sym (lt-ltb 0 count (omega (arith, counted))))
      (ap (λ fs. fs ++ merged schema row xs rest)
      (append-nil (flat_map (map (under (step_to number))) (told_of told number)) ∙ ap (flat_map (map (under (step_to number)))) told_here)
      ∙ sym (instance_first schema row number xs (t ∷ first) rest many own
      (all_told (λ m. middle ≤ m) (λ m. number < m) rest (λ m h. omega (arith, h, less)) behind)
      (all_absent (λ m. middle ≤ m) (λ m. number < m) xs (λ m h. omega (arith, h, less)) later)))

  each_woven : (number count : ℕ) (items : List Item) (first : List Told) → count ≡ length first → told_of told number ≡ map (λ (t : Told). t.faults) first
      → woven items told ≡ [] → woven (cond (ltb 0 count) (visit_each number ∷ []) items) told ≡ at_positions number 1 (map (λ (t : Told). t.faults) first)
  each_woven number count items [] counted told_here so = ap (λ c. woven (cond (ltb 0 c) (visit_each number ∷ []) items) told) counted ∙ so
  each_woven number count items (t ∷ first) counted told_here so =
      ap (λ b. woven (cond b (visit_each number ∷ []) items) told) (lt-ltb 0 count (omega (arith, counted)))
      ∙ (append-nil (at_positions number 1 (told_of told number)) ∙ ap (at_positions number 1) told_here)

  many_meets : (number middle count : ℕ) (amount : Amount) (steps : List Step) (items : List Item) (xs : List Absent) (first rest : List Told)
      → count ≡ length first → told_of told number ≡ map (λ (t : Told). t.faults) first → AllTold (λ m. m ≡ number) first → IsMany schema row true number
      → number < middle → woven items told ≡ []
      → ((code : FaultCode) → absence_fault schema row (code, number) ≡ plain_fault code steps) → AllAbsent (λ m. m ≤ number) (amount_told number amount count)
      → AllAbsent (λ m. middle ≤ m) xs → AllTold (λ m. middle ≤ m) rest
      → Meets (amount_faults steps amount count ++ cond (ltb 0 count) (visit_each number ∷ []) items) (amount_told number amount count) first xs rest
  many_meets number middle count amount steps items xs first rest counted told_here own many less so tells before later behind =
      let here = amount_told number amount count in
      let visits = cond (ltb 0 count) (visit_each number ∷ []) items in
      let each = at_positions number 1 (map (λ (t : Told). t.faults) first) in
      ap (λ fs. fs ++ merged schema row xs rest)
      (flat_map-append (item_faults told) (amount_faults steps amount count) visits
      ∙ ap₂ ◌++◌ (amount_tells schema row told number steps amount count tells) (each_woven number count items first counted told_here so))
      ∙ (append_assoc (map (absence_fault schema row) here) each (merged schema row xs rest)
      ∙ (ap (λ fs. map (absence_fault schema row) here ++ fs) (sym (entries_first schema row number xs first rest many own
      (all_told (λ m. middle ≤ m) (λ m. number < m) rest (λ m h. omega (arith, h, less)) behind)
      (all_absent (λ m. middle ≤ m) (λ m. number < m) xs (λ m h. omega (arith, h, less)) later)))
      ∙ sym (told_first schema row number 0 0 here xs (first ++ rest) before
      (all_told_joined (λ m. number ≤ m) first rest
      (all_told (λ m. m ≡ number) (λ m. number ≤ m) first (λ m e. omega (arith, e)) own)
      (all_told (λ m. middle ≤ m) (λ m. number ≤ m) rest (λ m h. omega (arith, h, less)) behind)))))

  choice_meets : (number : ℕ) (tells items : List Item) (here inside xs : List Absent) (first rest : List Told)
      → woven tells told ≡ map (absence_fault schema row) here → AllAbsent (λ m. m ≤ number) here → AllTold (λ m. number ≤ m) (first ++ rest)
      → Meets items inside first xs rest → Meets (tells ++ items) (here ++ inside) first xs rest
  choice_meets number tells items here inside xs first rest so before behind meets =
      ap (λ fs. fs ++ merged schema row xs rest) (flat_map-append (item_faults told) tells items ∙ ap (λ fs. fs ++ woven items told) so)
      ∙ (append_assoc (map (absence_fault schema row) here) (woven items told) (merged schema row xs rest)
      ∙ (ap (λ fs. map (absence_fault schema row) here ++ fs) meets
      ∙ (sym (told_first schema row number 0 0 here (inside ++ xs) (first ++ rest) before behind)
      ∙ ap (λ ys. merged schema row ys (first ++ rest)) (sym (append_assoc here inside xs)))))

  case_meets : (is_chosen : Bool) (items : List Item) (inside xs : List Absent) (first rest : List Told) → (is_chosen ≡ false → first ≡ [])
      → Meets items inside first xs rest → Meets (cond is_chosen items []) (cond is_chosen inside []) first xs rest
  case_meets true items inside xs first rest none meets = meets
  case_meets false items inside xs first rest none meets = ap (λ ts. merged schema row xs (ts ++ rest)) (sym (none refl))

  -- what is to be known of what is in play below
  abbrev Inner : Kind → List Item → List Absent → List Told → List Absent → List Told → Type 0
  Inner (container presence) items inside first xs rest = woven items told ≡ map (absence_fault schema row) inside
  Inner (choice default_case is_mandatory) items inside first xs rest = Meets items inside first xs rest
  Inner case items inside first xs rest = Meets items inside first xs rest
  Inner _ items inside first xs rest = Unit {0}

  own_limit : (number middle : ℕ) (here : List Absent) → number < middle → AllAbsent (λ m. m ≤ number) here → AllAbsent (λ m. m ≤ middle) here
  own_limit number middle here less all = all_absent (λ m. m ≤ number) (λ m. m ≤ middle) here (λ m h. omega (arith, h, less)) all

  module _ (stored : ℕ → ℕ) (chosen : List ℕ) (n : SchemaNode) (below : Forest SchemaNode) (middle : ℕ) (first : List Told) (xs : List Absent) (rest : List Told)
      (less : n.number < middle) (later : AllAbsent (λ m. middle ≤ m) xs) (behind : AllTold (λ m. middle ≤ m) rest) where
    node_meets : (kind : Kind) (items : List Item) (inside : List Absent) → Tells schema row n.number n.name kind []
        → IsMany schema row (is_many kind) n.number
        → (is_data kind ≡ true → stored n.number ≡ length first) → (is_data kind ≡ true → told_of told n.number ≡ map (λ (t : Told). t.faults) first)
        → (is_data kind ≡ true → AllTold (λ m. m ≡ n.number) first) → AllTold (λ m. n.number ≤ m) (first ++ rest)
        → (is_case kind ≡ true → is_among chosen n.number ≡ false → first ≡ []) → AllAbsent (λ m. m ≤ middle) inside → Inner kind items inside first xs rest
        → Meets (node_items stored chosen [] n kind below items) (node_absences stored chosen n kind below inside) first xs rest
    node_meets (container presence) items inside tells many counted told_here own all none within inner =
        one_meets n.number middle (stored n.number) (cond presence [] items) (cond presence [] inside) xs first rest (counted refl) (told_here refl) (own refl) many less
        (implied presence) (implied_within presence) later behind
      where
        implied : (b : Bool) → woven (cond b [] items) told ≡ map (absence_fault schema row) (cond b [] inside)
        implied true = refl
        implied false = inner

        implied_within : (b : Bool) → AllAbsent (λ m. m ≤ middle) (cond b [] inside)
        implied_within true = tt
        implied_within false = within
    node_meets (leaf type absence) items inside tells many counted told_here own all none within inner =
        one_meets n.number middle (stored n.number) (absent_leaf n.number (step_to n.number ∷ []) absence) (absent_leaf_told n.number absence) xs first rest
        (counted refl) (told_here refl) (own refl) many less (leaf_tells schema row told n.number n.name type [] absence tells)
        (own_limit n.number middle (absent_leaf_told n.number absence) less (leaf_within n.number absence)) later behind
    node_meets (leaf_list type defaults amount) items inside tells many counted told_here own all none within inner =
        many_meets n.number middle (stored n.number) amount (step_to n.number ∷ []) (absent_items n.number defaults) xs first rest
        (counted refl) (told_here refl) (own refl) many less (defaults_tell schema row told n.number defaults) tells (amount_within n.number amount (stored n.number)) later behind
    node_meets (list tuples amount) items inside tells many counted told_here own all none within inner =
        many_meets n.number middle (stored n.number) amount (step_to n.number ∷ []) [] xs first rest
        (counted refl) (told_here refl) (own refl) many less refl tells (amount_within n.number amount (stored n.number)) later behind
    node_meets (choice default_case is_mandatory) items inside tells many counted told_here own all none within inner =
        choice_meets n.number (choice_faults [] n is_mandatory (stored_cases stored below)) items (choice_told n.number is_mandatory (stored_cases stored below)) inside xs first rest
        (choice_tells schema row told n [] default_case is_mandatory (stored_cases stored below) tells) (choice_within n.number is_mandatory (stored_cases stored below)) all inner
    node_meets case items inside tells many counted told_here own all none within inner =
        case_meets (is_among chosen n.number) items inside xs first rest (none refl) inner

  -- ---- of a row

  inner_for : (stored : ℕ → ℕ) (kind : Kind) (number : ℕ) (chosen : List ℕ) (below : Forest SchemaNode) (first : List Told) (xs : List Absent) (rest : List Told)
      → (is_data kind ≡ true → woven (items_in_play nothing chosen (step_to number ∷ []) below) told ≡ map (absence_fault schema row) (absences_in nothing chosen below))
      → (is_data kind ≡ false → Meets (items_in_play stored chosen [] below) (absences_in stored chosen below) first xs rest)
      → Inner kind (items_in_play (stored_inside kind stored) chosen (steps_inside kind [] number) below) (absences_in (stored_inside kind stored) chosen below) first xs rest
  inner_for stored (container presence) number chosen below first xs rest implied here = implied refl
  inner_for stored (leaf type absence) number chosen below first xs rest implied here = tt
  inner_for stored (leaf_list type defaults amount) number chosen below first xs rest implied here = tt
  inner_for stored (list tuples amount) number chosen below first xs rest implied here = tt
  inner_for stored (choice default_case is_mandatory) number chosen below first xs rest implied here = here refl
  inner_for stored case number chosen below first xs rest implied here = here refl

  module _ (stored : ℕ → ℕ) (counts : (m : ℕ) → stored m ≡ length (told_of told m)) where
    pub row_meets : (f : Forest SchemaNode) (k : ℕ) (way : List SchemaNode) (in_choice : Bool) (chosen : List ℕ) (ts : List Told) (xs : List Absent) (rest : List Told)
        → IsNumbered k f → Known schema way f → Leads schema row way [] → CasesInChoices in_choice f → (in_choice ≡ true → Chosen stored chosen f)
        → Fills f ts → Sees told k (k + size f) ts → AllAbsent (λ m. k + size f ≤ m) xs → AllTold (λ m. k + size f ≤ m) rest
        → Meets (items_in_play stored chosen [] f) (absences_in stored chosen f) ts xs rest
    unfolding items_in_play absences_in
    row_meets end k way in_choice chosen ts xs rest numbered known leads cased so fills sees later behind =
        ap (λ us. merged schema row xs (us ++ rest)) (sym fills)
    row_meets (node n below after) k way in_choice chosen ts xs rest numbered known leads cased so fills sees later behind =
        let first = fills.0 in
        let others = fills.1 in
        let middle = k + 1 + size below in
        let limit = k + suc (size below + size after) in
        let parts = parts_of told n below after k ts numbered fills sees in
        let chosen_below = cases stored n.kind below in
        let items = items_in_play (stored_inside n.kind stored) chosen_below (steps_inside n.kind [] n.number) below in
        let inside = absences_in (stored_inside n.kind stored) chosen_below below in
        let items_after = items_in_play stored chosen [] after in
        let after_told = absences_in stored chosen after in
        let node_told = node_absences stored chosen n n.kind below inside in
        let node_play = node_items stored chosen [] n n.kind below items in
        let ys = after_told ++ xs in
        let us = others ++ rest in
        let further = leads_further schema row way [] n leads in
        let ys_later : AllAbsent (λ m. middle ≤ m) ys = all_absent_joined (λ m. middle ≤ m) after_told xs
        (all_absent (Within middle (middle + size after)) (λ m. middle ≤ m) after_told (λ m w. w.0)
        (between_all middle (middle + size after) after_told (absences_between after middle stored chosen numbered.2)))
        (all_absent (λ m. limit ≤ m) (λ m. middle ≤ m) xs (λ m h. omega (arith, h)) later) in
        let us_behind : AllTold (λ m. middle ≤ m) us = all_told_joined (λ m. middle ≤ m) others rest
        (all_told (Within middle (middle + size after)) (λ m. middle ≤ m) others (λ m w. w.0) parts.behind)
        (all_told (λ m. limit ≤ m) (λ m. middle ≤ m) rest (λ m h. omega (arith, h)) behind) in
        let after_meets : Meets items_after after_told others xs rest =
        row_meets after middle way in_choice chosen others xs rest numbered.2 known.4 leads cased.2 (λ is. chosen_later stored chosen n below after (so is))
        fills.5 parts.later
        (all_absent (λ m. limit ≤ m) (λ m. middle + size after ≤ m) xs (λ m h. omega (arith, h)) later)
        (all_told (λ m. limit ≤ m) (λ m. middle + size after ≤ m) rest (λ m h. omega (arith, h)) behind) in
        let inner = inner_for stored n.kind n.number chosen_below below first ys us
        (λ is. implied_told schema row told below (way ++ n ∷ []) chosen_below (step_to n.number ∷ []) known.3
        (subst (Leads schema row (way ++ n ∷ [])) (ap (λ b. cond b (step_to n.number ∷ []) []) is) further))
        (λ is. row_meets below (k + 1) (way ++ n ∷ []) (is_choice n.kind) chosen_below first ys us numbered.1 known.3
        (subst (Leads schema row (way ++ n ∷ [])) (ap (λ b. cond b (step_to n.number ∷ []) []) is) further)
        cased.1 (chosen_in stored n.kind below) (fills.4 is) (parts.inner is) ys_later us_behind) in
        let here : Meets node_play node_told first ys us =
        node_meets stored chosen n below middle first ys us (omega (arith, numbered.0)) ys_later us_behind n.kind items inside
        (tells_of schema row way [] n known.0 known.1 leads) (ap (λ o. option_map_or (λ n. is_many n.kind) o false) known.0)
        (λ is. counts n.number ∙ (ap length (parts.own is) ∙ length-map first (λ (t : Told). t.faults))) parts.own fills.3
        (all_told_joined (λ m. n.number ≤ m) first us
        (all_told (Within k middle) (λ m. n.number ≤ m) first (λ m w. omega (arith, w.0, numbered.0)) parts.within)
        (all_told (λ m. middle ≤ m) (λ m. n.number ≤ m) us (λ m h. omega (arith, h, numbered.0)) us_behind))
        (λ is. not_chosen stored chosen n below after first (so (cased.0 is))
        (among_filled told stored counts below (k + 1) first numbered.1 (fills.4 (case_is_none n.kind is)) (parts.inner (case_is_none n.kind is))))
        (all_absent (Within (k + 1) (k + 1 + size below)) (λ m. m ≤ middle) inside (λ m w. omega (arith, w.1))
        (between_all (k + 1) (k + 1 + size below) inside (absences_between below (k + 1) (stored_inside n.kind stored) chosen_below numbered.1)))
        inner in
        ap (λ fs. fs ++ merged schema row xs rest) (flat_map-append (item_faults told) node_play items_after)
        ∙ (append_assoc (woven node_play told) (woven items_after told) (merged schema row xs rest)
        ∙ (ap (λ fs. woven node_play told ++ fs) after_meets
        ∙ (here
        ∙ ap₂ (merged schema row) (sym (append_assoc node_told after_told xs))
        (sym (append_assoc first others rest) ∙ ap (λ vs. vs ++ rest) (sym fills.2)))))
