-- What is in play of nodes that aren't stored tells the faults of what is told of them, and so does a container that is
-- implied.
use Rattle.std.proofs.Common.{◌≡◌, ℕ, ◌≤◌, Bool, true, false, cond, ltb, List, [], ◌∷◌, ◌++◌, map, length, drop, filter, Option, Some, refl, sym, ap, ap₂, ◌∙◌, subst, arith, length-append}
use Rattle.std.specs.Option.{option_map_or}
use Rattle.std.proofs.lemmas.Grind.{flat_map-append}
use Rattle.std.proofs.lemmas.List.{append-nil, map-append, drop-append-le}
use Rattle.std.proofs.lemmas.List.Elements.{filter-append}
use Rattle.yspec.specs.Forest.{Forest, end, node}
use Rattle.yspec.specs.text.Text.{Text}
use Rattle.yspec.specs.types.Types.{Val}
use Rattle.yspec.specs.schema.Schema.{Schema, SchemaNode, Kind, container, leaf, leaf_list, list, choice, case, Absence, allowed, default_used, mandatory, key, Amount, LeafType, is_data, node_at, way_to}
use Rattle.yspec.specs.document.Document.{Step, step_to}
use Rattle.yspec.specs.document.Fault.{Fault, no_info, plain_fault, fault_with}
use Rattle.yspec.specs.document.FaultCode.{FaultCode, V2, V3, V4, V5, V6, V7}
use Rattle.yspec.specs.document.Play.{Item, tell, cases, stored_cases, choice_faults, absent_leaf, absent_items, exceeds, amount_faults, is_among, node_items, stored_inside, steps_inside, items_in_play}
use Rattle.yspec.specs.document.Faults.{Told, item_faults, woven}
use Rattle.yspec_play.specs.Absences.{Absent, absent_leaf_told, amount_told, choice_told, node_absences, absences_in}
use Rattle.yspec_play.specs.Merging.{data_depth, to_node, steps_down, kind_info, absence_fault}
use Rattle.yspec_play.proofs.KnownLemmas.{Known}

-- of no schema node an instance is stored
abbrev pub nothing : ℕ → ℕ
nothing number = 0

-- ---- steps

module _ (schema : Schema) (row : Option ℕ) where
  -- the steps from the node above a row to the end of a way
  abbrev pub Leads : List SchemaNode → List Step → Type 0
  Leads way above = (map to_node (drop (data_depth schema row) (filter (λ n. is_data n.kind) way)) ≡ above)
      × (data_depth schema row ≤ length (filter (λ n. is_data n.kind) way))

  one_further : (n : SchemaNode) (above : List Step) (b : Bool) → is_data n.kind ≡ b
      → above ++ map to_node (filter (λ (n : SchemaNode). is_data n.kind) (n ∷ [])) ≡ cond b (above ++ step_to n.number ∷ []) above
  one_further n above true is = ap (λ b. above ++ map to_node (cond b (n ∷ []) [])) is
  one_further n above false is = ap (λ b. above ++ map to_node (cond b (n ∷ []) [])) is ∙ append-nil above

  pub leads_further : (way : List SchemaNode) (above : List Step) (n : SchemaNode) → Leads way above → Leads (way ++ n ∷ []) (steps_inside n.kind above n.number)
  leads_further way above n leads =
      let depth = data_depth schema row in
      let is = λ (n : SchemaNode). is_data n.kind in
      let parts = filter-append is way (n ∷ []) in
      let long = length-append (filter is way) (filter is (n ∷ [])) in (
        ap (λ ns. map to_node (drop depth ns)) parts
            ∙ (ap (map to_node) (drop-append-le depth (filter is way) (filter is (n ∷ [])) leads.1)
            ∙ (map-append to_node (drop depth (filter is way)) (filter is (n ∷ []))
            ∙ (ap (λ steps. steps ++ map to_node (filter is (n ∷ []))) leads.0 ∙ one_further n above (is_data n.kind) refl))),
        subst (λ k. depth ≤ k) (sym (ap length parts)) (omega (arith, leads.1, long)),
      )

  -- the fault that is told of a node
  abbrev pub Tells : ℕ → Text → Kind → List Step → Type 0
  Tells number name kind above = (code : FaultCode) → absence_fault schema row (code, number) ≡ fault_with (kind_info kind name) code (steps_inside kind above number)

  pub tells_of : (way : List SchemaNode) (above : List Step) (n : SchemaNode) → node_at schema n.number ≡ Some n → way_to schema n.number ≡ way ++ n ∷ []
      → Leads way above → Tells n.number n.name n.kind above
  tells_of way above n here leads_to leads code =
      let steps : steps_down schema row n.number ≡ steps_inside n.kind above n.number =
      ap (λ (w : List SchemaNode). map to_node (drop (data_depth schema row) (filter (λ n. is_data n.kind) w))) leads_to ∙ (leads_further way above n leads).0 in
      ap₂ (λ (o : Option SchemaNode) (above : List Step). fault_with (option_map_or (λ n. kind_info n.kind n.name) o no_info) code above) here steps

  -- ---- what isn't stored

  module _ (told : List Told) where
    pub leaf_tells : (number : ℕ) (name : Text) (type : LeafType) (above : List Step) (absence : Absence) → Tells number name (leaf type absence) above
        → woven (absent_leaf number (above ++ step_to number ∷ []) absence) told ≡ map (absence_fault schema row) (absent_leaf_told number absence)
    leaf_tells number name type above allowed tells = refl
    leaf_tells number name type above (default_used v) tells = refl
    leaf_tells number name type above mandatory tells = ap (λ (f : Fault). f ∷ []) (sym (tells V3))
    leaf_tells number name type above key tells = ap (λ (f : Fault). f ∷ []) (sym (tells V2))

    amount_by : (a b : Bool) (number : ℕ) (steps : List Step)
        → ((code : FaultCode) → absence_fault schema row (code, number) ≡ plain_fault code steps)
        → woven (cond a (tell (plain_fault V6 steps) ∷ []) (cond b (tell (plain_fault V7 steps) ∷ []) [])) told
        ≡ map (absence_fault schema row) (cond a ((V6, number) ∷ []) (cond b ((V7, number) ∷ []) []))
    amount_by true b number steps tells = ap (λ (f : Fault). f ∷ []) (sym (tells V6))
    amount_by false true number steps tells = ap (λ (f : Fault). f ∷ []) (sym (tells V7))
    amount_by false false number steps tells = refl

    pub amount_tells : (number : ℕ) (steps : List Step) (amount : Amount) (count : ℕ)
        → ((code : FaultCode) → absence_fault schema row (code, number) ≡ plain_fault code steps)
        → woven (amount_faults steps amount count) told ≡ map (absence_fault schema row) (amount_told number amount count)
    amount_tells number steps amount count tells = amount_by (ltb count amount.min_elements) (exceeds count amount.max_elements) number steps tells

    pub choice_tells : (n : SchemaNode) (above : List Step) (default_case : Option ℕ) (is_mandatory : Bool) (with_stored : List ℕ)
        → Tells n.number n.name (choice default_case is_mandatory) above
        → woven (choice_faults above n is_mandatory with_stored) told ≡ map (absence_fault schema row) (choice_told n.number is_mandatory with_stored)
    choice_tells n above default_case true [] tells = ap (λ (f : Fault). f ∷ []) (sym (tells V4))
    choice_tells n above default_case false [] tells = refl
    choice_tells n above default_case is_mandatory (first ∷ []) tells = refl
    choice_tells n above default_case is_mandatory (first ∷ second ∷ more) tells = ap (λ (f : Fault). f ∷ []) (sym (tells V5))

    pub defaults_tell : (number : ℕ) (vs : List Val) → woven (absent_items number vs) told ≡ []
    defaults_tell number [] = refl
    defaults_tell number (v ∷ vs) = refl

    -- ---- a container that is implied

    either_told : (b : Bool) (items : List Item) (absences : List Absent) → woven items told ≡ map (absence_fault schema row) absences
        → woven (cond b items []) told ≡ map (absence_fault schema row) (cond b absences [])
    either_told true items absences so = so
    either_told false items absences so = refl

    other_told : (b : Bool) (items : List Item) (absences : List Absent) → woven items told ≡ map (absence_fault schema row) absences
        → woven (cond b [] items) told ≡ map (absence_fault schema row) (cond b [] absences)
    other_told true items absences so = refl
    other_told false items absences so = so

    node_implied : (chosen : List ℕ) (above : List Step) (n : SchemaNode) (kind : Kind) (below : Forest SchemaNode) (items : List Item) (inside : List Absent)
        → Tells n.number n.name kind above → woven items told ≡ map (absence_fault schema row) inside
        → woven (node_items nothing chosen above n kind below items) told ≡ map (absence_fault schema row) (node_absences nothing chosen n kind below inside)
    node_implied chosen above n (container presence) below items inside tells so = other_told presence items inside so
    node_implied chosen above n (leaf type absence) below items inside tells so = leaf_tells n.number n.name type above absence tells
    node_implied chosen above n (leaf_list type defaults amount) below items inside tells so =
        flat_map-append (item_faults told) (amount_faults (above ++ step_to n.number ∷ []) amount 0) (absent_items n.number defaults)
        ∙ (ap₂ ◌++◌ (amount_tells n.number (above ++ step_to n.number ∷ []) amount 0 tells) (defaults_tell n.number defaults)
        ∙ append-nil (map (absence_fault schema row) (amount_told n.number amount 0)))
    node_implied chosen above n (list tuples amount) below items inside tells so =
        flat_map-append (item_faults told) (amount_faults (above ++ step_to n.number ∷ []) amount 0) []
        ∙ (ap (λ (fs : List Fault). fs ++ []) (amount_tells n.number (above ++ step_to n.number ∷ []) amount 0 tells)
        ∙ append-nil (map (absence_fault schema row) (amount_told n.number amount 0)))
    node_implied chosen above n (choice default_case is_mandatory) below items inside tells so =
        flat_map-append (item_faults told) (choice_faults above n is_mandatory (stored_cases nothing below)) items
        ∙ (ap₂ ◌++◌ (choice_tells n above default_case is_mandatory (stored_cases nothing below) tells) so
        ∙ sym (map-append (absence_fault schema row) (choice_told n.number is_mandatory (stored_cases nothing below)) inside))
    node_implied chosen above n case below items inside tells so = either_told (is_among chosen n.number) items inside so

    inside_nothing : (kind : Kind) → stored_inside kind nothing ≡ nothing
    inside_nothing (container presence) = refl
    inside_nothing (leaf type absence) = refl
    inside_nothing (leaf_list type defaults amount) = refl
    inside_nothing (list tuples amount) = refl
    inside_nothing (choice default_case is_mandatory) = refl
    inside_nothing case = refl

    -- what is in play where nothing is stored
    pub implied_told : (f : Forest SchemaNode) (way : List SchemaNode) (chosen : List ℕ) (above : List Step) → Known schema way f → Leads way above
        → woven (items_in_play nothing chosen above f) told ≡ map (absence_fault schema row) (absences_in nothing chosen f)
    unfolding items_in_play absences_in
    implied_told end way chosen above known leads = refl
    implied_told (node n below after) way chosen above known leads =
        let chosen_below = cases nothing n.kind below in
        let above_below = steps_inside n.kind above n.number in
        let items = items_in_play (stored_inside n.kind nothing) chosen_below above_below below in
        let inside = absences_in (stored_inside n.kind nothing) chosen_below below in
        let inner : woven items told ≡ map (absence_fault schema row) inside =
        ap (λ (stored : ℕ → ℕ). woven (items_in_play stored chosen_below above_below below) told) (inside_nothing n.kind)
        ∙ (implied_told below (way ++ n ∷ []) chosen_below above_below known.3 (leads_further way above n leads)
        ∙ sym (ap (λ (stored : ℕ → ℕ). map (absence_fault schema row) (absences_in stored chosen_below below)) (inside_nothing n.kind))) in
        flat_map-append (item_faults told) (node_items nothing chosen above n n.kind below items) (items_in_play nothing chosen above after)
        ∙ (ap₂ ◌++◌ (node_implied chosen above n n.kind below items inside (tells_of way above n known.0 known.1 leads) inner)
        (implied_told after way chosen above known.4 leads)
        ∙ sym (map-append (absence_fault schema row) (node_absences nothing chosen n n.kind below inside) (absences_in nothing chosen after)))
