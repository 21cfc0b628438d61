-- A store whose indexes say what its document holds tells of each node what is told there.
use Rattle.std.proofs.Common.{◌≡◌, ℕ, suc, ◌+◌, ◌<◌, ◌≤◌, Bool, false, List, [], ◌∷◌, ◌++◌, length, Option, Some, None, refl, sym, ap, ap₂, ◌∙◌, cond, arith, subst}
use Rattle.std.specs.Prelude.{option_map, option_and_then, slice_get, unwrap_or}
use Rattle.std.specs.List.{sum_by}
use Rattle.std.specs.Option.{option_map_or}
use Rattle.std.proofs.lemmas.Option.{none-some, same_Some}
use Rattle.yspec.specs.Forest.{end, node, join}
use Rattle.yspec.specs.schema.Schema.{Schema, SchemaNode, LeafType, children_of, has_value, node_at, type_in}
use Rattle.yspec.specs.document.Document.{Stored, Tree}
use Rattle.yspec.specs.document.Fault.{Fault}
use Rattle.yspec.specs.document.Fitting.{Fits, IsNumbered}
use Rattle.yspec.specs.document.Instances.{times_in}
use Rattle.yspec.specs.document.Faults.{Times, RowTimes, row_times, faults_at, faults_of}
use Rattle.ycheck.specs.Walk.{marks_told}
use Rattle.yspec_fit.specs.Fit.{CasesInChoices}
use Rattle.yspec_play.specs.Merging.{absences_below}
use Rattle.ylive_list.specs.Listed.{absences_of, judged_told, is_item, list_told, own_told}
use Rattle.ylive_list.specs.Telling as listing
use Rattle.ylive_list.specs.Telling.{Tells, TellsAt, TellsBelow}
use Rattle.ylive_list.proofs.TellingLemmas.{faults_are, total_is}
use Rattle.ystore.specs.Held.{Held, Told, held_of}
use Rattle.ystore.specs.Store.{held_at, play_at, total_at}
use Rattle.ystore_rows.specs.declared.row.Row.{Row}
use Rattle.ystore_rows.specs.declared.row.Row.TheVariants.{Top, Below}
use Rattle.ystore.specs.declared.record.Judged as stored
use Rattle.ystore.specs.declared.record.Judged.TheVariants.{Right, Wrong, Missing}
use Rattle.ystore.specs.declared.nodes.Nodes.{Nodes}
use Rattle.ystore_tree.specs.Hanging.{Numbered, Branches, child_of, is_number, stored_of, times, tree_of}
use Rattle.ystore_tree.specs.Ways.{Frame, Way, around, end_of}
use Rattle.ystore_tree.proofs.HangingLemmas.{weigh_around, weigh_join, is_itself}
use Rattle.ystore_tree.proofs.FoundLemmas.{around_more, end_more}
use Rattle.ylive_facts.specs.Judging.{Judged, right, judged_view, kind_judged}
use Rattle.ylive_facts.specs.Keys.{Key, flagged_key, key_view, kind_reference, kind_flags}
use Rattle.ylive_facts.specs.Telling as telling
use Rattle.ylive_facts.specs.Telling.{times_of, with_reference, flags_from, judged_faults, told_faults}
use Rattle.ylive_facts.proofs.TellingLemmas.{told_by_keys}
use Rattle.ylive_marks.specs.Keys.{Agrees, IsJudged, Own, is_shared, own_of}
use Rattle.ylive_marks.specs.Totals as totals
use Rattle.ylive_marks.specs.Totals.{IsTree}
use Rattle.ylive_retell.specs.Each.{Each}
use Rattle.ylive_retell.specs.IsTold.{IsTold, TellsOwn}
use Rattle.ylive_retell.specs.Keyed.{HasKeys}
use Rattle.ylive_retell.proofs.HoldLemmas.{counts_same}
use Rattle.ylive.proofs.FlagLemmas.{flags_are}
use Rattle.ylive.proofs.HolderLemmas.{shared_is}
use Rattle.ylive.proofs.JudgedLemmas.{judged_is}

-- ---- what is held of a node

record There (o : Option Held) (own : Own) : Type 0 where
  held : Held
  is : o ≡ Some held
  is_own : own_of held.told ≡ own

there : (o : Option Held) (own : Own) → option_map own_of (option_map (λ h. h.told) o) ≡ Some own → There o own
there None own e = absurd (none-some own e)
there (Some h) own e = record { held = h; is = refl; is_own = same_Some (own_of h.told) own e }

same_faults : (j : stored.Judged) → judged_told j ≡ judged_faults (judged_view j)
same_faults Right = refl
same_faults (Wrong tag) = refl
same_faults Missing = refl

-- ---- totals, as both crates say them

same_told : (j : stored.Judged) → totals.is_told j ≡ listing.is_told j
same_told Right = refl
same_told (Wrong tag) = refl
same_told Missing = refl

same_number : (o : Option Told) → option_map_or totals.number_of o 0 ≡ option_map_or listing.number_of o 0
same_number None = refl
same_number (Some t) = ap (λ (b : Bool). cond b 1 0 + (sum_by (λ (b : Bool). cond b 1 0) t.same + length t.play)) (same_told t.judged)

module _ (nodes : Nodes) where
  same_at_row : (row : Row) → totals.told_count nodes row ≡ listing.number_at nodes row
  same_at_row row = same_number (totals.told_at nodes row)

  same_sums : (f : Branches) → totals.all_told nodes f ≡ listing.all_told nodes f
  same_sums end = refl
  same_sums (node n below after) = ap₂ ◌+◌ (same_at_row (Below n.id)) (ap₂ ◌+◌ (same_sums below) (same_sums after))

  same_totals : (f : Branches) → totals.AreTotals nodes f → listing.AreTotals nodes f
  same_totals end are = tt
  same_totals (node n below after) are =
      (are.0 ∙ ap₂ ◌+◌ (same_at_row (Below n.id)) (same_sums below), same_totals below are.1, same_totals after are.2)

-- what is told by keys, where the schema has the node
module _ (schema : Schema) (above : Row) (s : Stored) (t : Tree) (count : Key → ℕ) where
  abbrev judged : Judged
  judged = telling.judged_at count schema s

  abbrev flags : List Bool
  flags = telling.flags_at count schema above s t

  faults_by : (o : Option SchemaNode) → node_at schema s.schema_number ≡ o
      → judged_faults judged ++ marks_told (option_map_or (λ (n : SchemaNode). has_value n.kind) o false) 0 flags ≡ option_map_or (λ n. told_faults n judged flags) o []
  faults_by (Some n) found = refl
  faults_by None found = ap₂ (λ (j : Judged) (bs : List Bool). judged_faults j ++ marks_told false 0 bs) unjudged unflagged
    where
      unjudged : judged ≡ right
      unjudged = ap (λ (o : Option SchemaNode). with_reference count
          (option_and_then (λ (n : SchemaNode). kind_reference schema n.kind s) o)
          (option_map_or (λ (n : SchemaNode). kind_judged (option_map (λ (type : LeafType). type.type) (type_in n.kind)) s.value) o right)) found

      unflagged : flags ≡ []
      unflagged = ap (λ (o : Option SchemaNode). flags_from (λ u. telling.is_shared count (flagged_key schema above s t u)) 0 (option_map_or (λ (n : SchemaNode). kind_flags n.distinct_items n.kind) o 0)) found

module _ (schema : Schema) (nodes : Nodes) (f : Branches) (tree : IsTree nodes f) (told : IsTold schema nodes f) where
  abbrev document : Times
  document = times_in schema (tree_of f)

  -- ---- a node of a row

  module _ (way : Way) (g : Branches) (is : f ≡ around way g) where
    abbrev row : RowTimes
    row = row_times schema (tree_of g)

    abbrev here : Row
    here = end_of Top way

    module _ (n : Numbered) (below : Branches) (standing : 0 < times n.id.0 f) (keyed : HasKeys schema (λ number slot. option_map key_view (told.held number slot)) here n below)
        (own : TellsOwn schema nodes here n below) where
      abbrev at : There (held_at nodes (Below n.id)) own.own
      at = there (held_at nodes (Below n.id)) own.own own.held

      node_judged : judged_view at.held.told.judged ≡ telling.judged_at (times_of document row) schema (stored_of n)
      node_judged =
          judged_is schema nodes document told.values row here (stored_of n) (tree_of below) at.held.told.judged (told.held n.id.0 0) (keyed 0)
          (subst (λ o. IsJudged nodes (told.held n.id.0 0) (option_map (λ t. t.judged) (option_map (λ h. h.told) o))) at.is (told.agrees.tells.judged n.id standing))
          (ap (λ o. o.wrong) at.is_own ∙ own.is_wrong)

      shared : (u : ℕ) → is_shared nodes (told.held n.id.0 (suc u)) ≡ telling.is_shared (times_of document row) (flagged_key schema here (stored_of n) (tree_of below) u)
      shared u =
          shared_is schema nodes told.held way g (subst (λ h. Agrees nodes told.held h) is told.agrees) (λ k. subst (λ h. times k h ≤ 1) is (tree.once k))
          (subst (λ h. Each (HasKeys schema (λ number slot. option_map key_view (told.held number slot))) Top h) is told.keyed)
          document (stored_of n) (tree_of below) u (told.held n.id.0 (suc u)) (λ key e. told.agrees.index.slots n.id.0 (suc u) key e) (keyed (suc u))

      node_flags : at.held.told.same ≡ telling.flags_at (times_of document row) schema here (stored_of n) (tree_of below)
      node_flags =
          flags_are at.held.told.same (λ u. telling.is_shared (times_of document row) (flagged_key schema here (stored_of n) (tree_of below) u)) 0
          (λ u.
          subst (λ o. unwrap_or (slice_get (option_map_or (λ h. h.told.same) o []) u) false ≡ telling.is_shared (times_of document row) (flagged_key schema here (stored_of n) (tree_of below) u))
          at.is (told.agrees.tells.flags n.id u standing ∙ shared u)
          ∙ ap (λ k. telling.is_shared (times_of document row) (flagged_key schema here (stored_of n) (tree_of below) k)) (let from_zero : u ≡ 0 + u = omega arith in from_zero))
          ∙ ap (flags_from (λ u. telling.is_shared (times_of document row) (flagged_key schema here (stored_of n) (tree_of below) u)) 0)
          (ap (λ o. o.flags) at.is_own ∙ (own.are_flags ∙ counts_same schema n.schema.0))

      abbrev own_list : List Fault
      own_list = judged_told at.held.told.judged ++ marks_told (is_item schema n.schema.0) 0 at.held.told.same

      list_is : own_told schema nodes (child_of n) ≡ own_list
      list_is = ap (λ (o : Option Held). option_map_or judged_told (option_map (λ h. h.told.judged) o) [] ++ marks_told (is_item schema n.schema.0) 0 (option_map_or (λ h. h.told.same) o [])) at.is

      own_is : own_list ≡ faults_at document row schema (stored_of n) (tree_of below)
      own_is =
          ap₂ (λ (a b : List Fault). a ++ b) (same_faults at.held.told.judged ∙ ap judged_faults node_judged) (ap (marks_told (is_item schema n.schema.0) 0) node_flags)
          ∙ (faults_by schema here (stored_of n) (tree_of below) (times_of document row) (node_at schema n.schema.0) refl
          ∙ sym (told_by_keys document row schema here (stored_of n) (tree_of below)))

      play_is : absences_of at.held.told.play ≡ absences_below (children_of schema n.schema.0) (tree_of below)
      play_is = ap (λ o. absences_of o.play) at.is_own ∙ own.is_play

      tells_at : TellsAt document row schema nodes n below
      tells_at =
          record {
            own = list_is ∙ own_is;
            play = ap (λ (o : Option Held). absences_of (option_map_or (λ h. h.told.play) o [])) at.is ∙ play_is;
          }

  -- ---- all of them

  abbrev Keyed : Row → Branches → Type 0
  Keyed = Each (HasKeys schema (λ number slot. option_map key_view (told.held number slot)))

  join_more : (first : Branches) (n : Numbered) (below after : Branches) → join (join first (node n below end)) after ≡ join first (node n below after)
  join_more end n below after = refl
  join_more (node m under rest) n below after = ap (node m under) (join_more rest n below after)

  stands_in : (way : Way) (first : Branches) (n : Numbered) (below after : Branches) → f ≡ around way (join first (node n below after)) → 0 < times n.id.0 f
  stands_in way first n below after is =
      let whole = ap (times n.id.0) is in
      let around_it = weigh_around (is_number n.id.0) way (join first (node n below after)) in
      let joined = weigh_join (is_number n.id.0) first (node n below after) in
      let one = is_itself n in
      omega (arith, whole, around_it, joined, one)

  rows : (way : Way) (first rest : Branches) → f ≡ around way (join first rest) → Keyed (end_of Top way) rest → Each (TellsOwn schema nodes) (end_of Top way) rest
      → TellsBelow document (row_times schema (tree_of (join first rest))) schema nodes rest
  rows way first end is keyed own = tt
  rows way first (node n below after) is keyed own =
      let frame : Frame = record { before = first; label = n; after = after } in
      let down : f ≡ around (way ++ frame ∷ []) below = is ∙ sym (around_more way frame below) in
      let to : Below n.id ≡ end_of Top (way ++ frame ∷ []) = sym (end_more Top way frame) in
      let same = join_more first n below after in
      let later = rows way (join first (node n below end)) after (is ∙ ap (around way) (sym same)) keyed.2 own.2 in (
        tells_at way (join first (node n below after)) is n below (stands_in way first n below after is) keyed.0 own.0,
        rows (way ++ frame ∷ []) end below down (subst (λ r. Keyed r below) to keyed.1) (subst (λ r. Each (TellsOwn schema nodes) r below) to own.1),
        subst (λ h. TellsBelow document (row_times schema (tree_of h)) schema nodes after) same later,
      )

  pub tells_is : Tells schema nodes f
  tells_is = record { play = told.top; below = rows [] end f refl told.keyed told.each; totals = same_totals nodes f told.totals.below }

  -- ---- how many there are

  top_number : (t : Told) → option_map (λ (t : Told). t.judged) (Some t) ≡ Some Right → option_map (λ (t : Told). t.same) (Some t) ≡ Some [] → totals.number_of t ≡ length t.play
  top_number t value same =
      let parts = ap₂ (λ (j : stored.Judged) (bs : List Bool). totals.number_of (record { judged = j; same = bs; play = t.play })) (same_Some t.judged Right value) (same_Some t.same [] same) in
      omega (arith, parts)

  top_is : total_at nodes Top ≡ length (play_at nodes Top) + listing.all_told nodes f
  top_is = told.totals.top ∙ ap₂ ◌+◌ (top_number (held_of nodes.top).told told.bare.judged told.bare.same) (same_sums nodes f)

  module _ (numbered : IsNumbered 0 schema.nodes) (cased : CasesInChoices false schema.nodes) (fits : Fits schema (tree_of f)) where
    pub faults_is : list_told schema nodes ≡ faults_of schema (tree_of f)
    faults_is = faults_are schema nodes f tree.hangs tree.within tells_is numbered cased fits

    pub count_is : total_at nodes Top ≡ length (faults_of schema (tree_of f))
    count_is = total_is schema nodes f tells_is top_is numbered cased fits
