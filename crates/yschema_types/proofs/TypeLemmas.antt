-- Types and circles of a plan's nodes, by the references of these.
use Rattle.std.proofs.Common.{◌≡◌, ℕ, zero, suc, ◌+◌, ◌<◌, ◌≤◌, Bool, true, false, cond, ◌==◌, ◌||◌, ◌&&◌, List, [], ◌∷◌, length, map, drop, get_or, replicate, Option, Some, None, refl, sym, ap, ap₂, ◌∙◌, subst, inl, inr, arith}
use Rattle.std.specs.Prelude.{option_map, option_and_then, option_to_list, slice_get, slice_set, unwrap_or}
use Rattle.std.specs.List.{All, cons_option, filter_map, list_any, range_with_len}
use Rattle.std.specs.List.Sorted.{IsPermutation}
use Rattle.std.specs.Option.{option_map_or}
use Rattle.std.proofs.lemmas.List.{at_drop_more}
use Rattle.std.proofs.lemmas.Option.{slice_get-map, slice_get-get_or}
use Rattle.std.proofs.Math.Path.{fun_ext}
use Rattle.yspec.specs.Forest.{size}
use Rattle.yspec.specs.types.Types.{YangType, type_in}
use Rattle.yspec.specs.linking.Graph as graph
use Rattle.yspec.specs.linking.Arguments.{Name}
use Rattle.yspec.specs.linking.Identities.{module_name}
use Rattle.yspec.specs.linking.Keyword.{type_word}
use Rattle.yspec.specs.linking.Source.{Source, first_with}
use Rattle.yspec.specs.linking.Prefixes.{NodeName, node_name}
use Rattle.yspec.specs.linking.TypeStatements as stated
use Rattle.yspec.specs.linking.TypeStatements.{own, of_target, of_union, own_member, leafref_member}
use Rattle.yspec.specs.linking.Planned as spec
use Rattle.yspec.specs.linking.Planned.{nodes_of, is_data, same_number, is_called, data_child_called, data_node_at, leaf_found, is_typed, meant_in, is_on_circle, path_target, member_target, targets_of, union_targets}
use Rattle.yspec.specs.linking.SchemaNodes.{number_in}
use Rattle.yspec_wide.specs.Types.{Keeping, is_wide_over, meant_in_of, type_of_kept, type_within_of}
use Rattle.ybase_graph.specs.Edges.{AreWithin, IsEdgeWithin, edge_view}
use Rattle.ybase_graph.specs.Reaching.{HasEdge, StandsBefore}
use Rattle.ybase_graph.specs.declared.circles.Edge.{Edge}
use Rattle.ybase_preorder.specs.View.{slots_in, forest_in}
use Rattle.ybase_preorder.specs.declared.slot.Slot.{Slot}
use Rattle.ybase_preorder.proofs.LabelLemmas.{label_at, length-labels, size-by}
use Rattle.ybase_preorder.proofs.RowLemmas.{size_forest}
use Rattle.ylink.specs.KeptMeaningsView.{type_meant_of}
use Rattle.yschema_plan.specs.PlanView.{view}
use Rattle.yschema_plan.specs.PlannedView.{planned_view}
use Rattle.yschema_plan.specs.declared.plan.Plan.{Plan}
use Rattle.yschema_plan.specs.declared.planned.Planned as code
use Rattle.yschema_plan.proofs.PlanLemmas.{nodes_are}
use Rattle.yschema_plan.proofs.NodeLemmas.{found_stands, find-filter, stands_at}
use Rattle.yschema_types.specs.MadeTypes.{Made, nothing, made_as, made_at, made_node, type_made, targets_made, is_wide_made, within_as, type_as, AreMade, AreTypes, IsOrder}
use Rattle.yschema_types.specs.MeantNodes.{meant_as}
use Rattle.yschema_types.specs.ReferenceEdges.{nodes_meant, edges_of, source_on, circled}
use Rattle.yschema_types.specs.Marks.{marked, marked_by}
use Rattle.ybase_graph.proofs.AmongLemmas.{Among, first, later, among_map, nowhere, parted}
use Rattle.yschema_types.proofs.EdgeLemmas.{Stands, circle_of_node, edges_inside}
use Rattle.yschema_types.proofs.MadeLemmas.{targets_are, wide_is}
use Rattle.yschema_types.proofs.MarkLemmas.{marked_by_at, none_set, same_by_get}
use Rattle.yschema_types.proofs.OrderLemmas as orders

some_is : {X : Type 0} → (x y : X) → Some x ≡ Some y → x ≡ y
some_is x y e = ap (λ o. unwrap_or o x) e

-- ---- nodes by number

module _ (plan : Plan) where
  pub number_is : (i : ℕ) (p : spec.Planned) → slice_get (nodes_of (view plan)) i ≡ Some p → p.number ≡ i
  number_is i p e = by (slice_get (slots_in plan.table) i)
      (sym (label_at planned_view 0 (slots_in plan.table) i) ∙ (ap (λ nodes. slice_get nodes i) (sym (nodes_are plan)) ∙ e))
    where
      by : (o : Option (Slot code.Planned)) → option_map (λ r. planned_view (0 + i) r.label) o ≡ Some p → p.number ≡ i
      by None h = absurd cc
      by (Some r) h = let same = ap number_in (some_is (planned_view (0 + i) r.label) p h) in omega (arith, same)

  pub stands : (i : ℕ) (p : spec.Planned) → slice_get (nodes_of (view plan)) i ≡ Some p → Stands (view plan) p
  stands i p e = ap (slice_get (nodes_of (view plan))) (number_is i p e) ∙ e

  pub nodes_counted : length (nodes_of (view plan)) ≡ size (view plan).nodes
  nodes_counted =
      ap length (nodes_are plan) ∙ (length-labels planned_view 0 (slots_in plan.table)
      ∙ sym (size-by planned_view 0 (forest_in plan.table) ∙ size_forest (slots_in plan.table)))

  -- ---- where paths lead

  child_stands : (scope : Option ℕ) (name : NodeName) (t : spec.Planned) → data_child_called (view plan) scope name ≡ Some t
      → slice_get (nodes_of (view plan)) t.number ≡ Some t
  child_stands scope name t e =
      sym (stands_at plan t.number)
      ∙ found_stands plan (λ p. is_data p && (same_number scope p.scope && is_called name p)) t
      (sym (find-filter is_data (λ p. same_number scope p.scope && is_called name p) (nodes_of (view plan))) ∙ e)

  way_stands : (scope : Option ℕ) (names : List NodeName) (t : spec.Planned) → data_node_at (view plan) scope names ≡ Some t
      → slice_get (nodes_of (view plan)) t.number ≡ Some t
  way_stands scope [] t e = absurd cc
  way_stands scope (name ∷ []) t e = child_stands scope name t e
  way_stands scope (name ∷ next ∷ names) t e = by (λ q. way_stands (Some q.number) (next ∷ names) t) (data_child_called (view plan) scope name) e
    where
      by : ((q : spec.Planned) → data_node_at (view plan) (Some q.number) (next ∷ names) ≡ Some t → slice_get (nodes_of (view plan)) t.number ≡ Some t)
          → (o : Option spec.Planned) → option_and_then (λ p. data_node_at (view plan) (Some p.number) (next ∷ names)) o ≡ Some t
          → slice_get (nodes_of (view plan)) t.number ≡ Some t
      by more None h = absurd cc
      by more (Some q) h = more q h

  leaf_stands : (o : Option spec.Planned) (t : spec.Planned) → leaf_found o ≡ Some t → o ≡ Some t
  leaf_stands None t e = absurd cc
  leaf_stands (Some q) t e = by (is_typed q) e
    where
      by : (b : Bool) → cond b (Some q) None ≡ Some t → Some q ≡ Some t
      by true h = h
      by false h = absurd cc

  path_stands : (p t : spec.Planned) (home : ℕ) (steps : List Name) → path_target (view plan) p home steps ≡ Some t → Stands (view plan) t
  path_stands p t home steps e =
      let names = map (node_name (view plan).modules home p.part.owner) steps in
      way_stands None names t (leaf_stands (data_node_at (view plan) None names) t e)

  -- all to which a node refers stand at their numbers
  members_stand : (p t : spec.Planned) (ms : List stated.Member) → Among t (filter_map (member_target (view plan) p) ms) → Stands (view plan) t
  members_stand p t [] at = absurd (nowhere t [] refl at)
  members_stand p t (own_member type ∷ ms) at = members_stand p t ms at
  members_stand p t (leafref_member home steps required ∷ ms) at = by (path_target (view plan) p home steps) refl at (members_stand p t ms)
    where
      by : (o : Option spec.Planned) → path_target (view plan) p home steps ≡ o → Among t (cons_option o (filter_map (member_target (view plan) p) ms))
          → (Among t (filter_map (member_target (view plan) p) ms) → Stands (view plan) t) → Stands (view plan) t
      by None is there rest = rest there
      by (Some u) is there rest = elim (parted t u (filter_map (member_target (view plan) p) ms) (u ∷ filter_map (member_target (view plan) p) ms) refl there) [
        | inl same ↦ path_stands p t home steps (is ∙ ap Some (sym same))
        | inr more ↦ rest more
      ]

  pub target_stands : (p t : spec.Planned) (o : Option stated.Meant) → Among t (nodes_meant (view plan) p o) → Stands (view plan) t
  target_stands p t None at = absurd (nowhere t [] refl at)
  target_stands p t (Some (own type)) at = absurd (nowhere t [] refl at)
  target_stands p t (Some (of_union members)) at = members_stand p t members at
  target_stands p t (Some (of_target home steps required)) at = by (path_target (view plan) p home steps) refl at
    where
      by : (o : Option spec.Planned) → path_target (view plan) p home steps ≡ o → Among t (option_to_list o) → Stands (view plan) t
      by None is there = absurd (nowhere t [] refl there)
      by (Some u) is there = elim (parted t u [] (u ∷ []) refl there) [
        | inl same ↦ path_stands p t home steps (is ∙ ap Some (sym same))
        | inr more ↦ absurd (nowhere t [] refl more)
      ]

  -- ---- references

  module _ (meant : spec.Planned → Option stated.Meant) where
    stand : (p t : spec.Planned) → Among t (nodes_meant (view plan) p (meant p)) → Stands (view plan) t
    stand p t at = target_stands p t (meant p) at

    pub edges_within : (edges : List Edge) → map edge_view edges ≡ edges_of (view plan) meant → AreWithin (size (view plan).nodes) edges
    edges_within edges are = all_of edges (λ e at. one e (subst (Among (edge_view e)) are (among_map edge_view e edges at)))
      where
        one : (e : Edge) → Among (edge_view e) (edges_of (view plan) meant) → IsEdgeWithin (size (view plan).nodes) e
        one e at =
            let both = edges_inside (view plan) meant number_is stand (edge_view e) at in
            let source = both.0 in
            let target = both.1 in
            let count = nodes_counted in
            let low : e.source < size (view plan).nodes = omega (arith, source, count) in
            let lower : e.target < size (view plan).nodes = omega (arith, target, count) in
            (low, lower)

        all_of : (es : List Edge) → ((e : Edge) → Among e es → IsEdgeWithin (size (view plan).nodes) e) → All (IsEdgeWithin (size (view plan).nodes)) es
        all_of [] each k d low = absurd (omega (arith, low))
        all_of (e ∷ es) each zero d low = each e first
        all_of (e ∷ es) each (suc k) d low = all_of es (λ x at. each x (later at)) k d (omega (arith, low))

    module _ (order : List ℕ) (is : IsOrder order (view plan) meant) where
      pub none_yet : (row : List Made) → row ≡ replicate (size (view plan).nodes) nothing → AreMade (view plan) meant order row 0
      none_yet = orders.first_made (view plan) meant nodes_counted number_is stand order is

      pub one_further : (row more : List Made) (i : ℕ) → i < length order
          → more ≡ slice_set row (get_or order i 0) (made_node (module_name (view plan).modules) (view plan) (map meant (nodes_of (view plan))) row (get_or order i 0))
          → AreMade (view plan) meant order row i → AreMade (view plan) meant order more (i + 1)
      one_further = orders.next_made (view plan) meant nodes_counted number_is stand order is

      pub all_further : (row : List Made) (i : ℕ) → length order ≤ i → AreMade (view plan) meant order row i → AreTypes row (view plan) meant
      all_further = orders.all_made (view plan) meant nodes_counted number_is stand order is

  -- ---- circles

  pub all_circled : circled (size (view plan).nodes) (edges_of (view plan) (meant_in (view plan))) ≡ map (is_on_circle (view plan)) (nodes_of (view plan))
  all_circled = same_by_get (circled (size (view plan).nodes) edges) (map (is_on_circle (view plan)) nodes) each
    where
      nodes : List spec.Planned
      nodes = nodes_of (view plan)

      edges : List graph.Edge
      edges = edges_of (view plan) (meant_in (view plan))

      first_marks : (i : ℕ) → slice_get (replicate (size (view plan).nodes) false) i ≡ option_map (λ p. false) (slice_get nodes i)
      first_marks i = ap (λ m. slice_get (replicate m false) i) (sym nodes_counted) ∙ none_set nodes i

      always : (b : Bool) → (b || false) ≡ (b && true)
      always true = refl
      always false = refl

      never : (b : Bool) → false ≡ (b && false)
      never true = refl
      never false = refl

      at_source : (i : ℕ) (e : graph.Edge) → list_any (λ m. m == i) (source_on edges e) ≡ (e.source == i && graph.is_on_circle edges e)
      at_source i e = by (graph.is_on_circle edges e)
        where
          by : (b : Bool) → list_any (λ m. m == i) (cond b (e.source ∷ []) []) ≡ (e.source == i && b)
          by true = always (e.source == i)
          by false = never (e.source == i)

      said : (i : ℕ) (o : Option spec.Planned) → slice_get nodes i ≡ o
          → option_map (λ b. b || list_any (λ e. list_any (λ m. m == i) (source_on edges e)) edges) (option_map (λ p. false) o) ≡ option_map (is_on_circle (view plan)) o
      said i None is = refl
      said i (Some p) is =
          ap Some (ap (λ test. list_any test edges) (fun_ext (at_source i))
          ∙ (ap (λ k. list_any (λ e. e.source == k && graph.is_on_circle edges e) edges) (sym (number_is i p is))
          ∙ circle_of_node (view plan) nodes_counted number_is (stand (meant_in (view plan))) p (stands i p is)))

      each : (i : ℕ) → slice_get (circled (size (view plan).nodes) edges) i ≡ slice_get (map (is_on_circle (view plan)) nodes) i
      each i =
          marked_by_at (source_on edges) (replicate (size (view plan).nodes) false) edges i
          ∙ (ap (option_map (λ b. b || list_any (λ e. list_any (λ m. m == i) (source_on edges e)) edges)) (first_marks i)
          ∙ (said i (slice_get nodes i) refl ∙ sym (slice_get-map (is_on_circle (view plan)) nodes i)))

-- an order of the nodes of a plan's references is one of the plan
pub ordered : (plan : spec.Plan) (meant : spec.Planned → Option stated.Meant) (count : ℕ) (edges : List Edge) (order held : List ℕ) → count ≡ size plan.nodes
    → map edge_view edges ≡ edges_of plan meant → held ≡ order → IsPermutation (range_with_len 0 count) order
    → ((a b : ℕ) → HasEdge (map edge_view edges) a b → graph.is_on_circle (map edge_view edges) (record { source = a; target = b }) ≡ false → StandsBefore order b a)
    → IsOrder held plan meant
ordered plan meant count edges order held counted are is all behind = subst (λ l. IsOrder l plan meant) (sym is) (record {
  all = subst (λ n. IsPermutation (range_with_len 0 n) order) counted all;
  behind = subst (λ (g : List graph.Edge). (a b : ℕ) → HasEdge g a b → graph.is_on_circle g (record { source = a; target = b }) ≡ false → StandsBefore order b a) are behind;
})

-- one edge more is looked at, of which it is told whether it lies on a circle
module _ (edges : List Edge) (flags : List Bool)
    (told : flags ≡ map (λ e. graph.is_on_circle (map edge_view edges) (edge_view e)) edges) where
  abbrev all : List graph.Edge
  all = map edge_view edges

  pub next_circled : (i : ℕ) (marks more whole : List Bool) → i < length edges
      → more ≡ marked marks (option_to_list (cond (unwrap_or (slice_get flags i) false) (option_map (λ (e : Edge). e.source) (slice_get edges i)) None))
      → marked_by (source_on all) marks (map edge_view (drop i edges)) ≡ whole → marked_by (source_on all) more (map edge_view (drop (i + 1) edges)) ≡ whole
  next_circled i marks more whole low pushed so_far =
      ap (λ ms. marked_by (source_on all) ms (map edge_view (drop (i + 1) edges))) (pushed ∙ ap (marked marks) said)
      ∙ (sym (ap (marked_by (source_on all) marks) (at_drop_more (map edge_view) edges i (record { source = 0; target = 0 }) low)) ∙ so_far)
    where
      e : Edge
      e = get_or edges i (record { source = 0; target = 0 })

      at : slice_get edges i ≡ Some e
      at = slice_get-get_or edges i (record { source = 0; target = 0 }) low

      flag : unwrap_or (slice_get flags i) false ≡ graph.is_on_circle all (edge_view e)
      flag =
          ap (λ fs. unwrap_or (slice_get fs i) false) told
          ∙ (ap (λ o. unwrap_or o false) (slice_get-map (λ d. graph.is_on_circle all (edge_view d)) edges i)
          ∙ ap (λ o. unwrap_or (option_map (λ d. graph.is_on_circle all (edge_view d)) o) false) at)

      by : (b : Bool) → option_to_list (cond b (Some e.source) None) ≡ cond b (e.source ∷ []) []
      by true = refl
      by false = refl

      said : option_to_list (cond (unwrap_or (slice_get flags i) false) (option_map (λ (d : Edge). d.source) (slice_get edges i)) None) ≡ source_on all (edge_view e)
      said =
          ap₂ (λ b (o : Option Edge). option_to_list (cond b (option_map (λ (d : Edge). d.source) o) None)) flag at
          ∙ by (graph.is_on_circle all (edge_view e))

-- ---- types over the names that are kept

within_same : (kept : Keeping) (plan : spec.Plan) (steps : ℕ) → type_within_of kept plan steps ≡ within_as plan (meant_in_of kept plan) steps
unfolding type_within_of within_as
within_same kept plan zero = refl
within_same kept plan (suc steps) =
    fun_ext (λ p. ap (λ others. option_and_then (spec.type_by plan others p) (meant_in_of kept plan p)) (within_same kept plan steps))

type_same : (kept : Keeping) (plan : spec.Plan) → type_of_kept kept plan ≡ type_as plan (meant_in_of kept plan)
type_same kept plan = fun_ext (λ p. ap (λ (within : spec.Planned → Option YangType). option_map (type_in (module_name plan.modules p.part.owner)) (within p))
    (within_same kept plan (suc (size plan.nodes))))

-- what their statements mean, by the numbers of these
pub meant_alike : (means : ℕ → Option stated.Meant) (kept : Keeping) (plan : spec.Plan)
    → ((number : ℕ) → means number ≡ type_meant_of kept plan.modules number) → meant_as means ≡ meant_in_of kept plan
meant_alike means kept plan are = fun_ext (λ p. by (first_with type_word p.part.own))
  where
    by : (o : Option Source) → option_and_then (λ (s : Source). means s.number) o ≡ option_and_then (λ (s : Source). type_meant_of kept plan.modules s.number) o
    by None = refl
    by (Some s) = are s.number

-- ---- what is held of one

module _ (row : List Made) (plan : spec.Plan) (meant : spec.Planned → Option stated.Meant) (n : ℕ) (p : spec.Planned)
    (are : AreTypes row plan meant) (at : slice_get (nodes_of plan) n ≡ Some p) where
  held_made : made_at row n ≡ made_as (module_name plan.modules) plan (type_as plan meant) p (meant p)
  held_made =
      let one : spec.Planned → Made = λ q. made_as (module_name plan.modules) plan (type_as plan meant) q (meant q) in
      ap (λ r. made_at r n) are.made
      ∙ (ap (λ o. unwrap_or o nothing) (slice_get-map one (nodes_of plan) n) ∙ ap (λ o. unwrap_or (option_map one o) nothing) at)

  held_type : type_made (made_at row n) ≡ type_as plan meant p
  held_type =
      by (slice_get row n)
      ∙ (ap (option_and_then (λ t. t)) (sym (slice_get-map type_made row n))
      ∙ (ap (λ ts. option_and_then (λ t. t) (slice_get ts n)) are.types
      ∙ (ap (option_and_then (λ t. t)) (slice_get-map (type_as plan meant) (nodes_of plan) n) ∙ ap (λ o. option_and_then (λ t. t) (option_map (type_as plan meant) o)) at)))
    where
      by : (o : Option Made) → type_made (unwrap_or o nothing) ≡ option_and_then (λ t. t) (option_map type_made o)
      by None = refl
      by (Some m) = refl

module _ (row : List Made) (kept : Keeping) (plan : spec.Plan) (n : ℕ) (p : spec.Planned)
    (are : AreTypes row plan (meant_in_of kept plan)) (at : slice_get (nodes_of plan) n ≡ Some p) where
  pub kept_type : type_made (made_at row n) ≡ type_of_kept kept plan p
  kept_type = held_type row plan (meant_in_of kept plan) n p are at ∙ sym (ap (λ (types : spec.Planned → Option YangType). types p) (type_same kept plan))

  made_kept : made_at row n ≡ made_as (module_name plan.modules) plan (type_of_kept kept plan) p (meant_in_of kept plan p)
  made_kept =
      held_made row plan (meant_in_of kept plan) n p are at
      ∙ sym (ap (λ types. made_as (module_name plan.modules) plan types p (meant_in_of kept plan p)) (type_same kept plan))

  pub kept_targets : targets_made (made_at row n) ≡ targets_of plan (type_of_kept kept plan) p (meant_in_of kept plan p)
  kept_targets =
      let made = made_as (module_name plan.modules) plan (type_of_kept kept plan) p (meant_in_of kept plan p) in
      ap targets_made made_kept
      ∙ (targets_are (module_name plan.modules) plan (type_of_kept kept plan) p (meant_in_of kept plan p)
      ∙ ap (λ o. option_map_or (λ type. option_map_or (union_targets plan (type_of_kept kept plan) p) (meant_in_of kept plan p) []) o [])
      (sym (ap type_made made_kept) ∙ kept_type))

  pub kept_width : is_wide_made (made_at row n) ≡ is_wide_over kept plan p
  kept_width = ap is_wide_made made_kept ∙ wide_is (module_name plan.modules) kept plan p (meant_in_of kept plan p)

-- ---- what is held of all

pub kept_made : (row : List Made) (kept : Keeping) (plan : spec.Plan) (means : ℕ → Option stated.Meant)
    → ((number : ℕ) → means number ≡ type_meant_of kept plan.modules number) → AreTypes row plan (meant_as means) → AreTypes row plan (meant_in_of kept plan)
kept_made row kept plan means are made = subst (AreTypes row plan) (meant_alike means kept plan are) made
