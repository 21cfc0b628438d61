-- A schema has fewer than 2^32 nodes, and so has each of its rows; and where it has few defaults, few are in use in a row.
use Rattle.std.proofs.Common.{◌≡◌, ℕ, ◌+◌, ◌^◌, ◌<◌, ◌≤◌, Bool, true, false, List, [], ◌∷◌, length, map, Option, Some, None, arith, cond, eqb, ltb, length-append}
use Rattle.std.specs.Prelude.{unwrap_or, filter}
use Rattle.std.proofs.lemmas.List.{length-map}
use Rattle.yspec.specs.Forest.{Forest, end, node, size, weigh, find_below, joined_below}
use Rattle.yspec.specs.types.Types.{Val}
use Rattle.yspec.specs.schema.Schema as spec
use Rattle.yspec.specs.schema.Schema.{SchemaNode, Kind, container, leaf, leaf_list, list, choice, case, Absence, allowed, default_used, mandatory, key, row_at}
use Rattle.yspec.specs.document.Document.{Tree, instances_in}
use Rattle.yspec.specs.document.Play.{cases, is_among, stored_inside}
use Rattle.yspec_play.specs.Absences.{Default, absent_leaf_default, defaults_in, node_defaults}
use Rattle.yspec_reach.specs.Sizes.{absence_defaults, default_count}
use Rattle.ylive_facts.specs.Given.{is_referred}
use Rattle.ylive_retell.specs.Few.{HasFewDefaults, own_defaults}
use Rattle.ylive_retell.specs.Standing.{defaults_in_row}
use Rattle.yschema_model.specs.View.{view}
use Rattle.yschema_model.specs.declared.schema.Schema.{Schema}
use Rattle.yschema_model.proofs.QueryLemmas.{size_of_forest}

-- a row below is no larger
pub few_below : (p : SchemaNode → Bool) (f : Forest SchemaNode) → size (unwrap_or (find_below p f) end) ≤ size f
few_below p end = omega arith
few_below p (node l below after) = by (p l) (find_below p below) (find_below p after) (few_below p below) (few_below p after)
  where
    by : (b : Bool) (first second : Option (Forest SchemaNode)) → size (unwrap_or first end) ≤ size below → size (unwrap_or second end) ≤ size after
        → size (unwrap_or (cond b (Some below) (joined_below first second)) end) ≤ size (node l below after)
    by true first second a b = omega arith
    by false (Some f) second a b = omega (arith, a)
    by false None (Some g) a b = omega (arith, b)
    by false None None a b = omega arith

few_nodes : (s : Schema) → size (view s).nodes < 2 ^ 32
few_nodes s =
    let all : size (view s).nodes ≡ length s.slots.items = size_of_forest (length s.slots.items) 0 s.slots.items (omega arith) in
    let few = s.numbered in
    omega (arith, all, few)

pub few_rows_of : (s : Schema) (above : Option ℕ) → size (row_at (view s) above) ≤ 2 ^ 32
few_rows_of s None = let few = few_nodes s in omega (arith, few)
few_rows_of s (Some parent) =
    let few = few_nodes s in
    let below = few_below (λ n. eqb n.number parent) (view s).nodes in
    omega (arith, few, below)

-- ---- defaults

few_either : {X : Type 0} (b : Bool) (xs ys : List X) (most : ℕ) → length xs ≤ most → length ys ≤ most → length (cond b xs ys) ≤ most
few_either true xs ys most first second = first
few_either false xs ys most first second = second

few_of_leaf : (number : ℕ) (absence : Absence) → length (absent_leaf_default number absence) ≤ absence_defaults absence
few_of_leaf number allowed = omega arith
few_of_leaf number (default_used v) = omega arith
few_of_leaf number mandatory = omega arith
few_of_leaf number key = omega arith

few_at : (stored : ℕ → ℕ) (chosen : List ℕ) (n : SchemaNode) (kind : Kind) (inside : List Default) (most : ℕ) → length inside ≤ most
    → length (node_defaults stored chosen n kind inside) ≤ default_count kind + most
few_at stored chosen n (container presence) inside most few =
    few_either (ltb 0 (stored n.number)) [] _ (0 + most) (omega arith) (few_either presence [] inside (0 + most) (omega arith) (omega (arith, few)))
few_at stored chosen n (leaf type absence) inside most few =
    let own = few_of_leaf n.number absence in
    few_either (ltb 0 (stored n.number)) [] _ (absence_defaults absence + most) (omega arith) (omega (arith, own))
few_at stored chosen n (leaf_list type defaults amount) inside most few =
    let all : ℕ → Val → Default = λ m v. (m, v) in
    let same : length (map (all n.number) defaults) ≡ length defaults = length-map defaults (all n.number) in
    few_either (ltb 0 (stored n.number)) [] _ (length defaults + most) (omega arith) (omega (arith, same))
few_at stored chosen n (list tuples amount) inside most few = omega arith
few_at stored chosen n (choice default_case is_mandatory) inside most few = omega (arith, few)
few_at stored chosen n case inside most few =
    few_either (is_among chosen n.number) inside [] (0 + most) (omega (arith, few)) (omega arith)

few_used : (stored : ℕ → ℕ) (chosen : List ℕ) (f : Forest SchemaNode) → length (defaults_in stored chosen f) ≤ weigh own_defaults f
unfolding defaults_in
few_used stored chosen end = omega arith
few_used stored chosen (node n below after) =
    let inside = defaults_in (stored_inside n.kind stored) (cases stored n.kind below) below in
    let inner = few_used (stored_inside n.kind stored) (cases stored n.kind below) below in
    let here = few_at stored chosen n n.kind inside (weigh own_defaults below) inner in
    let later = few_used stored chosen after in
    let both = length-append (node_defaults stored chosen n n.kind inside) (defaults_in stored chosen after) in
    omega (arith, here, later, both)

pub few_chosen : (p : Default → Bool) (ds : List Default) → length (filter p ds) ≤ length ds
few_chosen p [] = omega arith
few_chosen p (d ∷ ds) = by (p d) (few_chosen p ds)
  where
    by : (b : Bool) → length (filter p ds) ≤ length ds → length (cond b (d ∷ filter p ds) (filter p ds)) ≤ length (d ∷ ds)
    by true few = omega (arith, few)
    by false few = omega (arith, few)

defaults_below : (p : SchemaNode → Bool) (f : Forest SchemaNode) → weigh own_defaults (unwrap_or (find_below p f) end) ≤ weigh own_defaults f
defaults_below p end = omega arith
defaults_below p (node l below after) = by (p l) (find_below p below) (find_below p after) (defaults_below p below) (defaults_below p after)
  where
    by : (b : Bool) (first second : Option (Forest SchemaNode)) → weigh own_defaults (unwrap_or first end) ≤ weigh own_defaults below
        → weigh own_defaults (unwrap_or second end) ≤ weigh own_defaults after
        → weigh own_defaults (unwrap_or (cond b (Some below) (joined_below first second)) end) ≤ weigh own_defaults (node l below after)
    by true first second a b = omega arith
    by false (Some f) second a b = omega (arith, a)
    by false None (Some g) a b = omega (arith, b)
    by false None None a b = omega arith

defaults_at : (schema : spec.Schema) (above : Option ℕ) → weigh own_defaults (row_at schema above) ≤ weigh own_defaults schema.nodes
defaults_at schema None = omega arith
defaults_at schema (Some parent) = defaults_below (λ n. eqb n.number parent) schema.nodes

pub few_in_use : (schema : spec.Schema) → HasFewDefaults schema → (above : Option ℕ) (t : Tree) → length (defaults_in_row schema above t) ≤ 2 ^ 32
few_in_use schema few above t =
    let chosen = few_chosen (λ d. is_referred schema d.0) (defaults_in (instances_in t) [] (row_at schema above)) in
    let used = few_used (instances_in t) [] (row_at schema above) in
    let row = defaults_at schema above in
    omega (arith, chosen, used, row, few)
