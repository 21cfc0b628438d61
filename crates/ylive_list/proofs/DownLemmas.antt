-- How many steps lead down to a node, and a fault that is told there.
use Rattle.std.proofs.Common.{◌≡◌, ℕ, zero, suc, ◌+◌, ◌≤◌, Bool, true, false, cond, List, [], ◌∷◌, ◌++◌, map, length, drop, filter, Option, Some, None, ap₂, ◌∙◌, arith, length-append}
use Rattle.std.proofs.Math.Nat.{le-max_left, le-max_right}
use Rattle.std.proofs.lemmas.List.{drop-map}
use Rattle.std.specs.Prelude.{slice_get, unwrap_or}
use Rattle.yspec.specs.Forest.{Forest, end, node, levels}
use Rattle.yspec.specs.schema.Schema.{Schema, SchemaNode, is_data, ways, way_to}
use Rattle.yspec.specs.text.Text.{Text}
use Rattle.yspec.specs.document.Document.{Step}
use Rattle.yspec.specs.document.Fault.{Fault, Info, fault_with}
use Rattle.yspec.specs.document.FaultCode.{FaultCode, tag_of, own_app_tag}
use Rattle.yspec.specs.document.RowFaults.{prefixed}
use Rattle.yschema_model.specs.View as schema_view
use Rattle.yschema_model.specs.declared.schema.Schema as rust
use Rattle.yschema_model.proofs.CallerLemmas.{not_deep}
use Rattle.yspec_play.specs.Merging.{to_node, data_depth, steps_down}
use Rattle.ylive_list.specs.Listed.{data_way}

-- ---- no way is longer than there are levels

abbrev AreWithin : ℕ → List (List SchemaNode) → Type 0
AreWithin n [] = Unit {0}
AreWithin n (w ∷ ws) = (length w ≤ n) × AreWithin n ws

within_both : (n : ℕ) (ws vs : List (List SchemaNode)) → AreWithin n ws → AreWithin n vs → AreWithin n (ws ++ vs)
within_both n [] vs first second = second
within_both n (w ∷ ws) vs first second = (first.0, within_both n ws vs first.1 second)

within_at : (n : ℕ) (ws : List (List SchemaNode)) (i : ℕ) → AreWithin n ws → length (unwrap_or (slice_get ws i) []) ≤ n
within_at n [] i are = omega arith
within_at n (w ∷ ws) zero are = are.0
within_at n (w ∷ ws) (suc i) are = within_at n ws i are.1

ways_within : (n : ℕ) (above : List SchemaNode) (f : Forest SchemaNode) → length above + levels f ≤ n → AreWithin n (ways above f)
ways_within n above end few = tt
ways_within n above (node m below after) few =
    let here = length-append above (m ∷ []) in
    let inner = le-max_left (suc (levels below)) (levels after) in
    let later = le-max_right (suc (levels below)) (levels after) in (
      omega (arith, here, inner, few),
      within_both n (ways (above ++ m ∷ []) below) (ways above after)
          (ways_within n (above ++ m ∷ []) below (omega (arith, here, inner, few)))
          (ways_within n above after (omega (arith, later, few))),
    )

filter_within : (p : SchemaNode → Bool) (ns : List SchemaNode) → length (filter p ns) ≤ length ns
filter_within p [] = omega arith
filter_within p (n ∷ ns) = by (p n) (filter_within p ns)
  where
    by : (b : Bool) → length (filter p ns) ≤ length ns → length (cond b (n ∷ filter p ns) (filter p ns)) ≤ suc (length ns)
    by true less = omega (arith, less)
    by false less = omega (arith, less)

pub few_above : (s : rust.Schema) (id : Option ℕ) → data_depth (schema_view.view s) id ≤ 60
few_above s None = omega arith
few_above s (Some number) =
    let deep = not_deep s in
    let way = within_at 60 (ways [] (schema_view.view s).nodes) number (ways_within 60 [] (schema_view.view s).nodes (omega (arith, deep))) in
    let chosen = filter_within (λ n. is_data n.kind) (way_to (schema_view.view s) number) in
    omega (arith, way, chosen)

-- ---- a fault told down there

-- the steps from the node above a row
pub down_is : (schema : Schema) (above : Option ℕ) (number : ℕ)
    → drop (data_depth schema above) (map to_node (data_way schema (Some number))) ≡ steps_down schema above number
down_is schema above number = drop-map to_node (data_depth schema above) (data_way schema (Some number))

abbrev pub made_of : FaultCode → Text → Option Text → List Step → Info → Fault
made_of code t a p i = record { code = code; tag = t; app_tag = a; steps = p; info = i }

pub told_down : (code : FaultCode) (t : Text) (a : Option Text) (p q r : List Step) (i j : Info) → t ≡ tag_of code → a ≡ own_app_tag code → q ≡ p ++ r → i ≡ j
    → made_of code t a q i ≡ prefixed p (fault_with j code r)
told_down code t a p q r i j tag app_tag steps info =
    ap₂ (λ (t' : Text) (a' : Option Text). made_of code t' a' q i) tag app_tag
    ∙ ap₂ (λ (q' : List Step) (i' : Info). made_of code (tag_of code) (own_app_tag code) q' i') steps info
