-- Steps to nodes that aren't stored, and what is told of those up to a number.
use Rattle.std.proofs.Common.{◌≡◌, ℕ, ◌≤◌, ◌<◌, min, cond, List, [], ◌∷◌, ◌++◌, map, length, drop, filter, Option, Some, None, refl, sym, ap, ap₂, ◌∙◌}
use Rattle.std.proofs.lemmas.Bool.{le-leb, lt-leb}
use Rattle.std.proofs.lemmas.List.{map-append, length-map, drop_min, drop-map}
use Rattle.std.proofs.lemmas.List.Elements.{filter-append}
use Rattle.yspec.specs.schema.Schema.{Schema, SchemaNode, is_data, node_at, way_to}
use Rattle.yschema_model.specs.Lookup.{alone, way_above}
use Rattle.yschema_model.specs.declared.node.SchemaId.{SchemaId}
use Rattle.yinst_tree.specs.View.{step_view, place_view}
use Rattle.yinst_tree.specs.declared.tree.Step.{Step}
use Rattle.ycheck.specs.declared.fault.FaultCode.{FaultCode}
use Rattle.yspec_play.specs.Merging.{to_node, data_depth, steps_down, up_to, behind}
use Rattle.ylive_list.specs.Listed.{data_way, absence_of, absences_of}

-- ---- ways

above_is : (schema : Schema) (above : Option ℕ) → data_way schema above ≡ filter (λ n. is_data n.kind) (way_above schema above)
above_is schema None = refl
above_is schema (Some number) = refl

depth_is : (schema : Schema) (above : Option ℕ) → data_depth schema above ≡ length (data_way schema above)
depth_is schema None = refl
depth_is schema (Some number) = refl

-- the way to a node is the way to the node above it, and itself
pub way_further : (schema : Schema) (number : ℕ) (above : Option ℕ) → way_to schema number ≡ way_above schema above ++ alone (node_at schema number)
    → map to_node (data_way schema above) ++ map to_node (filter (λ n. is_data n.kind) (alone (node_at schema number))) ≡ map to_node (data_way schema (Some number))
way_further schema number above way =
    sym (map-append to_node (data_way schema above) (filter (λ n. is_data n.kind) (alone (node_at schema number))))
    ∙ ap (map to_node) (ap (λ ns. ns ++ filter (λ n. is_data n.kind) (alone (node_at schema number))) (above_is schema above)
    ∙ (sym (filter-append (λ (n : SchemaNode). is_data n.kind) (way_above schema above) (alone (node_at schema number)))
    ∙ ap (filter (λ n. is_data n.kind)) (sym way)))

-- what a way has behind the way to the node above the row
pub inner_steps : (schema : Schema) (above : Option ℕ) (number : ℕ) (outer way inner : List Step)
    → place_view outer ≡ map to_node (data_way schema above) → place_view way ≡ map to_node (data_way schema (Some number))
    → inner ≡ drop (min (length outer) (length way)) way → place_view inner ≡ steps_down schema above number
inner_steps schema above number outer way inner out is rest =
    let count : length outer ≡ data_depth schema above =
    sym (length-map outer step_view) ∙ (ap length out ∙ (length-map (data_way schema above) to_node ∙ sym (depth_is schema above))) in
    ap place_view (rest ∙ drop_min (length outer) way)
    ∙ (sym (drop-map step_view (length outer) way)
    ∙ (ap₂ drop count is ∙ drop-map to_node (data_depth schema above) (data_way schema (Some number))))

-- ---- up to a number

module _ (id : ℕ) (a : FaultCode × SchemaId) (rest : List (FaultCode × SchemaId)) where
  pub up_to_here : a.1.0 ≤ id → up_to id (absences_of (a ∷ rest)) ≡ absence_of a ∷ up_to id (absences_of rest)
  up_to_here lower = ap (λ b. cond b (absence_of a ∷ up_to id (absences_of rest)) []) (le-leb a.1.0 id lower)

  pub behind_here : a.1.0 ≤ id → behind id (absences_of (a ∷ rest)) ≡ behind id (absences_of rest)
  behind_here lower = ap (λ b. cond b (behind id (absences_of rest)) (absences_of (a ∷ rest))) (le-leb a.1.0 id lower)

  pub up_to_later : id < a.1.0 → up_to id (absences_of (a ∷ rest)) ≡ []
  up_to_later upper = ap (λ b. cond b (absence_of a ∷ up_to id (absences_of rest)) []) (lt-leb a.1.0 id upper)

  pub behind_later : id < a.1.0 → behind id (absences_of (a ∷ rest)) ≡ absences_of (a ∷ rest)
  behind_later upper = ap (λ b. cond b (behind id (absences_of rest)) (absences_of (a ∷ rest))) (lt-leb a.1.0 id upper)
