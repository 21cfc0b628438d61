-- What a path means, as the specification's.
use Rattle.std.specs.Prelude.{ℕ, nat_lt, length, Bool, true, false, ◌&&◌, List, [], ◌∷◌, ◌++◌, map, Option, Some, unwrap_or, Result, Ok}
use Rattle.std.specs.Option.{option_map_or}
use Rattle.std.specs.List.{list_all, list_any}
use Rattle.yspec.specs.schema.Schema.{Schema, SchemaNode, case, current, node_at, child_written}
use Rattle.yspec.specs.edit.EditText as text
use Rattle.yspec.specs.edit.EditText.{Predicate, Path, Edit, create, replace, remove, move_to}
use Rattle.yspec.specs.edit.Editing as spec
use Rattle.yspec.specs.edit.Editing.{EditRefusal, refused}
use Rattle.yinst_path.specs.EditView.{predicate_view}
use Rattle.yinst_path.specs.declared.binding.BoundStep.{BoundStep}
use Rattle.yinst_path.specs.declared.binding.Bound.{Bound}

-- what a number means that no node has: what stands in no document
abbrev pub no_node : ℕ → SchemaNode
no_node number =
    record { number = number; module_number = 0; name = []; config = true; distinct_items = true; status = current; kind = case }

abbrev pub node_of : Schema → ℕ → SchemaNode
node_of schema number = unwrap_or (node_at schema number) (no_node number)

abbrev pub bound_step : Schema → ℕ → Predicate → spec.BoundStep
bound_step schema number predicate = record { schema_node = node_of schema number; predicate = predicate }

abbrev pub step_view : Schema → BoundStep → spec.BoundStep
step_view schema b = bound_step schema b.id.0 (predicate_view b.predicate.now)

abbrev pub steps_view : Schema → List BoundStep → List spec.BoundStep
steps_view schema = map (step_view schema)

abbrev pub bound_view : Schema → Bound → List spec.BoundStep
bound_view schema b = steps_view schema b.steps.items

-- what steps mean below a node, or from the top on, behind those that were bound so far
abbrev pub bound_on : Schema → List spec.BoundStep → Option ℕ → Path → Result (List spec.BoundStep) EditRefusal
bound_on schema so_far parent [] = Ok so_far
bound_on schema so_far parent (s ∷ steps) = option_map_or (λ number.
    bound_on schema (so_far ++ bound_step schema number s.predicate ∷ []) (Some number) steps) (child_written schema parent s.name) (refused 2)

-- whether a list with these keys bears a predicate
abbrev pub fits_list : Schema → List ℕ → Predicate → Bool
fits_list schema numbers text.unsaid = false
fits_list schema numbers (text.at_position n) = true
fits_list schema numbers (text.with_keys keys) = nat_lt 0 (length numbers) && spec.names_keys schema numbers keys

-- whether one of the keys has the name of a node
abbrev pub is_named : Schema → ℕ → List text.Key → Bool
is_named schema number keys = list_any (λ (k : text.Key). spec.has_name schema k.name number) keys

abbrev pub are_named : Schema → List text.Key → List ℕ → Bool
are_named schema keys numbers = list_all (λ number. is_named schema number keys) numbers

-- what an edit's path means
abbrev pub bound_of : Schema → Edit → Result (List spec.BoundStep) EditRefusal
bound_of schema (create path text) = spec.bound schema true path
bound_of schema (replace path text) = spec.bound schema false path
bound_of schema (remove path) = spec.bound schema false path
bound_of schema (move_to path position) = spec.bound_to_move schema path position
