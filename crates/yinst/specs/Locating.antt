-- Where an edit stands, as the specification's.
use Rattle.std.specs.Prelude.{ℕ, Bool, List, [], ◌∷◌, ◌++◌, map, Option, Some, None, Result, Ok, nat_lt, if◌then◌else◌, option_and_then}
use Rattle.yspec.specs.Results.{◌>>=◌}
use Rattle.yspec.specs.schema.Schema.{Schema, keys_in}
use Rattle.yspec.specs.document.Document.{Tree, Step, step_to, step_at, instances_in, stored_in}
use Rattle.yspec.specs.edit.Edit.{instance_index}
use Rattle.yspec.specs.edit.EditText.{Key, Predicate, unsaid, at_position, with_keys}
use Rattle.yspec.specs.edit.Editing as spec
use Rattle.yspec.specs.edit.Editing.{EditRefusal, Target, refused}
use Rattle.yinst_tree.specs.View.{row_view}
use Rattle.yinst_path.specs.Binding.{node_of, step_view}
use Rattle.yinst.specs.declared.locating.Spot.{Spot}
use Rattle.yinst.specs.declared.locating.Located.{Located}

abbrev pub spot_view : Spot → Step
spot_view s = record { schema_number = s.id.0; position = s.position }

abbrev pub spots_view : List Spot → List Step
spots_view = map spot_view

abbrev pub located_view : Schema → Located → Target
located_view schema l =
    record { above = spots_view l.above.items; row = row_view l.row.now; last = step_view schema l.last }

-- the instance of the node of a number that is meant
abbrev pub meant_in : Schema → ℕ → Tree → ℕ → Predicate → Result Step EditRefusal
meant_in schema missing row number unsaid =
    if nat_lt 0 (instances_in row number) then Ok (step_to number) else refused missing
meant_in schema missing row number (at_position position) =
    if nat_lt (instances_in row number) position then refused 5 else Ok (step_at number position)
meant_in schema missing row number (with_keys keys) = spec.the_one missing number
    (spec.positions_where number (spec.fits_keys schema (keys_in (node_of schema number).kind) keys) 1 row)

-- whether a key is stored in an entry, valid and has the canonical text that is said
abbrev pub fits_key : Schema → ℕ → List Key → Tree → Bool
fits_key schema number keys entry = spec.is_the_text (spec.key_text keys schema number)
    (option_and_then (spec.text_of schema) (stored_in number entry))

-- the list of what was found
abbrev pub found_list : Option ℕ → List ℕ
found_list None = []
found_list (Some position) = position ∷ []

-- where an edit stands, below the spots so far
abbrev pub target_on : Schema → List Step → Tree → List spec.BoundStep → Result Target EditRefusal
target_on schema so_far row [] = refused 1
target_on schema so_far row (b ∷ []) = Ok (record { above = so_far; row = row; last = b })
target_on schema so_far row (b ∷ c ∷ bs) = spec.instance_meant schema 4 row b.schema_node b.predicate >>= (λ step.
    target_on schema (so_far ++ step ∷ []) (spec.row_at step.schema_number (instance_index step) row) (c ∷ bs))
