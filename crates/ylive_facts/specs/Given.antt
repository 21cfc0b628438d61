-- The values that instances of schema nodes have, of those to which leafrefs refer.
use Rattle.std.specs.Prelude.{ℕ, Bool, List, map, filter, length, nat_lt, option_to_list}
use Rattle.yspec.specs.types.Types.{Val}
use Rattle.yspec.specs.schema.Schema.{Schema}
use Rattle.yspec.specs.schema.References.{references_to}
use Rattle.yspec.specs.document.Document.{Stored}
use Rattle.yspec.specs.document.Instances.{value_of}
use Rattle.yschema_model.specs.declared.node.SchemaId.{SchemaId}
use Rattle.yspec_play.specs.Absences.{Default}

-- the number of a schema node, and a value that an instance of it has
abbrev pub given_view : List (SchemaId × Val) → List Default
given_view = map (λ g. (g.0.0, g.1))

-- whether any leafref refers to the schema node of a number
abbrev pub is_referred : Schema → ℕ → Bool
is_referred schema number = nat_lt 0 (length (references_to schema number))

-- those of schema nodes that are referred to
abbrev pub referred : Schema → List Default → List Default
referred schema = filter (λ g. is_referred schema g.0)

-- the valid value of a stored node
abbrev pub own_values : Schema → Stored → List Default
own_values schema s = map (λ v. (s.schema_number, v)) (option_to_list (value_of schema s))
