-- What is written of rows and nodes, with the indentation as code holds it.
use Rattle.std.specs.Prelude.{ℕ, ◌==◌, ◌++◌, Bool, true, not, List, [], ◌∷◌, codes, filter, map, take, Option, Some, None, if◌then◌else◌}
use Rattle.std.specs.List.{flat_map, list_any}
use Rattle.std.specs.Option.{option_map_or}
use Rattle.yspec.specs.Forest.{Forest, end, node}
use Rattle.yspec.specs.text.Text.{Text}
use Rattle.yspec.specs.schema.Schema.{Schema, SchemaNode, Augment, is_data, node_at, children_of, child_in, way_to}
use Rattle.yspec.specs.schema.Diagram as spec
use Rattle.yspec.specs.schema.Diagram.{prefixed_name, line_text, row_width, row_lines}
use Rattle.yschema_model.specs.View.{label_of, below_of, augment_view}
use Rattle.yschema_model.specs.declared.children.Child.{Child}
use Rattle.yschema_model.specs.declared.schema.Augment as held
use Rattle.ydiagram.specs.declared.indentation.Indentation.{Indentation, Top, Added, Below'}

abbrev pub column : Bool → Text
column is_followed = if is_followed then codes "|  " else codes "   "

abbrev pub indentation_text : Indentation → Text
indentation_text Top = codes "  "
indentation_text Added = codes "    "
indentation_text (Below' p above is_followed) = indentation_text above ++ column is_followed

-- the step of a path to a node; none to a choice or case
abbrev pub step_by : Schema → ℕ → SchemaNode → Text
step_by schema shown n = if is_data n.kind then codes "/" ++ prefixed_name schema shown n else []

abbrev pub step_text : Schema → ℕ → ℕ → Text
step_text schema shown number = option_map_or (step_by schema shown) (node_at schema number) []

-- the nodes of a row that are shown: those of one module, or all
abbrev pub shows : Option ℕ → SchemaNode → Bool
shows None n = true
shows (Some owner) n = n.module_number == owner

abbrev pub shown_in : Option ℕ → Forest SchemaNode → Forest SchemaNode
shown_in owner end = end
shown_in owner (node n below after) =
    if shows owner n then node n below (shown_in owner after) else shown_in owner after

-- ---- lines

abbrev pub line_written : Schema → ℕ → Text → ℕ → SchemaNode → Text
line_written schema shown indentation width n =
    line_text schema shown (record { indentation = indentation; node = n; width = width })

-- those of a row whose width is given, and of all below it
abbrev pub rest_written : Schema → ℕ → Text → ℕ → Forest SchemaNode → Text
rest_written schema shown indentation width nodes =
    flat_map (line_text schema shown) (row_lines schema shown indentation width nodes)

abbrev pub row_written : Schema → ℕ → Text → Forest SchemaNode → Text
row_written schema shown indentation nodes = rest_written schema shown indentation (row_width schema shown nodes) nodes

-- that of a node, and those of all below it
abbrev pub node_written : Schema → ℕ → Text → ℕ → SchemaNode → Forest SchemaNode → Bool → Text
node_written schema shown indentation width n below is_followed = line_written schema shown indentation width n
    ++ row_written schema shown (indentation ++ column is_followed) below

-- those of a node that is held back, where there is one
abbrev pub held_written : Schema → ℕ → Text → ℕ → Option Child → Bool → Text
held_written schema shown indentation width None is_followed = []
held_written schema shown indentation width (Some c) is_followed =
    node_written schema shown indentation width (label_of c) (below_of c) is_followed

-- ---- augments

-- whether the way to a node begins with one of another module than the one that is shown
abbrev pub starts_elsewhere : Schema → ℕ → ℕ → Bool
starts_elsewhere schema shown number = list_any (λ n. not (n.module_number == shown)) (take 1 (way_to schema number))

-- the step to a node of a number
abbrev pub target_step : Schema → ℕ → Text
target_step schema number = option_map_or (spec.step_text schema) (node_at schema number) []

-- a node that is found, in front of a row
abbrev pub in_front : Option (SchemaNode × Forest SchemaNode) → Forest SchemaNode → Forest SchemaNode
in_front None others = others
in_front (Some found) others = node found.0 found.1 others

-- the nodes of a row by their numbers, one after another
abbrev pub row_of : Forest SchemaNode → List ℕ → Forest SchemaNode
row_of nodes [] = end
row_of nodes (n ∷ ns) = in_front (child_in nodes n) (row_of nodes ns)

abbrev pub added_row : Schema → Augment → Forest SchemaNode
added_row schema a = row_of (children_of schema a.target) a.nodes

abbrev pub augments_seen : List held.Augment → List Augment
augments_seen augments = map augment_view augments

-- what is written of augments: of those whose ways begin elsewhere
abbrev pub augments_written : Schema → ℕ → List Augment → Text
augments_written schema shown augments =
    flat_map (spec.part_text schema shown) (map (spec.augment_part schema) (filter (spec.is_elsewhere schema shown) augments))
