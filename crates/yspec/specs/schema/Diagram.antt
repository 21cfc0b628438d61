-- The tree diagram of a module (RFC 8340).
use Rattle.std.specs.Prelude.{ℕ, ◌-◌, ◌==◌, ◌++◌, max, Bool, true, false, not, List, [], ◌∷◌, length, map, filter, take, replicate, codes, Option, None, if◌then◌else◌}
use Rattle.std.specs.List.{flat_map, list_any}
use Rattle.std.specs.Option.{option_map_or}
use Rattle.yspec.specs.Forest.{Forest, end, node}
use Rattle.yspec.specs.text.Text.{Text, is_text}
use Rattle.yspec.specs.schema.Schema.{Schema, SchemaNode, Kind, container, leaf, leaf_list, list, choice, case, LeafType, Absence, allowed, default_used, mandatory, key, Status, current, deprecated, obsolete, is_data, has_value, type_in, keys_in, node_at, children_of, module_name, module_prefix, Augment, augments_in, way_to, data_way_to}

-- A diagram is that of one module, by its number in the set; in what follows that is `shown`.

-- ---- names (RFC 8340, 2.6)

-- the name of a node, behind its module's prefix where that is another module
abbrev pub prefixed_name : Schema → ℕ → SchemaNode → Text
prefixed_name schema shown n = if n.module_number == shown then n.name
    else module_prefix schema n.module_number ++ (codes ":" ++ n.name)

-- choices and cases stand in parentheses
abbrev pub name_text : Schema → ℕ → SchemaNode → Text
name_text schema shown n = if is_data n.kind then prefixed_name schema shown n
    else codes "(" ++ (prefixed_name schema shown n ++ codes ")")

-- ---- options: `?` for what need not be there, `!` for presence, `*` for what may come more than once; and the keys

abbrev pub absence_mark : Absence → Text
absence_mark allowed = codes "?"
absence_mark (default_used v) = codes "?"
absence_mark mandatory = []
absence_mark key = []

abbrev pub option_mark : Kind → Text
option_mark (container presence) = if presence then codes "!" else []
option_mark (leaf type absence) = absence_mark absence
option_mark (leaf_list type defaults amount) = codes "*"
option_mark (list tuples amount) = codes "*"
option_mark (choice default_case is_mandatory) = if is_mandatory then [] else codes "?"
option_mark case = []

abbrev pub key_name : Schema → ℕ → Text
key_name schema number = option_map_or (λ n. n.name) (node_at schema number) []

abbrev pub key_names : Schema → List ℕ → Text
key_names schema [] = []
key_names schema (first ∷ others) = codes " [" ++ (key_name schema first
    ++ (flat_map (λ other. codes " " ++ key_name schema other) others ++ codes "]"))

-- the name of a node with its options
abbrev pub label : Schema → ℕ → SchemaNode → Text
label schema shown n = name_text schema shown n ++ (option_mark n.kind ++ key_names schema (keys_in n.kind))

-- ---- marks: the status, `--` and the flags; a case has no flags

abbrev pub status_mark : Status → Text
status_mark current = codes "+"
status_mark deprecated = codes "x"
status_mark obsolete = codes "o"

abbrev pub flags : Kind → Bool → Text
flags case config = codes ":"
flags _ true = codes "rw "
flags _ false = codes "ro "

abbrev pub marks : SchemaNode → Text
marks n = status_mark n.status ++ (codes "--" ++ flags n.kind n.config)

-- ---- types

-- the path to a node, choices and cases passed through
abbrev pub path_to : Schema → ℕ → ℕ → Text
path_to schema shown number = flat_map (λ n. codes "/" ++ prefixed_name schema shown n) (data_way_to schema number)

-- to which node a leafref refers; none of a type that is another by name
abbrev pub referred : LeafType → Option ℕ
referred type = if is_text type.name (codes "leafref") then type.target else None

-- the name of a type as written; of a leafref the path of its target
abbrev pub type_text : Schema → ℕ → LeafType → Text
type_text schema shown type =
    option_map_or (λ target. codes "-> " ++ path_to schema shown target) (referred type) type.name

-- ---- the column of types

-- how much of it the label of a node fills; only leafs and leaf-lists have a type
abbrev pub label_width : Schema → ℕ → SchemaNode → ℕ
label_width schema shown n = if has_value n.kind then length (label schema shown n) else 0

-- the width of the widest label in a row
abbrev pub row_width : Schema → ℕ → Forest SchemaNode → ℕ
row_width schema shown end = 0
row_width schema shown (node n below after) = max (label_width schema shown n) (row_width schema shown after)

abbrev pub spaces : ℕ → Text
spaces n = replicate n 32

-- a type stands three columns behind the widest label of its row
abbrev pub type_column : Schema → ℕ → ℕ → SchemaNode → Text
type_column schema shown width n = option_map_or
    (λ type. spaces (width - label_width schema shown n) ++ (codes "   " ++ type_text schema shown type)) (type_in n.kind) []

-- ---- lines

pub record Line : Type 0 where
  pub indentation : Text
  pub node : SchemaNode
  -- that of the widest label in its row
  pub width : ℕ

abbrev pub line_text : Schema → ℕ → Line → Text
line_text schema shown l = l.indentation ++ (marks l.node ++ (label schema shown l.node
    ++ (type_column schema shown l.width l.node ++ codes "\n")))

-- below a node: a bar where others follow it in its row
abbrev pub indented : Text → Forest SchemaNode → Text
indented indentation end = indentation ++ codes "   "
indented indentation (node n below after) = indentation ++ codes "|  "

-- the lines of a row, whose indentation and width are given, and of all below it
abbrev pub row_lines : Schema → ℕ → Text → ℕ → Forest SchemaNode → List Line
row_lines schema shown indentation width end = []
row_lines schema shown indentation width (node n below after) =
    record { indentation = indentation; node = n; width = width }
    ∷ (row_lines schema shown (indented indentation after) (row_width schema shown below) below
    ++ row_lines schema shown indentation width after)

-- ---- a whole diagram

-- A part is a heading, and below it the lines of some nodes and of all below them.
pub record Part : Type 0 where
  pub heading : Text
  pub indentation : Text
  pub nodes : Forest SchemaNode

abbrev pub part_lines : Schema → ℕ → Part → List Line
part_lines schema shown p = row_lines schema shown p.indentation (row_width schema shown p.nodes) p.nodes

abbrev pub part_text : Schema → ℕ → Part → Text
part_text schema shown p = p.heading ++ (codes "\n" ++ flat_map (line_text schema shown) (part_lines schema shown p))

-- the nodes of a row that belong to a module
abbrev pub owned_by : ℕ → Forest SchemaNode → Forest SchemaNode
owned_by module_number end = end
owned_by module_number (node n below after) = if n.module_number == module_number
    then node n below (owned_by module_number after) else owned_by module_number after

-- the nodes of the module itself
abbrev pub module_part : Schema → ℕ → Part
module_part schema shown = record {
  heading = codes "module: " ++ module_name schema shown;
  indentation = codes "  ";
  nodes = owned_by shown schema.nodes;
}

-- ---- augments of nodes of other modules

abbrev pub is_elsewhere : Schema → ℕ → Augment → Bool
is_elsewhere schema shown a = list_any (λ n. not (n.module_number == shown)) (take 1 (way_to schema a.target))

abbrev pub augments_shown : Schema → ℕ → List Augment
augments_shown schema shown = filter (is_elsewhere schema shown) (augments_in schema shown)

-- a step to a target, choices and cases included, always with the prefix of its module
abbrev pub step_text : Schema → SchemaNode → Text
step_text schema n = codes "/" ++ (module_prefix schema n.module_number ++ (codes ":" ++ n.name))

-- the nodes of a row that have these numbers
abbrev pub those_of : List ℕ → Forest SchemaNode → Forest SchemaNode
those_of numbers end = end
those_of numbers (node n below after) = if list_any (λ m. m == n.number) numbers
    then node n below (those_of numbers after) else those_of numbers after

abbrev pub augment_part : Schema → Augment → Part
augment_part schema a = record {
  heading = codes "\n  augment " ++ (flat_map (step_text schema) (way_to schema a.target) ++ codes ":");
  indentation = codes "    ";
  nodes = those_of a.nodes (children_of schema a.target);
}

-- `module:` with the nodes of the module, and its augments of nodes of other modules
abbrev pub parts_of : Schema → ℕ → List Part
parts_of schema shown = module_part schema shown ∷ map (augment_part schema) (augments_shown schema shown)

abbrev pub diagram : Schema → ℕ → Text
diagram schema shown = flat_map (part_text schema shown) (parts_of schema shown)
