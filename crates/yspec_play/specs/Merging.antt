-- The faults of a document as what is told of the nodes that aren't stored, row by row, merged with what is told of the
-- children.
use Rattle.std.specs.Prelude.{◌≡◌, ◌≤◌, ℕ, suc, ◌+◌, ◌++◌, ◌==◌, Bool, true, false, List, [], ◌∷◌, map, length, drop, Option, Some, None, if◌then◌else◌, nat_le}
use Rattle.std.specs.Option.{option_map_or}
use Rattle.yspec.specs.Forest.{Forest, end, node, row}
use Rattle.yspec.specs.text.Text.{Text}
use Rattle.yspec.specs.schema.Schema.{Schema, SchemaNode, Kind, is_data, is_many, node_at, children_of, data_way_to, row_at}
use Rattle.yspec.specs.document.Document.{Stored, Tree, Step, step_to, step_at, instances_in}
use Rattle.yspec.specs.document.Fault.{Info, no_info, choice_name, Fault, fault_with}
use Rattle.yspec.specs.document.Fitting.{FitsBy}
use Rattle.yspec.specs.document.Instances.{times_in}
use Rattle.yspec.specs.document.Faults.{Times, RowTimes, Told, under, row_times, faults_at}
use Rattle.yspec_play.specs.Absences.{Absent, absences_in}

-- ---- the fault of a node that isn't stored

-- how many data nodes lead down to a node and are it; none to the top
abbrev pub data_depth : Schema → Option ℕ → ℕ
data_depth schema None = 0
data_depth schema (Some number) = length (data_way_to schema number)

abbrev pub to_node : SchemaNode → Step
to_node n = step_to n.number

-- The steps from the node above a row, or from the top, down to a schema node of the row: through the containers that are
-- implied to the node itself, or to where a choice stands.
abbrev pub steps_down : Schema → Option ℕ → ℕ → List Step
steps_down schema above number = map to_node (drop (data_depth schema above) (data_way_to schema number))

-- a fault of a choice has its name
abbrev pub kind_info : Kind → Text → Info
kind_info kind name = if is_data kind then no_info else choice_name name

abbrev pub info_at : Schema → ℕ → Info
info_at schema number = option_map_or (λ n. kind_info n.kind n.name) (node_at schema number) no_info

-- what is told of a row below a node, or at the top, its steps leading from there
abbrev pub absence_fault : Schema → Option ℕ → Absent → Fault
absence_fault schema above (code, number) = fault_with (info_at schema number) code (steps_down schema above number)

-- ---- a row

-- those of nodes up to a number, and of those behind it
abbrev pub up_to : ℕ → List Absent → List Absent
up_to number [] = []
up_to number (a ∷ absences) = if nat_le a.1 number then a ∷ up_to number absences else []

abbrev pub behind : ℕ → List Absent → List Absent
behind number [] = []
behind number (a ∷ absences) = if nat_le a.1 number then behind number absences else a ∷ absences

-- the position of a child among those of its schema node, behind one of a schema node and a position
abbrev pub position_behind : ℕ → ℕ → ℕ → ℕ
position_behind last position number = if number == last then position + 1 else 1

-- only where there may be more than one it has a position
abbrev pub step_of : Schema → ℕ → ℕ → Step
step_of schema number position =
    if option_map_or (λ n. is_many n.kind) (node_at schema number) false then step_at number position else step_to number

-- what is told of the nodes of a row that aren't stored, and of its children behind one of a schema node and a position
abbrev pub merged_behind : Schema → Option ℕ → ℕ → ℕ → List Absent → List Told → List Fault
merged_behind schema above last position absences [] = map (absence_fault schema above) absences
merged_behind schema above last position absences (child ∷ children) =
    map (absence_fault schema above) (up_to child.schema_number absences)
    ++ (map (under (step_of schema child.schema_number (position_behind last position child.schema_number))) child.faults
    ++ merged_behind schema above child.schema_number (position_behind last position child.schema_number)
    (behind child.schema_number absences) children)

abbrev pub merged : Schema → Option ℕ → List Absent → List Told → List Fault
merged schema above absences children = merged_behind schema above 0 0 absences children

-- ---- a tree

-- what is told of nodes that aren't stored in a row below a node, or at the top
abbrev pub absences_below : Forest SchemaNode → Tree → List Absent
absences_below children below = absences_in (instances_in below) [] children

-- each node of a row with its faults and those below it
unfoldable pub listed_in : Times → RowTimes → Schema → Tree → List Told
listed_in times row schema end = []
listed_in times row schema (node s below after) = record {
  schema_number = s.schema_number;
  faults = faults_at times row schema s below
      ++ merged schema (Some s.schema_number) (absences_below (children_of schema s.schema_number) below)
      (listed_in times (row_times schema below) schema below);
} ∷ listed_in times row schema after

-- the faults of a document, in order
unfoldable pub listed : Schema → Tree → List Fault
listed schema tree = merged schema None (absences_below schema.nodes tree)
    (listed_in (times_in schema tree) (row_times schema tree) schema tree)

-- how many there are at a stored node, those of nodes that aren't stored right below it included
abbrev pub told_at : Times → RowTimes → Schema → Stored → Tree → ℕ
told_at times row schema s below =
    length (faults_at times row schema s below) + length (absences_below (children_of schema s.schema_number) below)

-- how many there are at the nodes of a row and below them
unfoldable pub told_count : Times → RowTimes → Schema → Tree → ℕ
told_count times row schema end = 0
told_count times row schema (node s below after) = told_at times row schema s below
    + (told_count times (row_times schema below) schema below + told_count times row schema after)

-- ---- of what rows it holds

-- each is told of a node behind that of the one before it
abbrev pub Ascends : ℕ → List Absent → Type 0
Ascends least [] = Unit {0}
Ascends least (a ∷ absences) = (least ≤ a.1) × Ascends (suc a.1) absences

-- a row below a node, or at the top, fits the schema nodes there, whatever its leafs hold
abbrev pub FitsRow : Schema → Option ℕ → Tree → Type 0
FitsRow schema above t = FitsBy (λ n value. Unit {0}) (row_at schema above) 0 t

-- a row's children, in its order
abbrev pub AreChildren : List Told → Tree → Type 0
AreChildren children t = map (λ c. c.schema_number) children ≡ map (λ s. s.schema_number) (row t)
