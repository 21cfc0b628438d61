-- The faults of a document, in order (RFC 7950, 8.1, 8.3.1 and 15), and the line that each prints.
use Rattle.std.specs.Prelude.{ℕ, zero, suc, ◌+◌, ◌++◌, ◌==◌, ◌&&◌, Bool, false, List, [], ◌∷◌, map, codes, decimal, Option, Some, None, filter, unwrap_or, if◌then◌else◌, nat_le, nat_lt}
use Rattle.std.specs.List.{flat_map}
use Rattle.std.specs.Option.{option_map_or}
use Rattle.yspec.specs.Forest.{end, node}
use Rattle.yspec.specs.text.Text.{Text}
use Rattle.yspec.specs.types.Types.{Raw, Val, taken, app_tag_of}
use Rattle.yspec.specs.schema.Schema.{Schema, SchemaNode, Kind, leaf, leaf_list, list, LeafType, LeafPath, node_at, children_of}
use Rattle.yspec.specs.schema.References.{Reference, reference_in}
use Rattle.yspec.specs.document.Document.{Stored, Tree, Step, step_to, step_at, instances_in}
use Rattle.yspec.specs.document.FaultCode.{FaultCode, V1, V8, V9, V10, V11, fault_number}
use Rattle.yspec.specs.document.Fault.{Info, no_info, choice_name, unique_number, Fault, fault, fault_with, plain_fault}
use Rattle.yspec.specs.document.Play.{Item, tell, in_use, visit, visit_each, in_play}
use Rattle.yspec.specs.document.Instances.{Tuple, tuple, times_in, tuples_in, items_in}
use Rattle.yspec.specs.document.Path.{path_text}

-- ---- questions

-- to the whole document: how many instances of a schema node, defaults in use included, have a value
abbrev pub Times : Type 0
Times = ℕ → Val → ℕ

-- to a row: how many entries of a list have a tuple, and how many items of a leaf-list a value
pub record RowTimes : Type 0 where
  pub tuples : ℕ → ℕ → Tuple → ℕ
  pub items : ℕ → Val → ℕ

-- ---- the faults at one stored node, their steps leading from itself

-- whether an instance that a reference requires isn't there
abbrev pub lacks_instance : Times → Reference → Bool
lacks_instance times r = r.is_required && times r.target r.value == 0

-- V11
abbrev pub reference_faults : Times → LeafType → Val → List Fault
reference_faults times type v =
    option_map_or (λ r. if lacks_instance times r then plain_fault V11 [] ∷ [] else []) (reference_in type v) []

-- V1, else V11
abbrev pub value_faults : Times → LeafType → Raw → List Fault
value_faults times type raw =
    option_map_or (reference_faults times type) (taken type.type raw) (fault V1 (app_tag_of type.type raw) [] ∷ [])

-- V10
abbrev pub item_twice : RowTimes → SchemaNode → LeafType → Raw → List Fault
item_twice row n type raw = if n.distinct_items
    then option_map_or (λ v. if nat_lt 1 (row.items n.number v) then plain_fault V10 [] ∷ [] else []) (taken type.type raw) [] else []

abbrev pub tuple_info : ℕ → Info
tuple_info zero = no_info
tuple_info (suc u) = unique_number (suc u)

-- V8 is told of the key, V9 of each `unique`
abbrev pub tuple_code : ℕ → FaultCode
tuple_code zero = V8
tuple_code (suc u) = V9

abbrev pub tuple_fault : RowTimes → ℕ → ℕ → Option Tuple → List Fault
tuple_fault row number u None = []
tuple_fault row number u (Some vs) =
    if nat_lt 1 (row.tuples number u vs) then fault_with (tuple_info u) (tuple_code u) [] ∷ [] else []

-- from one `unique` on
abbrev pub tuple_faults : RowTimes → ℕ → (ℕ → Option Tuple) → ℕ → List (List LeafPath) → List Fault
tuple_faults row number tuples u [] = []
tuple_faults row number tuples u (x ∷ xs) =
    tuple_fault row number u (tuples u) ++ tuple_faults row number tuples (suc u) xs

abbrev pub own_faults : Times → RowTimes → SchemaNode → Kind → Option Raw → (ℕ → Option Tuple) → List Fault
own_faults times row n (leaf type absence) value tuples = option_map_or (value_faults times type) value []
own_faults times row n (leaf_list type defaults amount) value tuples =
    option_map_or (λ raw. value_faults times type raw ++ item_twice row n type raw) value []
own_faults times row n (list shape amount) value tuples =
    tuple_fault row n.number 0 (tuples 0) ++ tuple_faults row n.number tuples 1 shape.uniques
own_faults times row n _ value tuples = []

-- ---- the faults of a tree

-- a stored node and its faults and those below it, their steps leading from itself
pub record Told : Type 0 where
  pub schema_number : ℕ
  pub faults : List Fault

abbrev pub under : Step → Fault → Fault
under step f = record f { steps = step ∷ f.steps }

-- the faults of each stored instance of a schema node
abbrev pub told_of : List Told → ℕ → List (List Fault)
told_of instances number = map (λ t. t.faults) (filter (λ t. t.schema_number == number) instances)

-- each with its position, from one on
abbrev pub at_positions : ℕ → ℕ → List (List Fault) → List Fault
at_positions number position [] = []
at_positions number position (fs ∷ others) =
    map (under (step_at number position)) fs ++ at_positions number (position + 1) others

abbrev pub item_faults : List Told → Item → List Fault
item_faults instances (tell f) = f ∷ []
item_faults instances (in_use number vs) = []
item_faults instances (visit number) = flat_map (map (under (step_to number))) (told_of instances number)
item_faults instances (visit_each number) = at_positions number 1 (told_of instances number)

-- what is in play, each visit replaced by the faults of the instances
abbrev pub woven : List Item → List Told → List Fault
woven items instances = flat_map (item_faults instances) items

abbrev pub row_times : Schema → Tree → RowTimes
row_times schema t = record { tuples = tuples_in schema t; items = items_in schema t }

abbrev pub faults_at : Times → RowTimes → Schema → Stored → Tree → List Fault
faults_at times row schema s below = option_map_or
    (λ n. own_faults times row n n.kind s.value (tuple schema s below)) (node_at schema s.schema_number) []

-- each node of a row with its faults and those below it
unfoldable pub told_in : Times → RowTimes → Schema → Tree → List Told
told_in times row schema end = []
told_in times row schema (node s below after) = record {
  schema_number = s.schema_number;
  faults = faults_at times row schema s below
      ++ woven (in_play (instances_in below) (children_of schema s.schema_number)) (told_in times (row_times schema below) schema below);
} ∷ told_in times row schema after

-- the faults of a tree, where the questions to the whole document have these answers
abbrev pub faults_by : Times → Schema → Tree → List Fault
faults_by times schema tree =
    woven (in_play (instances_in tree) schema.nodes) (told_in times (row_times schema tree) schema tree)

-- all faults of a document, in order
unfoldable pub faults_of : Schema → Tree → List Fault
faults_of schema tree = faults_by (times_in schema tree) schema tree

-- ---- lines

abbrev pub or_dash : Text → Text
or_dash [] = codes "-"
or_dash (x ∷ xs) = x ∷ xs

abbrev pub info_text : Info → Text
info_text no_info = []
info_text (choice_name name) = name
info_text (unique_number n) = decimal n

-- a module's text may have white space in an error-app-tag, which would part the columns
abbrev pub printed_tag : Text → Text
printed_tag t = map (λ x. if nat_le x 32 then 95 else x) t

-- the code, the error-tag, the error-app-tag, the path and the info, with `-` for none
abbrev pub line_of : Schema → Fault → Text
line_of schema f = codes "V" ++ (decimal (fault_number f.code) ++ (codes " " ++ (f.tag ++ (codes " "
    ++ (or_dash (printed_tag (unwrap_or f.app_tag [])) ++ (codes " " ++ (path_text schema f.steps ++ (codes " "
    ++ (or_dash (info_text f.info) ++ codes "\n")))))))))
