-- What is told of the nodes of a row that aren't stored, and which defaults are in use there, as pairs with the number of
-- the schema node: what is in play of the row, without steps (RFC 7950, 7.5.1, 7.6.1, 7.6.5, 7.7.2, 7.7.5 and 7.9).
use Rattle.std.specs.Prelude.{ℕ, ◌+◌, count_by, ◌++◌, ◌==◌, ◌&&◌, Bool, List, [], ◌∷◌, map, if◌then◌else◌, nat_lt}
use Rattle.yspec.specs.Forest.{Forest, end, node}
use Rattle.yspec.specs.types.Types.{Val}
use Rattle.yspec.specs.types.Order.{same_value}
use Rattle.yspec.specs.schema.Schema.{Schema, children_of, SchemaNode, Kind, container, leaf, leaf_list, list, choice, case, Absence, allowed, default_used, mandatory, key, Amount}
use Rattle.yspec.specs.document.Document.{Stored, Tree, instances_in}
use Rattle.yspec.specs.document.Instances.{is_value, value_of}
use Rattle.yspec.specs.document.FaultCode.{FaultCode, V2, V3, V4, V5, V6, V7}
use Rattle.yspec.specs.document.Play.{cases, stored_cases, exceeds, is_among, stored_inside}

-- ---- what is told

-- the code, and the number of the schema node of which it is told
abbrev pub Absent : Type 0
Absent = FaultCode × ℕ

-- V2 and V3
abbrev pub absent_leaf_told : ℕ → Absence → List Absent
absent_leaf_told number allowed = []
absent_leaf_told number (default_used v) = []
absent_leaf_told number mandatory = (V3, number) ∷ []
absent_leaf_told number key = (V2, number) ∷ []

-- V6, else V7
abbrev pub amount_told : ℕ → Amount → ℕ → List Absent
amount_told number amount count = if nat_lt count amount.min_elements then (V6, number) ∷ []
    else (if exceeds count amount.max_elements then (V7, number) ∷ [] else [])

-- V4 and V5, of the cases that have a stored data node
abbrev pub choice_told : ℕ → Bool → List ℕ → List Absent
choice_told number is_mandatory [] = if is_mandatory then (V4, number) ∷ [] else []
choice_told number is_mandatory (first ∷ []) = []
choice_told number is_mandatory (first ∷ second ∷ more) = (V5, number) ∷ []

-- of one node; `inside` is what is told of its children in this row, or in a container that is implied
abbrev pub node_absences : (ℕ → ℕ) → List ℕ → SchemaNode → Kind → Forest SchemaNode → List Absent → List Absent
node_absences stored chosen n (container presence) below inside =
    if nat_lt 0 (stored n.number) then [] else (if presence then [] else inside)
node_absences stored chosen n (leaf type absence) below inside =
    if nat_lt 0 (stored n.number) then [] else absent_leaf_told n.number absence
node_absences stored chosen n (leaf_list type defaults amount) below inside =
    amount_told n.number amount (stored n.number)
node_absences stored chosen n (list tuples amount) below inside = amount_told n.number amount (stored n.number)
node_absences stored chosen n (choice default_case is_mandatory) below inside =
    choice_told n.number is_mandatory (stored_cases stored below) ++ inside
node_absences stored chosen n case below inside = if is_among chosen n.number then inside else []

-- in order of definition; `stored` counts the stored instances of a schema node, and of cases the chosen ones are in play
unfoldable pub absences_in : (ℕ → ℕ) → List ℕ → Forest SchemaNode → List Absent
absences_in stored chosen end = []
absences_in stored chosen (node n below after) = node_absences stored chosen n n.kind below
    (absences_in (stored_inside n.kind stored) (cases stored n.kind below) below)
    ++ absences_in stored chosen after

-- ---- defaults in use

-- the number of the schema node, and a default of it
abbrev pub Default : Type 0
Default = ℕ × Val

-- it is of a schema node and a value
abbrev pub is_default : ℕ → Val → Default → Bool
is_default number v d = d.0 == number && same_value v d.1

abbrev pub absent_leaf_default : ℕ → Absence → List Default
absent_leaf_default number (default_used v) = (number, v) ∷ []
absent_leaf_default number _ = []

-- of one node; `inside` are those of its children in this row, or in a container that is implied
abbrev pub node_defaults : (ℕ → ℕ) → List ℕ → SchemaNode → Kind → List Default → List Default
node_defaults stored chosen n (container presence) inside =
    if nat_lt 0 (stored n.number) then [] else (if presence then [] else inside)
node_defaults stored chosen n (leaf type absence) inside =
    if nat_lt 0 (stored n.number) then [] else absent_leaf_default n.number absence
node_defaults stored chosen n (leaf_list type defaults amount) inside =
    if nat_lt 0 (stored n.number) then [] else map (λ v. (n.number, v)) defaults
node_defaults stored chosen n (list tuples amount) inside = []
node_defaults stored chosen n (choice default_case is_mandatory) inside = inside
node_defaults stored chosen n case inside = if is_among chosen n.number then inside else []

-- in order of definition
unfoldable pub defaults_in : (ℕ → ℕ) → List ℕ → Forest SchemaNode → List Default
defaults_in stored chosen end = []
defaults_in stored chosen (node n below after) = node_defaults stored chosen n n.kind
    (defaults_in (stored_inside n.kind stored) (cases stored n.kind below) below)
    ++ defaults_in stored chosen after

-- ---- of one node of a row

abbrev pub told_at : (ℕ → ℕ) → List ℕ → SchemaNode → Forest SchemaNode → List Absent
told_at stored chosen n below = node_absences stored chosen n n.kind below
    (absences_in (stored_inside n.kind stored) (cases stored n.kind below) below)

abbrev pub used_at : (ℕ → ℕ) → List ℕ → SchemaNode → Forest SchemaNode → List Default
used_at stored chosen n below = node_defaults stored chosen n n.kind
    (defaults_in (stored_inside n.kind stored) (cases stored n.kind below) below)

-- ---- below a stored node

-- how often a value is a default in use below a stored node, or at the top
abbrev pub defaults_below : ℕ → Val → Forest SchemaNode → Tree → ℕ
defaults_below number v children below = count_by (is_default number v) (defaults_in (instances_in below) [] children)

-- how many instances of a schema node have a value at a stored node: itself, and defaults in use below it
abbrev pub given_at : Schema → ℕ → Val → Stored → Tree → ℕ
given_at schema number v s below =
    (if s.schema_number == number then (if is_value v (value_of schema s) then 1 else 0) else 0)
    + defaults_below number v (children_of schema s.schema_number) below
