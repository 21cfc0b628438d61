-- Worked examples: schemas written out as values, and what is shown of documents and edits under them.
use Rattle.std.specs.Prelude.{ℕ, pos, true, false, List, ◌++◌, [], ◌∷◌, codes, Option, Some, None, option_and_then, Result, Ok, Err}
use Rattle.yspec.specs.Forest.{Forest, end, node}
use Rattle.yspec.specs.text.Text.{Text}
use Rattle.yspec.specs.types.Ranges as ranges
use Rattle.yspec.specs.types.Ranges.{Part}
use Rattle.yspec.specs.types.Types.{Base, integer_base, decimal_base, string_base, boolean_base, empty_base, uint8, uint16, uint32, uint64, Shape, single, union, YangType, plain, Val, value, number_value}
use Rattle.yspec.specs.schema.Schema.{Schema, SchemaModule, Augment, SchemaNode, Kind, container, leaf, leaf_list, list, choice, case, LeafType, own_type, allowed, default_used, mandatory, key, Amount, current, by_type}
use Rattle.yspec.specs.document.Document.{Tree}
use Rattle.yspec.specs.document.Reading.{Refusal, json_of, visits, first_refusal, document_of}
use Rattle.yspec.specs.document.Writing.{written_text}
use Rattle.yspec.specs.document.Faults.{faults_of}
use Rattle.yspec.specs.edit.EditText.{Edit}
use Rattle.yspec.specs.edit.Editing.{Decision, after, decisions}
use Rattle.yspec_run.specs.Output.{Printed, plainly, printed, with_tree, report, edited}
use Rattle.yspec_run.specs.Part.{spelled}
use Rattle.yspec.specs.edit.Examples.{edits_of}

-- ---- how schemas are written here

abbrev pub one_module : Text → Text → Forest SchemaNode → Schema
one_module name prefix nodes =
    record { modules = record { name = name; prefix = prefix; augments = [] } ∷ []; nodes = nodes }

abbrev pub node_of : ℕ → Text → Kind → SchemaNode
node_of number name kind =
    record { number = number; module_number = 0; name = name; config = true; distinct_items = true; status = current; kind = kind }

abbrev pub state_node : ℕ → Text → Kind → SchemaNode
state_node number name kind =
    record { number = number; module_number = 0; name = name; config = false; distinct_items = false; status = current; kind = kind }

abbrev pub of_base : Text → Base → LeafType
of_base name base = own_type name (plain base)

-- a leafref that requires an instance
abbrev pub referring : Shape → ℕ → LeafType
referring shape target = record { name = codes "leafref"; type = record { shape = shape; requires_instance = Some true }; target = Some target; targets = []; form = by_type }

abbrev pub any_amount : Amount
any_amount = record { min_elements = 0; max_elements = None }

abbrev pub within : ℕ → ℕ → Part
within low high = record { low = pos low; high = pos high }

abbrev pub limited_to : Base → List Part → Option Text → Shape
limited_to base parts app_tag = single (record { base = base; limits = record { test = ranges.within parts; error = record { message = None; app_tag = app_tag } } ∷ [] })

abbrev pub unrestricted : Shape → YangType
unrestricted shape = record { shape = shape; requires_instance = None }

-- ---- a network: hosts with a key, a `unique`, a default, references and a choice

abbrev pub name_shape : Shape
name_shape = limited_to string_base (within 1 8 ∷ []) None

abbrev pub port_shape : Shape
port_shape = limited_to (integer_base uint16) (within 1 1024 ∷ within 8080 8080 ∷ []) (Some (codes "bad-port"))

abbrev pub number_value_of : ℕ → Val
number_value_of n = value None (number_value (pos n))

abbrev pub host_children : Forest SchemaNode
host_children = node (node_of 2 (codes "name") (leaf (own_type (codes "string") (unrestricted name_shape)) key)) end
    (node (node_of 3 (codes "addr") (leaf (of_base (codes "string") string_base) allowed)) end
    (node (node_of 4 (codes "port") (leaf (own_type (codes "uint16") (unrestricted port_shape)) (default_used (number_value_of 80)))) end
    (node (node_of 5 (codes "uplink") (leaf (referring name_shape 2) allowed)) end
    (node (node_of 6 (codes "use-port") (leaf (referring port_shape 4) allowed)) end
    (node (node_of 7 (codes "mode") (choice None true))
    (node (node_of 8 (codes "auto") case) (node (node_of 9 (codes "auto") (leaf (of_base (codes "empty") empty_base) allowed)) end end)
    (node (node_of 10 (codes "fixed") case) (node (node_of 11 (codes "speed") (leaf (of_base (codes "uint32") (integer_base uint32)) allowed)) end end)
    end)) end)))))

abbrev pub net_schema : Schema
net_schema = one_module (codes "ex-net") (codes "n") (node (node_of 0 (codes "net") (container false))
    (node (node_of 1 (codes "host") (list (record { keys = 2 ∷ []; uniques = ((3 ∷ []) ∷ (4 ∷ []) ∷ []) ∷ [] }) (record { min_elements = 1; max_elements = Some 3 })))
    host_children end) end)

-- ---- a choice with a default case, whose default is a target

abbrev pub k_schema : Schema
k_schema = one_module (codes "k") (codes "k")
    (node (node_of 0 (codes "how") (choice (Some 1) false))
    (node (node_of 1 (codes "slow") case) (node (node_of 2 (codes "rate") (leaf (of_base (codes "uint8") (integer_base uint8)) (default_used (number_value_of 3)))) end end)
    (node (node_of 3 (codes "fast") case) (node (node_of 4 (codes "boost") (leaf (of_base (codes "uint8") (integer_base uint8)) allowed)) end end)
    end))
    (node (node_of 5 (codes "want") (leaf (referring (single (record { base = integer_base uint8; limits = [] })) 2) allowed)) end
    end))

-- ---- an entry with a `unique` through a container, and items

abbrev pub v_schema : Schema
v_schema = one_module (codes "v") (codes "v") (node (node_of 0 (codes "e") (list (record { keys = 1 ∷ []; uniques = ((2 ∷ 3 ∷ []) ∷ []) ∷ [] }) any_amount))
    (node (node_of 1 (codes "id") (leaf (of_base (codes "uint8") (integer_base uint8)) key)) end
    (node (node_of 2 (codes "in") (container false)) (node (node_of 3 (codes "x") (leaf (of_base (codes "string") string_base) allowed)) end end)
    (node (node_of 4 (codes "m") (leaf_list (of_base (codes "uint8") (integer_base uint8)) [] any_amount)) end
    end))) end)

-- ---- equality in a union

abbrev pub y_schema : Schema
y_schema = one_module (codes "y") (codes "y") (node (node_of 0 (codes "z") (leaf_list (own_type (codes "union") (unrestricted
    (union (record { base = integer_base uint8; limits = [] } ∷ record { base = string_base; limits = [] } ∷ [])))) [] any_amount)) end end)

-- ---- a container with presence and items, and a state list without keys

abbrev pub w_schema : Schema
w_schema = one_module (codes "w") (codes "w")
    (node (node_of 0 (codes "c") (container true)) (node (node_of 1 (codes "tag") (leaf_list (of_base (codes "string") string_base) [] any_amount)) end
    (node (state_node 2 (codes "up") (leaf (of_base (codes "boolean") boolean_base) allowed)) end end))
    (node (state_node 3 (codes "log") (list (record { keys = []; uniques = [] }) any_amount))
    (node (state_node 4 (codes "at") (leaf (of_base (codes "uint64") (integer_base uint64)) mandatory)) end end)
    end))

-- ---- a number with a fraction

abbrev pub t_schema : Schema
t_schema = one_module (codes "t") (codes "t") (node (node_of 0 (codes "d") (leaf (of_base (codes "decimal64") (decimal_base 18)) allowed)) end end)

-- ---- nodes of three modules, one below the other, as augments put them there

-- a module whose prefix is its name, with its augments
abbrev pub augmenting : Text → List Augment → SchemaModule
augmenting name augments = record { name = name; prefix = name; augments = augments }

abbrev pub named_module : Text → SchemaModule
named_module name = augmenting name []

abbrev pub adding : ℕ → List ℕ → Augment
adding target nodes = record { target = target; nodes = nodes }

abbrev pub m_schema : Schema
m_schema = record {
  modules = augmenting (codes "a") (adding 1 (2 ∷ []) ∷ []) ∷ augmenting (codes "b") (adding 0 (1 ∷ []) ∷ [])
      ∷ named_module (codes "m") ∷ [];
  nodes = node (record (node_of 0 (codes "c") (container false)) { module_number = 2 })
      (node (record (node_of 1 (codes "x") (container false)) { module_number = 1 })
      (node (node_of 2 (codes "y") (leaf (of_base (codes "string") string_base) allowed)) end end) end) end;
}

-- ---- what is shown

-- what is printed of a document under a schema
abbrev pub shown_under : Schema → Text → Printed
shown_under schema document =
    printed false (with_tree schema (codes "d.json") document (document_of schema document) (λ tree. edited plainly schema tree []))

-- the first refusal of a document where there is room for so many nodes
abbrev pub refused_within : ℕ → Schema → Text → Option Refusal
refused_within room schema document = option_and_then (λ d. first_refusal room (visits schema d)) (json_of document)

-- what comes of each edit that lines spell, and the lines of faults after them
abbrev pub reported_after : Schema → List Edit → Result Tree Refusal → Option (List Decision × Text)
reported_after schema edits (Err refusal) = None
reported_after schema edits (Ok tree) = let left = after schema tree edits in
    Some (decisions schema tree edits, spelled false (report schema left (faults_of schema left)))

abbrev pub edited_by : Schema → Text → List Text → Option (List Decision × Text)
edited_by schema document lines =
    option_and_then (λ edits. reported_after schema edits (document_of schema document)) (edits_of lines)

-- the text of the document after them
abbrev pub dumped_after : Schema → List Edit → Result Tree Refusal → Option Text
dumped_after schema edits (Err refusal) = None
dumped_after schema edits (Ok tree) = Some (written_text schema (after schema tree edits))

abbrev pub dumped : Schema → Text → List Text → Option Text
dumped schema document lines =
    option_and_then (λ edits. dumped_after schema edits (document_of schema document)) (edits_of lines)

abbrev pub accepted_edit : Decision
accepted_edit = None

abbrev pub refused_edit : ℕ → Decision
refused_edit code = Some (record { code = code; document_code = None })

abbrev pub refused_value_of : ℕ → Decision
refused_value_of document_code = Some (record { code = 10; document_code = Some document_code })

-- a document with these hosts
abbrev pub hosts : Text → Text
hosts entries = codes "{\"ex-net:net\":{\"host\":[" ++ (entries ++ codes "]}}")

-- two of them
abbrev pub two_hosts : Text
two_hosts = hosts (codes "{\"name\":\"a\",\"auto\":[null],\"uplink\":\"b\"},{\"name\":\"b\",\"auto\":[null]}")

-- one of them alone
abbrev pub one_host : Text
one_host = hosts (codes "{\"name\":\"a\",\"auto\":[null]}")

-- a document of entries with a `unique`
abbrev pub entries : Text
entries = codes "{\"v:e\":[{\"id\":1,\"in\":{\"x\":\"p\"}},{\"id\":2,\"in\":{\"x\":\"p\"},\"m\":[4,5,4]},{\"in\":{}}]}"
