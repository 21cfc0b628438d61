-- Worked examples: modules whose groupings are used, and the schema that they make or what is told of them.
use Rattle.std.specs.Prelude.{ℕ, zero, suc, false, Option, List, [], ◌∷◌, ◌++◌, codes, decimal, map, Result, Ok, Err}
use Rattle.yspec.specs.Forest.{preorder}
use Rattle.yspec.specs.text.Text.{Text}
use Rattle.yspec.specs.edit.Examples.{module_text}
use Rattle.yspec.specs.schema.Breaks.{Break, first_broken}
use Rattle.yspec.specs.schema.Diagram.{diagram}
use Rattle.yspec_examples.specs.SchemaExamples.{of_base, number_value_of}
use Rattle.yspec.specs.types.Types.{integer_base, string_base, uint8}
use Rattle.yspec.specs.schema.Schema.{Schema, SchemaNode, Kind, container, leaf, Absence, default_used}
use Rattle.yspec.specs.linking.Source.{sources_of}
use Rattle.yspec_examples.specs.LinkingSamples.{statements_in}
use Rattle.yspec.specs.linking.NodeCounts.{node_count}
use Rattle.yspec.specs.linking.Compiling.{plan_of, schema_of, phases_of_plan}

-- ---- shown in short

abbrev pub kind_shown : SchemaNode → Text × Kind
kind_shown n = (n.name, n.kind)

abbrev pub kinds_in : Result Schema Break → List (Text × Kind)
kinds_in (Ok schema) = map kind_shown (preorder schema.nodes)
kinds_in (Err told) = []

-- the names of the nodes, with the numbers of their modules
abbrev pub name_shown : SchemaNode → ℕ × Text
name_shown n = (n.module_number, n.name)

abbrev pub names_in : Result Schema Break → List (ℕ × Text)
names_in (Ok schema) = map name_shown (preorder schema.nodes)
names_in (Err told) = []

-- its diagram
abbrev pub drawn : ℕ → Result Schema Break → Text
drawn m (Ok schema) = diagram schema m
drawn m (Err told) = []

-- the kinds of all nodes, whatever is told
abbrev pub kinds_made : Text → List (Text × Kind)
kinds_made lines =
    kinds_in (Ok (schema_of (statements_in (module_text (codes "m") lines ∷ []))))

-- leafs of numbers and of texts, and a container
abbrev pub number_leaf : Text → Absence → Text × Kind
number_leaf name absence = (name, leaf (of_base (codes "uint8") (integer_base uint8)) absence)

abbrev pub text_leaf : Text → Absence → Text × Kind
text_leaf name absence = (name, leaf (of_base (codes "string") string_base) absence)

abbrev pub plain_container : Text → Text × Kind
plain_container name = (name, container false)

abbrev pub used_number : ℕ → Absence
used_number n = default_used (number_value_of n)

abbrev pub told_in : ℕ → ℕ → ℕ → Result Schema Break
told_in m code line = Err (record { code = code; module_number = m; line = line })

-- ---- modules

-- a module s with these lines, and a module u that imports it
abbrev pub s_and_u : Text → Text → List Text
s_and_u lines others = module_text (codes "s") lines
    ∷ module_text (codes "u") (codes "  import s { prefix s; }\n" ++ others) ∷ []

-- a module s with these lines, and a module u that has the prefix s itself, and uses a grouping g of that one
abbrev pub s_and_other_s : Text → List Text
s_and_other_s lines = module_text (codes "s") lines
    ∷ codes "module u {\n  yang-version 1.1;\n  namespace \"urn:u\";\n  prefix s;\n  import s { prefix x; }\n  uses x:g;\n}\n" ∷ []

-- a grouping whose leaf has a typedef of its module, and a module that uses it and has another typedef of that name
abbrev pub two_typedefs : List Text
two_typedefs = s_and_u (codes "  typedef t { type uint8 { range 0..9; } }\n  grouping g { leaf v { type t; } }\n")
    (codes "  typedef t { type string; }\n  uses s:g;\n")

-- groupings each of which uses the one before it twice
abbrev pub twice_used : ℕ → Text
twice_used number = codes " { container x { uses g" ++ (decimal number
    ++ (codes "; } container y { uses g" ++ (decimal number ++ codes "; } }\n")))

abbrev pub doubling_lines : ℕ → Text
doubling_lines zero = codes "  grouping g0 { leaf a { type string; } }\n"
doubling_lines (suc n) =
    doubling_lines n ++ (codes "  grouping g" ++ (decimal (suc n) ++ twice_used n))

abbrev pub doubling_module : ℕ → Text
doubling_module n = module_text (codes "d") (doubling_lines n ++ (codes "  uses g" ++ (decimal n ++ codes ";\n")))

abbrev pub count_of_texts : List Text → ℕ
count_of_texts texts = node_count (sources_of (statements_in texts))

-- what is told of the nodes, given that nothing is told of statements, names and types
abbrev pub told_of_nodes : List Text → Option Break
told_of_nodes texts = let modules = statements_in texts in
    first_broken (phases_of_plan modules (plan_of (sources_of modules)))
