-- Worked examples: texts of modules, and the schema that they make or what is told of them.
use Rattle.std.specs.Prelude.{ℕ, List, [], ◌∷◌, ◌++◌, codes, Option, Some, None, Result, Ok, Err}
use Rattle.yspec.specs.Forest.{Forest}
use Rattle.yspec.specs.text.Text.{Text}
use Rattle.yspec.specs.edit.Examples.{module_text}
use Rattle.yspec.specs.schema.Breaks.{Break}
use Rattle.yspec.specs.schema.Schema.{Schema, SchemaNode}
use Rattle.yspec_examples.specs.LinkingSamples.{statements_in}
use Rattle.yspec.specs.linking.Compiling.{compiled}

-- what comes of some texts
abbrev pub compiled_texts : List Text → Result Schema Break
compiled_texts texts = compiled (statements_in texts)

-- the same of one module, named m, with these lines from line 5 on
abbrev pub compiled_lines : Text → Result Schema Break
compiled_lines lines = compiled_texts (module_text (codes "m") lines ∷ [])

-- a rule of the first module that is broken
abbrev pub told_at : ℕ → ℕ → Result Schema Break
told_at code line = Err (record { code = code; module_number = 0; line = line })

abbrev pub nodes_in : Result Schema Break → Option (Forest SchemaNode)
nodes_in (Ok schema) = Some schema.nodes
nodes_in (Err told) = None

-- ---- modules

abbrev pub net_module : Text
net_module = codes "module ex-net {\n  yang-version 1.1;\n  namespace \"urn:ex-net\";\n  prefix n;\n"
    ++ (codes "  container net {\n    list host {\n      key name; unique \"addr port\"; min-elements 1; max-elements 3;\n"
    ++ (codes "      leaf name { type string { length 1..8; } }\n      leaf addr { type string; }\n      leaf port {\n"
    ++ (codes "        type uint16 { range \"1..1024 | 8080\" { error-app-tag bad-port; } }\n        default 80;\n      }\n"
    ++ (codes "      leaf uplink { type leafref { path /n:net/n:host/n:name; } }\n"
    ++ (codes "      leaf use-port { type leafref { path /n:net/n:host/n:port; } }\n      choice mode {\n        mandatory true;\n"
    ++ codes "        case auto { leaf auto { type empty; } }\n        case fixed { leaf speed { type uint32; } }\n      }\n    }\n  }\n}\n")))))

abbrev pub k_module : Text
k_module = module_text (codes "k") (codes "  choice how {\n    default slow;\n    case slow { leaf rate { type uint8; default 3; } }\n"
    ++ codes "    case fast { leaf boost { type uint8; } }\n  }\n  leaf want { type leafref { path /k:rate; } }\n")

abbrev pub v_module : Text
v_module = module_text (codes "v") (codes "  list e {\n    key id; unique \"in/x\";\n    leaf id { type uint8; }\n"
    ++ codes "    container in { leaf x { type string; } }\n    leaf-list m { type uint8; }\n  }\n")

abbrev pub y_module : Text
y_module = module_text (codes "y") (codes "  leaf-list z { type union { type uint8; type string; } }\n")

abbrev pub w_module : Text
w_module = module_text (codes "w") (codes "  container c {\n    presence on;\n    leaf-list tag { type string; }\n"
    ++ (codes "    leaf up { status deprecated; config false; type boolean; }\n  }\n"
    ++ codes "  list log { config false; leaf at { type uint64; mandatory true; } }\n"))

-- a typedef that restricts another to a range, and a number of 18 digits behind the point
abbrev pub restricted_module : Text → Text
restricted_module range = module_text (codes "t") (codes "  typedef a { type int32 { range 1..10; } }\n  typedef b { type a { range "
    ++ (range ++ codes "; } }\n  leaf d { type decimal64 { fraction-digits 18; } }\n"))

abbrev pub t_module : Text
t_module = restricted_module (codes "1..10")
