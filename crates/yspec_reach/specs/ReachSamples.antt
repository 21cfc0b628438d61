-- Worked examples: modules' texts and a document, and what an edit that a line spells may read of it.
use Rattle.std.specs.Prelude.{ℕ, List, [], ◌∷◌, ◌++◌, codes, map, Option, Some, option_map, option_and_then}
use Rattle.std.specs.Result.{result_ok}
use Rattle.yspec.specs.Forest.{Forest, end, join}
use Rattle.yspec.specs.text.Text.{Text}
use Rattle.yspec.specs.text.Statement.{Statement, module_of}
use Rattle.yspec.specs.schema.Schema.{Schema}
use Rattle.yspec.specs.linking.Compiling.{compiled}
use Rattle.yspec.specs.document.Reading.{document_of}
use Rattle.yspec.specs.edit.EditText.{edit_of}
use Rattle.yspec_reach.specs.Reach.{reach}

abbrev pub modules_of : List Text → Option (Forest Statement)
modules_of [] = Some end
modules_of (text ∷ texts) =
    option_and_then (λ top. option_map (join top) (modules_of texts)) (result_ok (module_of text))

abbrev pub schema_under : List Text → Option Schema
schema_under texts = option_and_then (λ modules. result_ok (compiled modules)) (modules_of texts)

-- what an edit may read of a document under modules
abbrev pub reach_under : List Text → Text → Text → Option ℕ
reach_under modules document line = option_and_then (λ schema. option_and_then (λ tree.
    option_map (reach schema tree) (edit_of line)) (result_ok (document_of schema document))) (schema_under modules)

-- what each of some may, under one module
abbrev pub reaches_under : Text → Text → List Text → List (Option ℕ)
reaches_under text document lines = map (reach_under (text ∷ []) document) lines

-- ---- modules

-- a module of a name, with these lines
abbrev pub module_with : Text → Text → Text
module_with name lines = codes "module " ++ (name ++ (codes " { yang-version 1.1; namespace \"urn:" ++ (name
    ++ (codes "\"; prefix " ++ (name ++ (codes "; " ++ (lines ++ codes " }")))))))

-- a leaf with a default, and items that refer to it; a schema of two nodes, one level and one default, with 64 to each that counts
abbrev pub module_h : Text
module_h = module_with (codes "h") (codes "leaf x { type uint8; default 5; } leaf-list r { type leafref { path /h:x; } }")

-- a default in a default case, and in a container that may be implied
abbrev pub module_k : Text
module_k = module_with (codes "k") (codes "choice how { default slow; container slow { leaf rate { type uint8; default 3; } } leaf fast { type empty; } } leaf-list want { type leafref { path /k:slow/k:rate; } }")

-- entries with a `unique` through a container, which has entries of its own
abbrev pub module_e : Text
module_e = module_with (codes "e") (codes "list e { key id; unique in/x; leaf id { type uint8; } container in { leaf x { type string; } list f { key k; leaf k { type uint8; } } } }")

-- containers with and without presence
abbrev pub module_p : Text
module_p = module_with (codes "p") (codes "container c { container d { leaf y { type string; } } container p { presence there; leaf z { type uint8; default 3; } leaf w { type string; } } leaf-list to { type leafref { path /p:c/p:p/p:z; } } }")

-- leafs with a default each, and a leaf-list with three; a schema of four nodes and two levels
abbrev pub module_d : Text
module_d = module_with (codes "d") (codes "leaf x { type uint8; default 5; } leaf y { type uint8; default 6; } container c { leaf-list z { type uint8; default 1; default 2; default 3; } }")

-- a choice in a container; with it and its cases a schema of seven nodes and four levels
abbrev pub module_c : Text
module_c = module_with (codes "c") (codes "container a { choice how { case one { leaf x { type uint8; } leaf y { type uint8; } } leaf z { type uint8; } } }")

-- a leaf, and items beside it and outside its container that refer to it
abbrev pub module_r : Text
module_r = module_with (codes "r") (codes "container a { leaf x { type uint8; } leaf-list in { type leafref { path /r:a/r:x; } } } leaf-list to { type leafref { path /r:a/r:x; } }")

-- ---- documents

abbrev pub entries : Text
entries = codes "{\"e:e\":[{\"id\":1,\"in\":{\"x\":\"a\",\"f\":[{\"k\":1},{\"k\":2},{\"k\":2}]}},{\"id\":2,\"in\":{\"x\":\"a\"}},{\"id\":3,\"in\":{\"x\":\"b\"}}]}"
