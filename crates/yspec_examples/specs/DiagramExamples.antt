-- Worked examples: the diagrams of modules whose texts are given.
use Rattle.std.specs.Prelude.{ℕ, false, List, [], ◌∷◌, codes, None, Result, Ok, Err}
use Rattle.yspec.specs.text.Text.{Text}
use Rattle.yspec.specs.Forest.{end, node}
use Rattle.yspec.specs.schema.Breaks.{Break}
use Rattle.yspec.specs.types.Types.{string_base}
use Rattle.yspec.specs.schema.Schema.{Schema, SchemaNode, Kind, container, leaf, choice, case, allowed}
use Rattle.yspec.specs.schema.Diagram.{diagram}
use Rattle.yspec_examples.specs.CompilingSamples.{compiled_texts}
use Rattle.yspec_examples.specs.SchemaExamples.{node_of, of_base, augmenting, adding}
use Rattle.yspec.specs.edit.Examples.{module_text}

abbrev pub diagram_in : ℕ → Result Schema Break → Text
diagram_in shown (Ok schema) = diagram schema shown
diagram_in shown (Err told) = codes "refused"

-- the diagram of a module of its own
abbrev pub diagram_of : Text → Text
diagram_of text = diagram_in 0 (compiled_texts (text ∷ []))

-- the same of a module, named m, with these lines from line 5 on
abbrev pub diagram_lines : Text → Text
diagram_lines lines = diagram_of (module_text (codes "m") lines)

-- that of the module of a number, of several
abbrev pub diagram_among : List Text → ℕ → Text
diagram_among texts shown = diagram_in shown (compiled_texts texts)

-- one of two modules
abbrev pub diagram_of_two : ℕ → Text
diagram_of_two shown = diagram_among
    (module_text (codes "a") (codes "leaf x { type string; } container y { leaf w { type int64; } }") ∷ module_text (codes "b") (codes "leaf-list z { type enumeration { enum q; } }") ∷ []) shown

-- ---- schemas with augments, of a module p and of modules that augment it

abbrev pub owned_node : ℕ → ℕ → Text → Kind → SchemaNode
owned_node module_number number name kind = record (node_of number name kind) { module_number = module_number }

abbrev pub text_leaf : ℕ → ℕ → Text → SchemaNode
text_leaf module_number number name = owned_node module_number number name (leaf (of_base (codes "string") string_base) allowed)

-- a module that augments a node of its own
abbrev pub own_augment : Schema
own_augment = record {
  modules = augmenting (codes "p") (adding 0 (2 ∷ []) ∷ []) ∷ [];
  nodes = node (owned_node 0 0 (codes "c") (container false))
      (node (text_leaf 0 1 (codes "x")) end (node (text_leaf 0 2 (codes "y")) end end)) end;
}

-- an augment that adds nothing
abbrev pub empty_augment : Schema
empty_augment = record {
  modules = augmenting (codes "p") [] ∷ augmenting (codes "q") (adding 0 [] ∷ []) ∷ [];
  nodes = node (owned_node 0 0 (codes "c") (container false)) (node (text_leaf 0 1 (codes "x")) end end) end;
}

-- a case that is added to a choice, and a leaf to another case of it
abbrev pub choice_augments : Schema
choice_augments = record {
  modules = augmenting (codes "p") [] ∷ augmenting (codes "q") (adding 0 (4 ∷ []) ∷ adding 1 (3 ∷ []) ∷ []) ∷ [];
  nodes = node (owned_node 0 0 (codes "h") (choice None false))
      (node (owned_node 0 1 (codes "s") case) (node (text_leaf 0 2 (codes "s")) end (node (text_leaf 1 3 (codes "u")) end end))
      (node (owned_node 1 4 (codes "t") case) (node (text_leaf 1 5 (codes "t")) end end) end)) end;
}

-- augments of two modules below one container, the one that is written last in q applied first
abbrev pub many_augments : Schema
many_augments = record {
  modules = augmenting (codes "p") [] ∷ augmenting (codes "q") (adding 0 (5 ∷ []) ∷ adding 0 (2 ∷ 3 ∷ []) ∷ [])
      ∷ augmenting (codes "r") (adding 0 (4 ∷ []) ∷ []) ∷ [];
  nodes = node (owned_node 0 0 (codes "c") (container false)) (node (text_leaf 0 1 (codes "x")) end
      (node (text_leaf 1 2 (codes "one")) end (node (text_leaf 1 3 (codes "three")) end
      (node (text_leaf 2 4 (codes "long-name")) end (node (text_leaf 1 5 (codes "four")) end end))))) end;
}

-- augments of a node of q, which stands in one of p, by both of them
abbrev pub mixed_augments : Schema
mixed_augments = record {
  modules = augmenting (codes "p") (adding 1 (2 ∷ []) ∷ []) ∷ augmenting (codes "q") (adding 0 (1 ∷ []) ∷ adding 1 (3 ∷ []) ∷ []) ∷ [];
  nodes = node (owned_node 0 0 (codes "c") (container false)) (node (owned_node 1 1 (codes "x") (container false))
      (node (text_leaf 0 2 (codes "y")) end (node (text_leaf 1 3 (codes "z")) end end)) end) end;
}
