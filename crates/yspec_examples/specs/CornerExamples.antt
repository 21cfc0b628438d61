-- Worked examples of corners: schemas of several modules written out as values, and deep statements.
use Rattle.std.specs.Prelude.{ℕ, zero, suc, false, [], ◌∷◌, ◌++◌, codes, None}
use Rattle.yspec.specs.Forest.{Forest, end, node}
use Rattle.yspec.specs.text.Text.{Text}
use Rattle.yspec.specs.types.Types.{string_base, string_type}
use Rattle.yspec.specs.schema.Schema.{Schema, container, leaf, choice, case, allowed}
use Rattle.yspec_examples.specs.SchemaExamples.{named_module, node_of, of_base, referring}

-- a container of m with a choice of a, in whose case a leaf of a stands
abbrev pub other_choice_schema : Schema
other_choice_schema = record {
  modules = named_module (codes "a") ∷ named_module (codes "m") ∷ [];
  nodes = node (record (node_of 0 (codes "c") (container false)) { module_number = 1 })
      (node (node_of 1 (codes "h") (choice None false))
      (node (node_of 2 (codes "k") case)
      (node (node_of 3 (codes "x") (leaf (of_base (codes "string") string_base) allowed)) end end) end) end) end;
}

-- a container of m with a leaf of a, and behind it a leaf of m of the same name
abbrev pub same_name_schema : Schema
same_name_schema = record {
  modules = named_module (codes "a") ∷ named_module (codes "m") ∷ [];
  nodes = node (record (node_of 0 (codes "c") (container false)) { module_number = 1 })
      (node (node_of 1 (codes "n") (leaf (of_base (codes "string") string_base) allowed)) end
      (node (record (node_of 2 (codes "n") (leaf (of_base (codes "string") string_base) allowed)) { module_number = 1 }) end end)) end;
}

-- a container of m with one of a, in which a leaf of a stands
abbrev pub other_container_schema : Schema
other_container_schema = record {
  modules = named_module (codes "a") ∷ named_module (codes "m") ∷ [];
  nodes = node (record (node_of 0 (codes "c") (container false)) { module_number = 1 })
      (node (node_of 1 (codes "d") (container false))
      (node (node_of 2 (codes "e") (leaf (of_base (codes "string") string_base) allowed)) end end) end) end;
}

-- a container of m with two leafs of a, of which the second refers to the first
abbrev pub other_target_schema : Schema
other_target_schema = record {
  modules = named_module (codes "a") ∷ named_module (codes "m") ∷ [];
  nodes = node (record (node_of 0 (codes "c") (container false)) { module_number = 1 })
      (node (node_of 1 (codes "x") (leaf (of_base (codes "string") string_base) allowed)) end
      (node (node_of 2 (codes "r") (leaf (referring string_type.shape 1) allowed)) end end)) end;
}

-- a forest of so many levels, in which each node has one below it and one behind it: 2^n - 1 times one node
abbrev pub full : {A : Type 0} → A → ℕ → Forest A
full label zero = end
full label (suc n) = node label (full label n) (full label n)

-- so many containers, each in the one before
abbrev pub nested : ℕ → Text
nested zero = []
nested (suc n) = codes "container c {" ++ (nested n ++ codes "}")
