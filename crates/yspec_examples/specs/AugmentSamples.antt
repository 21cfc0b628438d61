-- Worked examples: modules that augment one another, and the schema that they make or what is told of them.
use Rattle.std.specs.Prelude.{List, [], ◌∷◌, ◌++◌, map, codes, Option, Some, Result, Ok}
use Rattle.yspec.specs.Forest.{Forest}
use Rattle.yspec.specs.text.Text.{Text}
use Rattle.yspec.specs.edit.Examples.{module_text}
use Rattle.yspec_wide.specs.Language.{core}
use Rattle.yspec_run.specs.Output.{Printed, as_dump, compile, edit, plainly, validate}
use Rattle.yspec_examples.specs.Printing.{printed_by}
use Rattle.yspec.specs.schema.Breaks.{Break}
use Rattle.yspec.specs.schema.Schema.{Schema}
use Rattle.yspec.specs.linking.Source.{Source}
use Rattle.yspec_examples.specs.LinkingSamples.{statements_in}
use Rattle.yspec.specs.linking.NodeBreaks.{node_breaks}
use Rattle.yspec.specs.linking.Compiling.{plan_of, schema_of}

-- the schema of some texts whatever is told
abbrev pub made_anyway : List Text → Result Schema Break
made_anyway texts = Ok (schema_of (statements_in texts))

-- all that is told of nodes
abbrev pub additions_told : Forest Source → List Break
additions_told modules = node_breaks (plan_of modules)

-- ---- modules

-- a module m with these lines, and a module a that imports it, with others from line 6 on
abbrev pub m_and_a : Text → Text → List Text
m_and_a lines others = module_text (codes "m") lines
    ∷ module_text (codes "a") (codes "  import m { prefix m; }\n" ++ others) ∷ []

-- the same where m has a container, and where it has a choice of one container
abbrev pub added_to_c : Text → List Text
added_to_c others = m_and_a (codes "  container c { }\n") others

abbrev pub added_to_choice : Text → List Text
added_to_choice others = m_and_a (codes "  choice h { container k { } }\n") others

-- the same with two leafs of a in the choice
abbrev pub two_added_to_choice : List Text
two_added_to_choice = added_to_choice (codes "  augment /m:h { leaf y { type string; } leaf z { type string; } }\n")

-- a module m with a container, a module b that adds a container to it, and a module a, given first, with these lines from 7
-- on
abbrev pub a_b_and_m : Text → List Text
a_b_and_m lines = module_text (codes "a") (codes "  import m { prefix m; }\n  import b { prefix b; }\n" ++ lines)
    ∷ module_text (codes "b") (codes "  import m { prefix m; }\n  augment /m:c { container x { } }\n")
    ∷ module_text (codes "m") (codes "  container c { }\n") ∷ []

-- the same with a leaf of a in the container of b
abbrev pub three_with : Text → List Text
three_with leaf_text = a_b_and_m (codes "  augment /m:c/b:x { " ++ (leaf_text ++ codes " }\n"))

-- ---- runs

-- the texts of three modules, given as their files are read
abbrev pub three_files : List (Option Text)
three_files = map (λ t. Some t) (three_with (codes "leaf y { type string; }"))

abbrev pub three_names : List Text
three_names = codes "a.yang" ∷ codes "b.yang" ∷ codes "m.yang" ∷ []

-- what `compile` prints of them, and `validate` of a document under them
abbrev pub counted_of_three : Printed
counted_of_three = printed_by (compile core three_names) three_files

abbrev pub shown_of_three : Text → Printed
shown_of_three document = printed_by (validate core plainly (codes "d.json") three_names) (three_files ++ Some document ∷ [])

-- what `edit --dump` prints of a document and a script
abbrev pub dumped_of_three : Text → Text → Printed
dumped_of_three document script =
    printed_by (edit core as_dump (codes "d.json") (codes "s.txt") three_names) (three_files ++ Some document ∷ Some script ∷ [])
