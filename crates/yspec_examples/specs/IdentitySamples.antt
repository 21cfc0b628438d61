-- Worked examples: identities of one module and of another, and nodes that take them.
use Rattle.std.specs.Prelude.{[], ◌∷◌, ◌++◌, codes, Some}
use Rattle.yspec.specs.text.Text.{Text}
use Rattle.yspec.specs.edit.Examples.{module_text}
use Rattle.yspec_wide.specs.Language.{core}
use Rattle.yspec_run.specs.Output.{Printed, as_dump, edit}
use Rattle.yspec_examples.specs.Printing.{printed_by}
use Rattle.yspec_examples.specs.RunExamples.{shown_of_two}

-- four identities, of which two derive from the first
abbrev pub module_i : Text
module_i = module_text (codes "i") (codes "  identity base1;\n  identity eth { base base1; }\n  identity fast { base eth; }\n"
    ++ codes "  identity odd;\n  leaf-list t { type identityref { base base1; } }\n")

-- one of two bases, and leafs that ask for both and for one
abbrev pub module_j : Text
module_j = module_text (codes "j") (codes "  import i { prefix i; }\n  identity opt { base i:fast; base i:odd; }\n"
    ++ (codes "  leaf both { type identityref { base i:base1; base i:odd; } }\n"
    ++ codes "  leaf one { type identityref { base i:base1; } default i:eth; }\n"))

-- what `validate` prints of a document under both
abbrev pub shown_of_identities : Text → Printed
shown_of_identities document = shown_of_two module_i module_j document

-- a typedef, and a grouping of leafs that take identities
abbrev pub module_s : Text
module_s = module_text (codes "s") (codes "  identity r;\n  identity r1 { base r; }\n"
    ++ (codes "  typedef rt { type identityref { base r; } default r1; }\n  grouping g {\n    leaf v { type rt; }\n"
    ++ (codes "    leaf w { type identityref { base r; } default r1; }\n"
    ++ codes "    leaf-list k { type union { type uint8; type rt; type string; } }\n  }\n")))

-- a module that uses them, with an identity of a name that the other one has as well
abbrev pub module_u : Text
module_u = module_text (codes "u") (codes "  import s { prefix p; }\n  identity r1 { base p:r1; }\n"
    ++ (codes "  uses p:g { refine w { default p:r1; } }\n"
    ++ (codes "  container c { uses p:g; leaf ref { type leafref { path /v; } } }\n"
    ++ codes "  list l { key k1; unique x; leaf k1 { type p:rt; } leaf x { type p:rt; } }\n")))

abbrev pub shown_across : Text → Printed
shown_across document = shown_of_two module_u module_s document

-- what a script makes of a document under them
abbrev pub dumped_across : Text → Text → Printed
dumped_across document script = printed_by (edit core as_dump (codes "d.json") (codes "s.txt") (codes "m.yang" ∷ codes "n.yang" ∷ []))
    (Some module_u ∷ Some module_s ∷ Some document ∷ Some script ∷ [])
