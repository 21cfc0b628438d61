-- Worked examples: runs of the commands over modules and documents whose faults and refusals are known from the standard's rules.
use Rattle.std.specs.Prelude.{Bool, true, false, ◌++◌, List, [], ◌∷◌, codes, Option, Some, None, option_map, option_and_then}
use Rattle.std.specs.Result.{result_ok}
use Rattle.yspec.specs.text.Text.{Text}
use Rattle.yspec.specs.text.Statement.{module_of}
use Rattle.yspec.specs.schema.Schema.{Schema}
use Rattle.yspec.specs.linking.Compiling.{schema_of}
use Rattle.yspec.specs.document.Reading.{document_of}
use Rattle.yspec.specs.document.Writing.{written_text}
use Rattle.yspec.specs.edit.Examples.{module_p, module_text}
use Rattle.ysay_codes.specs.Codes.{reason_of}
use Rattle.yspec_wide.specs.Language.{Choosing, Language, core, rfc}
use Rattle.yspec_run.specs.Unjudged.{outcome_said}
use Rattle.yspec_run.specs.Lines.{outcome_by}
use Rattle.yspec_run.specs.Output.{Options, Printed, Request, a_directory, as_dump, compile, draw, edit, outcome, plainly, printed, printed_with, told_as_json, validate}
use Rattle.yspec_examples.specs.Printing.{found, printed_by}

-- a mandatory leaf in a container in a container
abbrev pub nested_module : Text
nested_module = module_text (codes "q") (codes "  container a {\n    container b {\n"
    ++ codes "      leaf c { type uint8; mandatory true; }\n    }\n    leaf d { type string; }\n  }\n")

-- what `validate d.json m.yang` prints of a module's text and a document's
abbrev pub shown : Text → Text → Printed
shown module_bytes document =
    printed_by (validate core plainly (codes "d.json") (codes "m.yang" ∷ [])) (Some module_bytes ∷ Some document ∷ [])

-- the same of two modules' texts
abbrev pub shown_of_two : Text → Text → Text → Printed
shown_of_two first second document =
    printed_by (validate core plainly (codes "d.json") (codes "m.yang" ∷ codes "n.yang" ∷ [])) (Some first ∷ Some second ∷ Some document ∷ [])

-- the same of one module, with the reasons of what is told
abbrev pub shown_with_reasons : Text → Text → Printed
shown_with_reasons module_bytes document =
    printed true (outcome (validate core plainly (codes "d.json") (codes "m.yang" ∷ [])) (Some module_bytes ∷ Some document ∷ []))

-- the same as JSON
abbrev pub shown_as_json : Text → Text → Printed
shown_as_json module_bytes document =
    printed_by (validate core told_as_json (codes "d.json") (codes "m.yang" ∷ [])) (Some module_bytes ∷ Some document ∷ [])

-- what a request prints by lines, whose files answer so; a document that isn't JSON stops being it somewhere
abbrev pub told_by_lines : Request → List (Option Text) → Printed
told_by_lines request answers = printed false (outcome_by true (record { line = 3; column = 9; cause = a_directory }) request answers)

-- what `validate` does so of a document under a module
abbrev pub shown_by_lines : Text → Text → Printed
shown_by_lines module_bytes document =
    told_by_lines (validate core plainly (codes "d.json") (codes "m.yang" ∷ [])) (Some module_bytes ∷ Some document ∷ [])

-- the line of a fault, what is said of its place, and why its code is told
abbrev pub with_reasons : Text → Text → Text → Text
with_reasons line said code = line ++ (codes "\n  " ++ (said ++ (codes "\n" ++ reason_of code)))

-- one such fault alone
abbrev pub one_with_reasons : Text → Text → Text → Printed
one_with_reasons line said code = found 1 (with_reasons line said code ++ codes "1 fault\n")

-- a document that is refused in a line: what is said of what stands at its place, and why its code is told
abbrev pub refused_with_reasons : Text → Text → Text → Printed
refused_with_reasons line said code = record { output = []; errors = with_reasons line said code; status = 2; saved = None }

-- a refused line of a script, as it reads, and what is said of it
abbrev pub line_with_reasons : Text → Text → Text → Text → Text
line_with_reasons told line said code = with_reasons (told ++ (codes "\n  | " ++ line)) said code

-- what an edit of a small document under module p by a script dumps, with the reasons of what is told
abbrev pub edited_with_reasons : Text → Printed
edited_with_reasons script = printed true (outcome (edit core as_dump (codes "d.json") (codes "s.txt") (codes "m.yang" ∷ []))
    (Some module_p ∷ Some (codes "{\"p:c\":{\"id\":1}}") ∷ Some script ∷ []))

-- how a document is taken whose members are to come once
abbrev strictly : Options
strictly = record plainly { is_strict = true }

-- what `validate --strict` prints of a document under module p, with the reasons of what is told
abbrev pub strictly_shown : Text → Printed
strictly_shown document =
    printed true (outcome (validate core strictly (codes "d.json") (codes "m.yang" ∷ [])) (Some module_p ∷ Some document ∷ []))

-- what `edit --strict` dumps of a small document under module p after a script
abbrev pub strictly_edited : Text → Printed
strictly_edited script = printed_by (edit core (record as_dump { is_strict = true }) (codes "d.json") (codes "s.txt") (codes "m.yang" ∷ []))
    (Some module_p ∷ Some (codes "{\"p:c\":{\"id\":1}}") ∷ Some script ∷ [])

-- hosts of which state is wanted, besides a choice that has a case of state
abbrev pub state_module : Text
state_module = module_text (codes "s") (codes "  list host {\n    key name;\n    leaf name { type string; }\n"
    ++ (codes "    leaf up { type boolean; config false; mandatory true; }\n    list counter {\n      config false;\n      min-elements 1;\n"
    ++ (codes "      leaf n { type uint8; }\n    }\n    leaf level { type uint8; config false; default 5; }\n    unique level;\n"
    ++ codes "    choice mode {\n      mandatory true;\n      leaf auto { type empty; }\n      leaf seen { type empty; config false; }\n    }\n  }\n")))

-- how the configuration of a document is looked at
abbrev pub of_configuration : Options
of_configuration = record plainly { of_configuration = true }

-- what `validate --config` prints of a module's text and a document's
abbrev pub shown_of_configuration : Text → Text → Printed
shown_of_configuration module_bytes document =
    printed_by (validate core of_configuration (codes "d.json") (codes "m.yang" ∷ [])) (Some module_bytes ∷ Some document ∷ [])

-- the same under that module
abbrev pub configured : Text → Printed
configured document = shown_of_configuration state_module document

-- what `edit --config` prints of a document under it, or dumps
abbrev pub edited_configuration : Bool → Text → Text → Printed
edited_configuration is_dump document script = printed_by (edit core (record of_configuration { is_dump = is_dump }) (codes "d.json") (codes "s.txt") (codes "m.yang" ∷ []))
    (Some state_module ∷ Some document ∷ Some script ∷ [])

-- what `validate --explain` says on the error side of a document under module p, where its reader stops at the third column of
-- the second line, and a file can't be read since it is a directory
abbrev pub refused_beside : Text → Text
refused_beside document = (printed_with (record { line = 2; column = 3; cause = a_directory }) true
    (outcome (validate core plainly (codes "d.json") (codes "m.yang" ∷ [])) (Some module_p ∷ Some document ∷ []))).errors

-- the same without what the kit and the system say
abbrev pub refused_alone : Text → Text
refused_alone document =
    (printed true (outcome (validate core plainly (codes "d.json") (codes "m.yang" ∷ [])) (Some module_p ∷ Some document ∷ []))).errors

-- what one prints under module p
abbrev pub shown_by_p : Text → Printed
shown_by_p document = shown module_p document

-- the same, of an empty document under a module with these lines from line 5 on
abbrev pub compiled_alone : Text → Printed
compiled_alone lines = shown (module_text (codes "p") lines) (codes "{}")

abbrev pub without_faults : Printed
without_faults = found 0 (codes "0 faults\n")

abbrev pub read_and_written : Schema → Text → Option Text
read_and_written schema document = option_map (written_text schema) (result_ok (document_of schema document))

-- the text that is written of a document that was read under a module
abbrev pub rewritten : Text → Text → Option Text
rewritten module_bytes document =
    option_and_then (λ m. read_and_written (schema_of m) document) (result_ok (module_of module_bytes))

-- ---- commands

-- what `compile m.yang` prints of a module's text
abbrev pub counted : Text → Printed
counted module_bytes = printed_by (compile core (codes "m.yang" ∷ [])) (Some module_bytes ∷ [])

-- the same in a language
abbrev pub counted_in : Language → Text → Printed
counted_in language module_bytes = printed_by (compile language (codes "m.yang" ∷ [])) (Some module_bytes ∷ [])

-- what `tree NAME m.yang` prints of a module's text
abbrev pub drawn_as : Text → Text → Printed
drawn_as name module_bytes = printed_by (draw core name (codes "m.yang" ∷ [])) (Some module_bytes ∷ [])

-- what `edit d.json s.txt m.yang` prints of a module's text, a document's and a script's
abbrev pub scripted : Text → Text → Text → Printed
scripted module_bytes document script = printed_by (edit core plainly (codes "d.json") (codes "s.txt") (codes "m.yang" ∷ []))
    (Some module_bytes ∷ Some document ∷ Some script ∷ [])

-- the same with `--dump`
abbrev pub dumped : Text → Text → Text → Printed
dumped module_bytes document script = printed_by (edit core as_dump (codes "d.json") (codes "s.txt") (codes "m.yang" ∷ []))
    (Some module_bytes ∷ Some document ∷ Some script ∷ [])

-- what `edit --output o.json` prints of these, with other options as they are, and what it writes to that file
abbrev pub saved_by : Options → Text → Text → Text → Printed
saved_by options module_bytes document script = printed_by (edit core (record options { saved_as = Some (codes "o.json") }) (codes "d.json") (codes "s.txt") (codes "m.yang" ∷ []))
    (Some module_bytes ∷ Some document ∷ Some script ∷ [])

-- a text that is written to that file besides what is printed
abbrev pub and_saved : Printed → Text → Printed
and_saved p text = record p { saved = Some (record { name = codes "o.json"; text = text }) }

-- what is printed on both sides where there is a fault, or a refused edit
abbrev pub faulty : Text → Text → Printed
faulty errors output = record { output = output; errors = errors; status = 1; saved = None }

-- lists by a number and by a text, a leaf-list, and a message with characters that a terminal obeys
abbrev pub keyed_module : Text
keyed_module = module_text (codes "k") (codes "  list n { key a; leaf a { type uint64; } leaf v { type uint8; mandatory true; } }\n"
    ++ (codes "  list t { key a; leaf a { type string; } leaf v { type uint8; mandatory true; } }\n  leaf-list i { type uint8; }\n"
    ++ (codes "  leaf m { type uint8 { range \"0..9\" { error-message \"Too" ++ (127 ∷ (194 ∷ 155 ∷ codes "great.\"; } } }\n")))))

-- ---- languages

-- a module of YANG 1 with a leaf that rests on a feature
abbrev pub feature_module : Text
feature_module = codes "module a {\n  namespace \"urn:a\";\n  prefix a;\n  feature f;\n"
    ++ codes "  leaf x { if-feature f; type string; mandatory true; }\n  leaf y { type string; }\n}\n"

-- no feature of a module is chosen
abbrev pub no_features : Text → Choosing
no_features name = record { module_name = name; features = [] }

-- what `validate d.json m.yang` prints in a language of a module's text and a document's
abbrev pub validated_in : Language → Text → Text → Printed
validated_in language module_bytes document =
    printed_by (validate language plainly (codes "d.json") (codes "m.yang" ∷ [])) (Some module_bytes ∷ Some document ∷ [])

-- the same with what is said of each fault
abbrev pub explained_in : Language → Text → Text → Printed
explained_in language module_bytes document =
    printed true (outcome (validate language plainly (codes "d.json") (codes "m.yang" ∷ [])) (Some module_bytes ∷ Some document ∷ []))

-- a module with a union that has a leafref among its members, and one with a leaf of such a type
abbrev pub referring_module : Text
referring_module = module_text (codes "u") (codes "  leaf-list y { type int8; }\n  leaf x { type union { type boolean; type leafref { path /y; } } }\n")

abbrev pub referring_to : Text → Text
referring_to path = module_text (codes "u") (codes "  leaf x { type union { type string; type leafref { path " ++ (path ++ codes "; } } }\n"))

-- a module with conditions, and what `validate d.json m.yang` prints of it and an empty document where some aren't judged
abbrev pub conditions_module : Text
conditions_module = codes "module b {\n  yang-version 1.1;\n  namespace \"urn:b\";\n  prefix b;\n"
    ++ codes "  leaf x { must \"../y\"; when \"../z\"; type string; mandatory true; }\n  leaf y { must \"../x\"; type string; mandatory true; }\n}\n"

abbrev pub validated_unjudged : Bool → Bool → Text → Printed
validated_unjudged musts whens module_bytes = printed false (outcome_said (validate
    (rfc (record { choosings = []; unjudged = record { musts = musts; whens = whens } })) plainly (codes "d.json") (codes "m.yang" ∷ []))
    (Some module_bytes ∷ Some (codes "{}") ∷ []))
