-- Worked examples: expressions, and what stands of texts of modules.
use Rattle.std.specs.Prelude.{ℕ, zero, suc, Bool, true, List, [], ◌∷◌, ◌++◌, codes, map, Option, option_map, option_and_then, Result, Ok, Err}
use Rattle.std.specs.List.{list_any}
use Rattle.std.specs.Result.{result_ok}
use Rattle.std.specs.Option.{option_map_or}
use Rattle.yspec.specs.Forest.{Forest, end, join, preorder}
use Rattle.yspec.specs.text.Text.{Text, is_text}
use Rattle.yspec.specs.text.Statement.{Statement, Slip}
use Rattle.yspec.specs.schema.Breaks.{Break}
use Rattle.yspec.specs.schema.Schema.{Schema}
use Rattle.yspec.specs.linking.Arguments.{Name}
use Rattle.yspec.specs.edit.Examples.{module_text}
use Rattle.yspec.specs.document.FaultCode.{fault_number}
use Rattle.yspec.specs.document.Faults.{faults_of}
use Rattle.yspec.specs.document.Document.{Tree}
use Rattle.yspec.specs.document.Writing.{written_text}
use Rattle.yspec.specs.document.Reading.{Refusal, document_of}
use Rattle.yspec_wide.specs.Language.{Language, Choosing, rfc, rfc_with, YangVersion}
use Rattle.yspec_wide.specs.Expressions.{holds, expression_of}
use Rattle.yspec_wide.specs.Texts.{version_of_text, module_in}
use Rattle.yspec_wide.specs.Sources.{sources_in}
use Rattle.yspec_wide.specs.NodeCounts.{node_count_in}
use Rattle.yspec_wide.specs.Compiling.{compiled_in}

-- ---- expressions

-- the features of these names are on
abbrev pub among : List Text → Name → Bool
among names n = list_any (is_text n.identifier) names

-- whether the expression that a text spells holds, if it spells one
abbrev pub tells : YangVersion → List Text → Text → Option Bool
tells version names t = option_map (holds (among names)) (expression_of version t)

abbrev pub all_tell : YangVersion → List Text → List Text → List (Option Bool)
all_tell version names texts = map (tells version names) texts

-- ---- sets of modules

abbrev pub chosen : Text → List Text → Choosing
chosen module_name features = record { module_name = module_name; features = features }

-- the top statements of some texts; a text that spells none adds none
abbrev pub statements_in : Language → List Text → Forest Statement
statements_in language [] = end
statements_in language (t ∷ ts) =
    join (option_map_or (λ top. top) (result_ok (module_in language t)) end) (statements_in language ts)

-- what is told of some texts: the code, the module's number, and the line; or the names of the schema nodes
pub data Outcome : Type 0 where
  told : ℕ → ℕ → ℕ → Outcome
  nodes : List Text → Outcome

abbrev pub outcome_of : Result Schema Break → Outcome
outcome_of (Err b) = told b.code b.module_number b.line
outcome_of (Ok schema) = nodes (map (λ n. n.name) (preorder schema.nodes))

abbrev pub outcome_in : Language → List Text → Outcome
outcome_in language texts = outcome_of (compiled_in language (statements_in language texts))

-- ---- a module named m, with these lines from line 5 on

abbrev pub text_in_1_1 : Text → Text
text_in_1_1 lines = module_text (codes "m") lines

abbrev pub text_in_1 : Text → Text
text_in_1 lines = codes "module m {\n  yang-version 1;\n  namespace \"urn:m\";\n  prefix m;\n" ++ (lines ++ codes "}\n")

-- with these features of it chosen
abbrev pub with_features : List Text → Text → Outcome
with_features features lines = outcome_in (rfc_with (chosen (codes "m") features ∷ [])) (text_in_1_1 lines ∷ [])

-- with all
abbrev pub with_all : Text → Outcome
with_all lines = outcome_in (rfc_with []) (text_in_1_1 lines ∷ [])

-- in YANG 1, with all
abbrev pub with_all_in_1 : Text → Outcome
with_all_in_1 lines = outcome_in (rfc_with []) (text_in_1 lines ∷ [])

-- so many containers around a line
abbrev pub nested : ℕ → Text → Text
nested zero line = line
nested (suc n) line = codes "container c { " ++ (nested n line ++ codes " }\n")

-- what is written of a document under module m, with all features; or the refusal of it
abbrev pub written_by : Schema → Result Tree Refusal → Result Text ℕ
written_by schema (Ok tree) = Ok (written_text schema tree)
written_by schema (Err r) = Err r.code

abbrev pub written_with : Text → Text → Option (Result Text ℕ)
written_with lines document = option_map (λ schema. written_by schema (document_of schema document))
    (result_ok (compiled_in (rfc_with []) (statements_in (rfc_with []) (text_in_1_1 lines ∷ []))))

-- the numbers of the faults of a document under module m, with these features of it chosen
abbrev pub faults_under : Language → Text → Text → Option (List ℕ)
faults_under language text document = option_and_then (λ schema. option_map (λ tree. map (λ f. fault_number f.code) (faults_of schema tree))
    (result_ok (document_of schema document))) (result_ok (compiled_in language (statements_in language (text ∷ []))))

abbrev pub faults_with : List Text → Text → Text → Option (List ℕ)
faults_with features lines document = faults_under (rfc_with (chosen (codes "m") features ∷ [])) (text_in_1_1 lines) document

-- of each fault the number and the tag, with all features
abbrev pub tags_with : Text → Text → Option (List (ℕ × Option Text))
tags_with lines document = option_and_then (λ schema. option_map (λ tree. map (λ f. (fault_number f.code, f.app_tag)) (faults_of schema tree))
    (result_ok (document_of schema document))) (result_ok (compiled_in (rfc_with []) (statements_in (rfc_with []) (text_in_1_1 lines ∷ []))))

-- a grouping of several kinds of nodes in line 5, and these lines behind it
abbrev pub extended : Text → Outcome
extended lines = with_all (codes "  grouping g { container c { leaf x { type string; } list l { key k; leaf k { type string; } } choice h { leaf y { type string; } } } leaf z { type string; } }\n" ++ lines)

-- how many nodes are counted of module m
abbrev pub counted_with : Text → ℕ
counted_with lines = node_count_in (rfc_with []) (sources_in (rfc_with []) (statements_in (rfc_with []) (text_in_1_1 lines ∷ [])))

-- ---- conditions that aren't judged

abbrev pub unjudging : Bool → Bool → Language
unjudging musts whens = rfc (record { choosings = []; unjudged = record { musts = musts; whens = whens } })

abbrev pub with_unjudged : Bool → Bool → Text → Outcome
with_unjudged musts whens lines = outcome_in (unjudging musts whens) (text_in_1_1 lines ∷ [])

-- the faults of a document of which no condition is judged
abbrev pub faults_unjudged : Text → Text → Option (List ℕ)
faults_unjudged lines document = faults_under (unjudging true true) (text_in_1_1 lines) document

-- ---- texts alone

-- what slips, or the version and the statements in order, each with its argument
pub data Reading : Type 0 where
  slips : ℕ → ℕ → Reading
  spells : YangVersion → List (Text × Option Text) → Reading

abbrev pub reading_by : YangVersion → Result (Forest Statement) Slip → Reading
reading_by version (Err s) = slips s.code s.line
reading_by version (Ok top) = spells version (map (λ s. (s.keyword, s.argument)) (preorder top))

abbrev pub reading_of : Text → Reading
reading_of t = reading_by (version_of_text t) (module_in (rfc_with []) t)

-- ---- types whose names are restricted, in a line each (RFC 7950, 9.6.5)

abbrev pub colours : Text
colours = codes "  typedef c { type enumeration { enum white { value 1; } enum yellow { value 2; } enum red { value 3; } } }\n"

abbrev pub speeds : Text
speeds = codes "  typedef b { type bits { bit half; bit fast; bit slow { position 4; } } }\n"

-- ---- a union with a leafref among its members, which stands in line 8

abbrev pub referring_union : Text
referring_union = codes "  leaf y { type string; }\n  leaf x {\n    type union {\n      type leafref { path /y; }\n    }\n  }\n"
