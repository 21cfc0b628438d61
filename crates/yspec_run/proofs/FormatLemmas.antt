-- Told as JSON and as text, runs are alike but for the output.
use Rattle.std.proofs.Common.{◌≡◌, ℕ, Bool, true, false, List, [], ◌∷◌, ◌++◌, Option, Some, None, Result, Ok, Err, ap, refl}
use Rattle.std.specs.Prelude.{nat_le, if◌then◌else◌}
use Rattle.std.specs.Option.{option_map_or}
use Rattle.yspec.specs.Forest.{Forest, end, join}
use Rattle.yspec.specs.text.Text.{Text}
use Rattle.yspec.specs.text.Statement.{Statement, Slip}
use Rattle.yspec.specs.schema.Breaks.{Break}
use Rattle.yspec.specs.schema.Schema.{Schema}
use Rattle.yspec.specs.document.Document.{Step, Tree}
use Rattle.yspec.specs.document.Reading.{Refusal, document_of}
use Rattle.yspec_wide.specs.Texts.{module_in}
use Rattle.yspec_wide.specs.Language.{Language, Unjudged, core, rfc}
use Rattle.yspec_wide.specs.Compiling.{compiled_in}
use Rattle.ysay_repeated.specs.Repeated.{repeated_in}
use Rattle.yspec_run.specs.Output.{Options, Outcome, edit, edited, first_file, other_files, repeated_document, told_too, unless_repeated, validate, with_compiled, with_document, with_files, with_first, with_module, with_modules, with_schema, with_tree}
use Rattle.yspec_run.specs.Script.{lines_of}
use Rattle.yspec_run.specs.Format.{AlikeBesides, in_format}
use Rattle.yspec_run.specs.Part.{Part}
use Rattle.yspec_run.specs.Unjudged.{is_any, note_of, note_parts, noted_by, noted_of, outcome_said, with_note}

same : (o : Outcome) → AlikeBesides o o
same o = record { errors = refl; status = refl; saved = refl; aside = refl }

told_alike : (o p : Outcome) → AlikeBesides o p → AlikeBesides (told_too true o) (told_too false p)
told_alike o p alike = record { errors = alike.errors; status = alike.status; saved = alike.saved; aside = alike.aside }

-- ---- files and modules

files_alike : (names : List Text) (answers : List (Option (List ℕ))) (next other : List (List ℕ) → Outcome)
    → ((files : List (List ℕ)) → AlikeBesides (next files) (other files)) → AlikeBesides (with_files names answers next) (with_files names answers other)
files_alike [] answers next other alike = alike []
files_alike (name ∷ names) [] next other alike = same (with_files (name ∷ names) [] next)
files_alike (name ∷ names) (None ∷ answers) next other alike = same (with_files (name ∷ names) (None ∷ answers) next)
files_alike (name ∷ names) (Some bytes ∷ answers) next other alike =
    files_alike names answers (λ rest. next (bytes ∷ rest)) (λ rest. other (bytes ∷ rest)) (λ rest. alike (bytes ∷ rest))

modules_alike : (language : Language) (names : List Text) (contents : List (List ℕ)) (next other : Forest Statement → List (List ℕ) → Outcome)
    → ((top : Forest Statement) (files : List (List ℕ)) → AlikeBesides (next top files) (other top files))
    → AlikeBesides (with_modules language names contents next) (with_modules language names contents other)
modules_alike language [] contents next other alike = alike end contents
modules_alike language (name ∷ names) [] next other alike = alike end []
modules_alike language (name ∷ names) (bytes ∷ contents) next other alike =
    by (module_in language bytes) (λ top. modules_alike language names contents (λ rest. next (join top rest)) (λ rest. other (join top rest)) (λ rest files. alike (join top rest) files))
  where
    behind : (Forest Statement → List (List ℕ) → Outcome) → Forest Statement → Outcome
    behind next top = with_modules language names contents (λ rest. next (join top rest))

    by : (read : Result (Forest Statement) Slip) → ((top : Forest Statement) → AlikeBesides (behind next top) (behind other top))
        → AlikeBesides (with_module name bytes read (behind next)) (with_module name bytes read (behind other))
    by (Err slip) inner = same (with_module name bytes (Err slip) (behind next))
    by (Ok top) inner = inner top

schema_alike : (language : Language) (names : List Text) (contents : List (List ℕ)) (next other : Schema → List (List ℕ) → Outcome)
    → ((schema : Schema) (files : List (List ℕ)) → AlikeBesides (next schema files) (other schema files))
    → AlikeBesides (with_schema language names contents next) (with_schema language names contents other)
schema_alike language names contents next other alike =
    modules_alike language names contents (λ modules files. with_compiled language names contents modules (compiled_in language modules) (λ schema. next schema files))
    (λ modules files. with_compiled language names contents modules (compiled_in language modules) (λ schema. other schema files)) (λ modules files. by modules files (compiled_in language modules))
  where
    by : (modules : Forest Statement) (files : List (List ℕ)) (o : Result Schema Break)
        → AlikeBesides (with_compiled language names contents modules o (λ schema. next schema files)) (with_compiled language names contents modules o (λ schema. other schema files))
    by modules files (Err broken) = same (with_compiled language names contents modules (Err broken) (λ schema. next schema files))
    by modules files (Ok schema) = alike schema files

-- ---- what is said of conditions

note_alike : (note : Text) (o p : Outcome) → AlikeBesides o p → AlikeBesides (with_note note o) (with_note note p)
note_alike note o p alike =
    record { errors = ap (λ (parts : List Part). note_parts note ++ parts) alike.errors; status = alike.status; saved = alike.saved; aside = alike.aside }

either_alike : (b c : Bool) (x y o p : Outcome) → b ≡ c → AlikeBesides x y → AlikeBesides o p → AlikeBesides (if b then x else o) (if c then y else p)
either_alike true true x y o p is first second = first
either_alike true false x y o p is first second = absurd cc
either_alike false true x y o p is first second = absurd cc
either_alike false false x y o p is first second = second

noted_by_alike : (language : Language) (unjudged : Unjudged) (names : List Text) (contents : List (List ℕ)) (o p : Outcome) → AlikeBesides o p
    → AlikeBesides (noted_by language unjudged names contents o) (noted_by language unjudged names contents p)
noted_by_alike language unjudged names contents o p alike =
    either_alike (nat_le o.status 1) (nat_le p.status 1) _ _ o p (ap (λ (s : ℕ). nat_le s 1) alike.status)
    (modules_alike language names contents (λ modules files. with_note (note_of unjudged modules) o) (λ modules files. with_note (note_of unjudged modules) p)
    (λ top files. note_alike (note_of unjudged top) o p alike)) alike

noted_alike : (language : Language) (names : List Text) (contents : List (List ℕ)) (o p : Outcome) → AlikeBesides o p
    → AlikeBesides (noted_of language names contents o) (noted_of language names contents p)
noted_alike core names contents o p alike = alike
noted_alike (rfc wide) names contents o p alike =
    either_alike (is_any wide.unjudged) (is_any wide.unjudged) _ _ o p refl (noted_by_alike (rfc wide) wide.unjudged names contents o p alike) alike

-- ---- the document

unless_alike : (is_strict : Bool) (schema : Schema) (name : Text) (bytes : List ℕ) (next other : Tree → Outcome) (tree : Tree) → AlikeBesides (next tree) (other tree)
    → AlikeBesides (unless_repeated is_strict schema name bytes next tree) (unless_repeated is_strict schema name bytes other tree)
unless_alike false schema name bytes next other tree alike = alike
unless_alike true schema name bytes next other tree alike = by (repeated_in schema bytes)
  where
    by : (found : Option (List Step)) → AlikeBesides (option_map_or (repeated_document schema name) found (next tree)) (option_map_or (repeated_document schema name) found (other tree))
    by None = alike
    by (Some place) = same (repeated_document schema name place)

document_alike : (language : Language) (is_strict : Bool) (name : Text) (names : List Text) (contents : List (List ℕ)) (next other : Schema → Tree → List (List ℕ) → Outcome)
    → ((schema : Schema) (tree : Tree) (files : List (List ℕ)) → AlikeBesides (next schema tree files) (other schema tree files))
    → AlikeBesides (with_document language is_strict name names contents next) (with_document language is_strict name names contents other)
document_alike language is_strict name names contents next other alike = schema_alike language names contents (with_first is_strict name next) (with_first is_strict name other)
    (λ schema files. by schema files (document_of schema (first_file files)))
  where
    under : (Schema → Tree → List (List ℕ) → Outcome) → Schema → List (List ℕ) → Result Tree Refusal → Outcome
    under next schema files read = with_tree schema name (first_file files) read
        (unless_repeated is_strict schema name (first_file files) (λ tree. next schema tree (other_files files)))

    by : (schema : Schema) (files : List (List ℕ)) (read : Result Tree Refusal) → AlikeBesides (under next schema files read) (under other schema files read)
    by schema files (Err refused) = same (under next schema files (Err refused))
    by schema files (Ok tree) = unless_alike is_strict schema name (first_file files) (λ tree. next schema tree (other_files files))
        (λ tree. other schema tree (other_files files)) tree (alike schema tree (other_files files))

edited_alike : (options : Options) (schema : Schema) (tree : Tree) (lines : List Text)
    → AlikeBesides (edited (in_format true options) schema tree lines) (edited (in_format false options) schema tree lines)
edited_alike options schema tree lines = record { errors = refl; status = refl; saved = refl; aside = refl }

-- ---- runs

module _ (language : Language) (options : Options) (document : Text) (names : List Text) (answers : List (Option (List ℕ))) where
  -- with the files behind the document's taken as lines somehow
  made_alike : (lines : List (List ℕ) → List Text) (contents : List (List ℕ))
      → AlikeBesides (with_document language options.is_strict document names contents (λ schema tree files. edited (in_format true options) schema tree (lines files)))
      (with_document language options.is_strict document names contents (λ schema tree files. edited (in_format false options) schema tree (lines files)))
  made_alike lines contents = document_alike language options.is_strict document names contents
      (λ schema tree files. edited (in_format true options) schema tree (lines files))
      (λ schema tree files. edited (in_format false options) schema tree (lines files))
      (λ schema tree files. edited_alike options schema tree (lines files))

  -- what is found and said, told so
  abbrev run : (List (List ℕ) → List Text) → Bool → List (List ℕ) → Outcome
  run lines as_json contents = noted_of language names contents
      (with_document language options.is_strict document names contents (λ schema tree files. edited (in_format as_json options) schema tree (lines files)))

  runs_alike : (files : List Text) (lines : List (List ℕ) → List Text)
      → AlikeBesides (told_too true (with_files files answers (run lines true))) (told_too false (with_files files answers (run lines false)))
  runs_alike files lines = told_alike (with_files files answers (run lines true)) (with_files files answers (run lines false))
      (files_alike files answers (run lines true) (run lines false) (λ contents. noted_alike language names contents _ _ (made_alike lines contents)))

  pub validated_alike : AlikeBesides (outcome_said (validate language (in_format true options) document names) answers) (outcome_said (validate language (in_format false options) document names) answers)
  unfolding outcome_said
  validated_alike = runs_alike (names ++ document ∷ []) (λ files. [])

  pub edits_alike : (script : Text)
      → AlikeBesides (outcome_said (edit language (in_format true options) document script names) answers) (outcome_said (edit language (in_format false options) document script names) answers)
  unfolding outcome_said
  edits_alike script = runs_alike (names ++ document ∷ script ∷ []) (λ files. lines_of (first_file files))
