-- What a run of the program prints, as a function of the files that it asks for and of what they contain.
use Rattle.std.specs.Prelude.{ℕ, zero, suc, ◌++◌, ◌&&◌, Bool, true, false, List, [], ◌∷◌, length, map, codes, decimal, Option, Some, None, Result, Ok, Err, if◌then◌else◌, ◌==◌, option_map, position, slice_get, unwrap_or}
use Rattle.std.specs.List.{flat_map}
use Rattle.std.specs.Option.{option_map_or}
use Rattle.ysay_codes.specs.Codes.{all_explanations, explained, explanations_of, reason_of, unknown_among}
use Rattle.yspec.specs.Forest.{Forest, end, join, size}
use Rattle.yspec.specs.text.Text.{Text, is_text}
use Rattle.yspec.specs.text.Statement.{Statement, Slip}
use Rattle.yspec.specs.schema.Breaks.{Break}
use Rattle.yspec.specs.schema.Schema.{Schema}
use Rattle.yspec.specs.schema.Diagram.{diagram}
use Rattle.yspec.specs.document.Document.{Step, Tree}
use Rattle.yspec.specs.document.Reading.{Refusal, document_of}
use Rattle.yspec.specs.document.Fault.{Fault}
use Rattle.yspec.specs.document.FaultCode.{fault_number}
use Rattle.yspec.specs.document.Faults.{line_of}
use Rattle.yspec.specs.document.StateData.{Inspected, inspected}
use Rattle.yspec.specs.document.Path.{path_text}
use Rattle.yspec.specs.document.Writing.{written_text}
use Rattle.yspec_wide.specs.Language.{Language}
use Rattle.yspec_wide.specs.Texts.{module_in}
use Rattle.yspec_wide.specs.Compiling.{compiled_in}
use Rattle.ysay_fault.specs.Sentences.{explained_fault}
use Rattle.ysay_json.specs.FaultData.{json_text}
use Rattle.ysay_jumps.specs.Jumps.{fault_message}
use Rattle.ysay_json.specs.RefusalData.{Refused}
use Rattle.ysay_repeated.specs.Repeated.{repeated_in}
use Rattle.yspec_run.specs.Hint.{break_hint, hinted, is_read_in_rfc, language_hint, refusal_hint, repeated_hint, slip_hint}
use Rattle.yspec_run.specs.Part.{Part, at_node, count_part, in_document, in_module, line_about, objects, placed, plain, spelled}
use Rattle.yspec_run.specs.RefusalData.{document_object, module_object, module_tag, object_line, text_tag, unread_object}
use Rattle.yspec_run.specs.Script.{after_lines, lines_of, refused_lines}

-- how a document is taken, and what is made of it
pub record Options : Type 0 where
  -- one with a member that comes twice is refused
  pub is_strict : Bool
  -- its configuration alone is looked at
  pub of_configuration : Bool
  -- faults and refusals are told as JSON
  pub as_json : Bool
  -- the document is printed in place of its faults
  pub is_dump : Bool
  -- the file to which the document is written at the end
  pub saved_as : Option Text

abbrev pub plainly : Options
plainly = record { is_strict = false; of_configuration = false; as_json = false; is_dump = false; saved_as = None }

abbrev pub as_dump : Options
as_dump = record plainly { is_dump = true }

abbrev pub told_as_json : Options
told_as_json = record plainly { as_json = true }

-- what the words of a command line ask for; modules are read in a language
pub data Request : Type 0 where
  -- what is said of codes; of all where none is named
  explain : List Text → Request
  -- how many schema nodes modules define
  compile : Language → List Text → Request
  -- the tree diagram of the module of a name
  draw : Language → Text → List Text → Request
  -- those of all modules
  draw_all : Language → List Text → Request
  -- the faults of a document under modules
  validate : Language → Options → Text → List Text → Request
  -- the same after the edits of a script
  edit : Language → Options → Text → Text → List Text → Request

-- a file with what it is to contain
pub record SavedFile : Type 0 where
  pub name : Text
  pub text : List ℕ

-- what is printed behind the error side where reasons are wanted, and the system or the kit says it
pub data Aside : Type 0 where
  nothing : Aside
  -- where the document of a name stops being JSON
  stop_of : Text → Aside
  -- why a file can't be read
  cause : Aside

-- what goes to both sides, the exit status, the file that is written once all else is, and what is printed besides
pub record Outcome : Type 0 where
  pub output : List Part
  pub errors : List Part
  pub status : ℕ
  pub saved : Option SavedFile
  pub aside : Aside
  -- the object that tells what the error side does, where it has one
  pub told : Option Refused

-- both sides' bytes, the exit status, and that file
pub record Printed : Type 0 where
  pub output : List ℕ
  pub errors : List ℕ
  pub status : ℕ
  pub saved : Option SavedFile

-- what an outcome prints, with or without the reasons of its parts
abbrev pub printed : Bool → Outcome → Printed
printed with_reasons o =
    record { output = spelled with_reasons o.output; errors = spelled with_reasons o.errors; status = o.status; saved = o.saved }

-- why the system can't read a file
pub data Unreadable : Type 0 where
  no_file : Unreadable
  no_permission : Unreadable
  a_directory : Unreadable
  another_cause : Unreadable

abbrev pub words_of : Unreadable → Text
words_of no_file = codes "no such file"
words_of no_permission = codes "permission is denied"
words_of a_directory = codes "it is a directory"
words_of another_cause = codes "the system can't read it"

-- what the kit and the system say: where a reader of JSON stops in a text, and why a file can't be read
pub record Besides : Type 0 where
  pub line : ℕ
  pub column : ℕ
  pub cause : Unreadable

-- `FILE:LINE:COLUMN: ..`, where the document of a name stops being JSON
abbrev pub stop_line : Besides → Text → List ℕ
stop_line besides name =
    name ++ (codes ":" ++ (decimal besides.line ++ (codes ":" ++ (decimal besides.column ++ codes ": reading stops here\n"))))

abbrev pub aside_text : Besides → Aside → List ℕ
aside_text besides nothing = []
aside_text besides (stop_of name) = stop_line besides name
aside_text besides cause = codes "  " ++ (words_of besides.cause ++ codes ".\n")

abbrev pub aside_where : Bool → Besides → Aside → List ℕ
aside_where with_reasons besides aside = if with_reasons then aside_text besides aside else []

-- what an outcome prints where these are said
abbrev pub printed_with : Besides → Bool → Outcome → Printed
printed_with besides with_reasons o = let p = printed with_reasons o in
    record p { errors = p.errors ++ aside_where with_reasons besides o.aside }

abbrev pub found : ℕ → List ℕ → Outcome
found status output = record { output = plain output ∷ []; errors = []; status = status; saved = None; aside = nothing; told = None }

abbrev pub failed_with : ℕ → Part → Outcome
failed_with status part = record { output = []; errors = part ∷ []; status = status; saved = None; aside = nothing; told = None }

abbrev pub failed : ℕ → List ℕ → Outcome
failed status line = failed_with status (plain (line ++ codes "\n"))

abbrev pub with_object : Refused → Outcome → Outcome
with_object r o = record o { told = Some r }

-- the line of an object, where there is one
abbrev pub object_parts : Option Refused → List Part
object_parts None = []
object_parts (Some r) = plain (object_line r) ∷ []

-- an outcome whose object the output tells first, where that is wanted
abbrev pub told_too : Bool → Outcome → Outcome
told_too false o = o
told_too true o = record o { output = object_parts o.told ++ o.output }

-- ---- the files

-- the words for files in the order in which they are read: modules, the document, the script
abbrev pub files_of : Request → List Text
files_of (explain names) = []
files_of (compile language modules) = modules
files_of (draw language name modules) = modules
files_of (draw_all language modules) = modules
files_of (validate language options document modules) = modules ++ document ∷ []
files_of (edit language options document script modules) = modules ++ document ∷ script ∷ []

abbrev pub unread : Text → Outcome
unread name = with_object (unread_object name) (record (failed 4 (codes "cannot read " ++ name)) { aside = cause })

abbrev pub with_contents : Text → Option (List ℕ) → (List ℕ → Outcome) → Outcome
with_contents name None next = unread name
with_contents name (Some bytes) next = next bytes

-- `next` goes on with the contents of all files, where each could be read; with fewer answers than files, nothing is said
abbrev pub with_files : List Text → List (Option (List ℕ)) → (List (List ℕ) → Outcome) → Outcome
with_files [] answers next = next []
with_files (name ∷ names) [] next = unread name
with_files (name ∷ names) (answer ∷ answers) next =
    with_contents name answer (λ bytes. with_files names answers (λ rest. next (bytes ∷ rest)))

-- ---- modules

-- `FILE:LINE: CODE`, by the letter of the code and its number
abbrev pub refusal_part : Text → ℕ → Text → ℕ → Part
refusal_part name line letter number = let code = letter ++ decimal number in
    placed (in_module name line) code (line_about code (name ++ (codes ":" ++ (decimal line ++ (codes ": " ++ code)))))

abbrev pub slipped : Text → List ℕ → Slip → Outcome
slipped name bytes s = with_object (module_object text_tag name s.line (codes "L" ++ decimal s.code))
    (failed_with 2 (hinted (slip_hint s.code s.line bytes) (refusal_part name s.line (codes "L") s.code)))

abbrev pub broken : Language → List Text → List (List ℕ) → Forest Statement → Break → Outcome
broken language names contents modules b = let name = unwrap_or (slice_get names b.module_number) [] in
    with_object (module_object (module_tag b.code) name b.line (codes "C" ++ decimal b.code))
    (failed_with 2 (hinted (break_hint contents modules b ++ language_hint (is_read_in_rfc language modules b)) (refusal_part name b.line (codes "C") b.code)))

abbrev pub with_module : Text → List ℕ → Result (Forest Statement) Slip → (Forest Statement → Outcome) → Outcome
with_module name bytes (Err s) next = slipped name bytes s
with_module name bytes (Ok top) next = next top

-- `next` goes on with the row of all modules' statements, and with the files that are left
abbrev pub with_modules : Language → List Text → List (List ℕ) → (Forest Statement → List (List ℕ) → Outcome) → Outcome
with_modules language [] files next = next end files
with_modules language (name ∷ names) [] next = next end []
with_modules language (name ∷ names) (bytes ∷ files) next =
    with_module name bytes (module_in language bytes) (λ top. with_modules language names files (λ rest. next (join top rest)))

abbrev pub with_compiled : Language → List Text → List (List ℕ) → Forest Statement → Result Schema Break → (Schema → Outcome) → Outcome
with_compiled language names contents modules (Err b) next = broken language names contents modules b
with_compiled language names contents modules (Ok schema) next = next schema

-- `next` goes on with the schema in a language of modules whose files have these contents, and with the files that are left
abbrev pub with_schema : Language → List Text → List (List ℕ) → (Schema → List (List ℕ) → Outcome) → Outcome
with_schema language names contents next = with_modules language names contents (λ modules files.
    with_compiled language names contents modules (compiled_in language modules) (λ schema. next schema files))

-- ---- the document

-- `FILE: CODE PLACE`
abbrev pub document_part : Schema → Text → Refusal → Part
document_part schema name r = let code = codes "J" ++ decimal r.code in let told = code ++ (codes " " ++ path_text schema r.place) in
    placed (in_document name schema r) told (line_about code (name ++ (codes ": " ++ told)))

-- where a document that isn't JSON stops being it is said besides
abbrev pub aside_of : Text → ℕ → Aside
aside_of name code = if code == 1 then stop_of name else nothing

-- a document is refused, of which this is said besides
abbrev pub refused_document : Text → Schema → Text → Refusal → Outcome
refused_document hint schema name r = with_object (document_object name (path_text schema r.place) r.code)
    (record (failed_with 2 (hinted hint (document_part schema name r))) { aside = aside_of name r.code })

abbrev pub not_read : Schema → Text → List ℕ → Refusal → Outcome
not_read schema name bytes r = refused_document (refusal_hint schema bytes r) schema name r

abbrev pub with_tree : Schema → Text → List ℕ → Result Tree Refusal → (Tree → Outcome) → Outcome
with_tree schema name bytes (Err r) next = not_read schema name bytes r
with_tree schema name bytes (Ok tree) next = next tree

-- a document that gives a member twice in one object, at the place of its node
abbrev pub repeated_document : Schema → Text → List Step → Outcome
repeated_document schema name place =
    refused_document (repeated_hint schema place) schema name (record { code = 8; place = place })

-- where such a document is refused, `next` goes on with the tree of one that isn't such
abbrev pub unless_repeated : Bool → Schema → Text → List ℕ → (Tree → Outcome) → Tree → Outcome
unless_repeated is_strict schema name bytes next tree =
    if is_strict then option_map_or (repeated_document schema name) (repeated_in schema bytes) (next tree) else next tree

abbrev pub first_file : List (List ℕ) → List ℕ
first_file [] = []
first_file (bytes ∷ files) = bytes

abbrev pub other_files : List (List ℕ) → List (List ℕ)
other_files [] = []
other_files (bytes ∷ files) = files

-- `next` goes on with the document of the first of some files, and with those behind it
abbrev pub with_first : Bool → Text → (Schema → Tree → List (List ℕ) → Outcome) → Schema → List (List ℕ) → Outcome
with_first is_strict document next schema files = let bytes = first_file files in
    with_tree schema document bytes (document_of schema bytes)
    (unless_repeated is_strict schema document bytes (λ tree. next schema tree (other_files files)))

abbrev pub with_document : Language → Bool → Text → List Text → List (List ℕ) → (Schema → Tree → List (List ℕ) → Outcome) → Outcome
with_document language is_strict document names contents next = with_schema language names contents (with_first is_strict document next)

-- ---- reports

abbrev pub counted : Schema → Outcome
counted schema = found 0 (decimal (size schema.nodes) ++ codes " nodes\n")

-- the diagram of the module of a name, by its number in the set if there is one
abbrev pub drawn : Schema → Text → Option ℕ → Outcome
drawn schema name None = failed 2 (name ++ codes ": no such module")
drawn schema name (Some shown) = found 0 (diagram schema shown)

-- a diagram behind those of the modules before its own, with an empty line between
abbrev pub before_diagram : ℕ → Text
before_diagram zero = []
before_diagram (suc number) = codes "\n"

abbrev pub placed_diagram : Schema → ℕ → Text
placed_diagram schema number = before_diagram number ++ diagram schema number

-- those of so many modules from the one of a number on
abbrev pub diagrams_from : Schema → ℕ → ℕ → Text
diagrams_from schema number zero = []
diagrams_from schema number (suc count) = placed_diagram schema number ++ diagrams_from schema (suc number) count

abbrev pub all_diagrams : Schema → Text
all_diagrams schema = diagrams_from schema 0 (length schema.modules)

-- a fault's line; of it is said what stands at its place, and then why its code is told
abbrev pub fault_part : Schema → Tree → Fault → Part
fault_part schema tree f = record {
  text = line_of schema f;
  reason = explained_fault schema tree f ++ reason_of (codes "V" ++ decimal (fault_number f.code));
  bare = [];
  object = [];
  spot = at_node schema f.steps;
  message = fault_message schema tree f;
}

-- a line for each fault of a document, and then how many there are
abbrev pub report : Schema → Tree → List Fault → List Part
report schema tree faults = map (fault_part schema tree) faults ++ count_part (length faults) ∷ []

-- the text of a document, in a line
abbrev pub dump : Schema → Tree → List ℕ
dump schema tree = written_text schema tree ++ codes "\n"

-- what stands in place of the lines of its faults: the document as a whole, or what was refused and its faults as JSON
abbrev pub text_instead : Options → Schema → Tree → List Part → Inspected → Option Text
text_instead options schema tree refused i = if options.is_dump then Some (written_text schema tree)
    else (if options.as_json then Some (objects refused ++ json_text i.schema i.tree i.faults) else None)

-- a text that ends with a line feed
abbrev pub text_parts : Text → List Part
text_parts text = plain (text ++ codes "\n") ∷ []

-- the file to which a document is written, if to any
abbrev pub saved_by : Options → Schema → Tree → Option SavedFile
saved_by options schema tree = option_map (λ name. record { name = name; text = dump schema tree }) options.saved_as

-- a document after edits, of which the refused ones are told in these lines
abbrev pub left : Options → Schema → Tree → List Part → Outcome
left options schema tree refused = let i = inspected options.of_configuration schema tree in record {
  output = option_map_or text_parts (text_instead options schema tree refused i) (report i.schema i.tree i.faults);
  errors = refused;
  status = if length i.faults == 0 && length refused == 0 then 0 else 1;
  saved = saved_by options schema tree;
  aside = nothing;
  told = None;
}

-- a document after the lines of a script
abbrev pub edited : Options → Schema → Tree → List Text → Outcome
edited options schema tree lines =
    left options schema (after_lines options.is_strict schema tree lines) (refused_lines options.is_strict schema 1 tree lines)

-- ---- what is printed where all files could be read, and have these contents

abbrev pub compilation : Language → List Text → List (List ℕ) → Outcome
compilation language names contents = with_schema language names contents (λ schema files. counted schema)

abbrev pub drawing : Language → Text → List Text → List (List ℕ) → Outcome
drawing language name names contents = with_schema language names contents (λ schema files.
    drawn schema name (position (λ m. is_text m.name name) schema.modules))

abbrev pub drawing_all : Language → List Text → List (List ℕ) → Outcome
drawing_all language names contents = with_schema language names contents (λ schema files. found 0 (all_diagrams schema))

-- as an edit by a script without lines
abbrev pub validation : Language → Options → Text → List Text → List (List ℕ) → Outcome
validation language options document names contents =
    with_document language options.is_strict document names contents (λ schema tree files. edited options schema tree [])

abbrev pub edition : Language → Options → Text → List Text → List (List ℕ) → Outcome
edition language options document names contents = with_document language options.is_strict document names contents (λ schema tree files.
    edited options schema tree (lines_of (first_file files)))

-- what is said of codes, or the first word that is none
abbrev pub explanation_found : List Text → Option Text → Outcome
explanation_found names (Some unknown) = failed 2 (unknown ++ codes ": no such code")
explanation_found [] None = found 0 (flat_map explained all_explanations)
explanation_found (name ∷ names) None = found 0 (flat_map explained (explanations_of (name ∷ names)))

abbrev pub explanation : List Text → Outcome
explanation names = explanation_found names (unknown_among names)

abbrev pub performed : Request → List (List ℕ) → Outcome
performed (explain names) contents = explanation names
performed (compile language names) contents = compilation language names contents
performed (draw language name names) contents = drawing language name names contents
performed (draw_all language names) contents = drawing_all language names contents
performed (validate language options document names) contents = validation language options document names contents
performed (edit language options document script names) contents = edition language options document names contents

-- whether what is told is to be told as JSON
abbrev pub as_json_of : Request → Bool
as_json_of (explain names) = false
as_json_of (compile language modules) = false
as_json_of (draw language name modules) = false
as_json_of (draw_all language modules) = false
as_json_of (validate language options document modules) = options.as_json
as_json_of (edit language options document script modules) = options.as_json

-- what is found of a request, where the files answered so, in order and up to the first failure
abbrev pub found_of : Request → List (Option (List ℕ)) → Outcome
found_of request answers = with_files (files_of request) answers (performed request)

-- the outcome of a request for these answers
unfoldable pub outcome : Request → List (Option (List ℕ)) → Outcome
outcome request answers = told_too (as_json_of request) (found_of request answers)
