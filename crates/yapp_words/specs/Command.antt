-- What the words of a command line ask for, by clap's own definition of what it takes.
use Rattle.std.specs.Prelude.{◌≡◌, ◌&&◌, ◌||◌, not, Bool, true, false, List, [], ◌∷◌, map, codes, ℕ, Option, Some, None, is_some, option_and_then, option_map, unwrap_or, Result, Ok, Err, if◌then◌else◌}
use Rattle.std.specs.List.{list_any}
use Rattle.std.specs.Str.{bytes_eq}
use Rattle.yspec.specs.linking.Arguments.{count_of}
use Rattle.yspec_wide.specs.Language.{Language, core}
use Rattle.yspec_run.specs.Output as spec
use Rattle.yspec_run.specs.Output.{explain, compile, draw, draw_all, validate, edit}
use Rattle.yspec_opening.specs.Opening.{Asked, Opening, report, session}
use Rattle.clap.specs.Kinds.{or_else}
use Rattle.clap.specs.Words.{Kinds, Row, Text, all_of, fault_of, first_of, subcommand_of}
use Rattle.clap.specs.declared.error.kind.ErrorKind.{ErrorKind}
use Rattle.clap.specs.declared.error.kind.ErrorKind.TheVariants.{ArgumentConflict, DisplayHelp, DisplayVersion, InvalidSubcommand, InvalidValue, OutOfMemory, ValueValidation}
use Rattle.ylink_grammar.specs.LanguageView.{language_view}
use Rattle.yapp_words.specs.Application.{yanglive}
use Rattle.yapp_profile.specs.Languages.{chooses_in_core, choosings_of, is_profile, language_of, passes_in_core, profile_of, unfit_choosing, unfit_unjudged, unjudged_word}
use Rattle.yapp_words.specs.declared.command.Options.{Options}
use Rattle.yapp_words.specs.declared.command.Request.{Request}
use Rattle.yapp_words.specs.declared.command.Request.TheVariants as requests
use Rattle.yapp_words.specs.declared.command.Asked as rust
use Rattle.yapp_words.specs.declared.command.Asked.TheVariants as asks
use Rattle.yapp_words.specs.declared.command.CommandLine.{CommandLine}
use Rattle.yapp_words.specs.declared.command.Opening as given
use Rattle.yapp_words.specs.declared.command.NoRequest.{NoRequest}
use Rattle.yapp_words.specs.declared.command.NoRequest.TheVariants as none

-- ---- words; the first is the program's name

abbrev pub commands : List Text
commands = codes "explain" ∷ codes "compile" ∷ codes "tree" ∷ codes "validate" ∷ codes "edit" ∷ codes "session" ∷ []

abbrev pub is_command : Text → Bool
is_command name = list_any (bytes_eq name) commands

-- `help` stands for `--help`, and `help COMMAND` for `COMMAND --help`
abbrev pub meant : List Text → List Text
meant (program ∷ word ∷ []) =
    if bytes_eq word (codes "help") then program ∷ codes "--help" ∷ [] else program ∷ word ∷ []
meant (program ∷ word ∷ name ∷ []) = if bytes_eq word (codes "help") && is_command name
    then program ∷ name ∷ codes "--help" ∷ [] else program ∷ word ∷ name ∷ []
meant words = words

-- `help` for a word that is no command's
abbrev pub helps_nothing : List Text → Bool
helps_nothing (program ∷ word ∷ name ∷ []) = bytes_eq word (codes "help") && not (is_command name)
helps_nothing words = false

abbrev pub value_of : Text → List Row → Text
value_of name rows = unwrap_or (first_of name rows) []

abbrev pub modules_of : List Row → List Text
modules_of rows = unwrap_or (all_of (codes "MODULE") rows) []

-- the folders where modules are looked for
abbrev pub folders_of : List Row → List Text
folders_of rows = unwrap_or (all_of (codes "folders") rows) []

abbrev pub is_given : Text → List Row → Bool
is_given name rows = bytes_eq (value_of name rows) (codes "true")

-- how what is told is to be told
abbrev pub format_of : List Row → Text
format_of rows = unwrap_or (first_of (codes "format") rows) (codes "text")

-- whether a command tells of a document
abbrev pub is_over_document : Text → Bool
is_over_document command = bytes_eq command (codes "validate") || bytes_eq command (codes "edit")

-- whether a command tells so: as lines, as lines to which an editor jumps, or of a document as JSON
abbrev pub is_format : Text → Text → Bool
is_format command name = bytes_eq name (codes "text")
    || (bytes_eq name (codes "lines") || (is_over_document command && bytes_eq name (codes "json")))

abbrev pub is_by_lines : List Row → Bool
is_by_lines rows = bytes_eq (format_of rows) (codes "lines")

-- how many edits of a session can be taken back: 1000 unless it is said
abbrev pub most_remembered : ℕ
most_remembered = 1000

abbrev pub remembered_by : Option Text → ℕ
remembered_by word = unwrap_or (option_and_then count_of word) most_remembered

abbrev pub remembers_of : List Row → ℕ
remembers_of rows = remembered_by (first_of (codes "undo") rows)

-- ---- why words are refused

-- a format that isn't known, where a command's arguments name one
abbrev pub unknown_format : Option (Text × List Row) → Option Text
unknown_format None = None
unknown_format (Some command) = let name = format_of command.1 in if is_format command.0 name then None else Some name

-- a profile that isn't known, where they name one
abbrev pub unknown_profile : Option (Text × List Row) → Option Text
unknown_profile None = None
unknown_profile (Some command) = let name = profile_of command.1 in if is_profile name then None else Some name

-- a word that chooses features of no module, where they have one
abbrev pub unfit_features : Option (Text × List Row) → Option Text
unfit_features None = None
unfit_features (Some command) = unfit_choosing (choosings_of command.1)

-- whether they choose features under a profile without any
abbrev pub features_in_core : Option (Text × List Row) → Bool
features_in_core None = false
features_in_core (Some command) = chooses_in_core command.1

-- a word that names other conditions than there are, where they have one
abbrev pub unfit_conditions : Option (Text × List Row) → Option Text
unfit_conditions None = None
unfit_conditions (Some command) = unfit_unjudged (unjudged_word command.1)

-- whether they name some under a profile without any
abbrev pub conditions_in_core : Option (Text × List Row) → Bool
conditions_in_core None = false
conditions_in_core (Some command) = passes_in_core command.1

abbrev pub no_count : Option Text → Option Text
no_count None = None
no_count (Some word) = if is_some (count_of word) then None else Some word

-- a word that is no number up to the largest, where they say so how many edits can be taken back
abbrev pub unfit_count : Option (Text × List Row) → Option Text
unfit_count None = None
unfit_count (Some command) = no_count (first_of (codes "undo") command.1)

-- what is no file, so no document can be put in its place
abbrev pub streams : List Text
streams = codes "-" ∷ codes "/dev/stdout" ∷ codes "/dev/stderr" ∷ []

abbrev pub stream_in : Option Text → Option Text
stream_in None = None
stream_in (Some name) = if list_any (bytes_eq name) streams then Some name else None

-- such a stream, where a command's arguments name one for the edited document
abbrev pub named_stream : Option (Text × List Row) → Option Text
named_stream None = None
named_stream (Some command) = stream_in (first_of (codes "output") command.1)

abbrev pub is_input : Text → Bool
is_input name = bytes_eq name (codes "-")

-- whether standard input is named for the document and for the script
abbrev pub reads_input_twice : Option (Text × List Row) → Bool
reads_input_twice None = false
reads_input_twice (Some command) =
    is_input (value_of (codes "DATA") command.1) && is_input (value_of (codes "SCRIPT") command.1)

-- whether standard input, which has the requests of a session, is named for its document
abbrev pub reads_requests_twice : Option (Text × List Row) → Bool
reads_requests_twice None = false
reads_requests_twice (Some command) = bytes_eq command.0 (codes "session") && is_input (value_of (codes "DATA") command.1)

-- they are refused as clap refuses a value that isn't among those that it knows, and arguments that don't go together
abbrev pub refused_value : Option Text → Kinds
refused_value None = []
refused_value (Some name) = InvalidValue ∷ []

-- and as it refuses one that is no number
abbrev pub refused_number : Option Text → Kinds
refused_number None = []
refused_number (Some word) = ValueValidation ∷ []

abbrev pub refused_pair : Bool → Kinds
refused_pair is_pair = if is_pair then ArgumentConflict ∷ [] else []

-- of the profile and the features that are named
abbrev pub feature_fault : Option (Text × List Row) → Kinds
feature_fault command = or_else (refused_value (unknown_profile command))
    (or_else (refused_value (unfit_features command)) (refused_pair (features_in_core command)))

-- of the conditions that are named
abbrev pub condition_fault : Option (Text × List Row) → Kinds
condition_fault command = or_else (refused_value (unfit_conditions command)) (refused_pair (conditions_in_core command))

-- of the language that is named by these
abbrev pub language_fault : Option (Text × List Row) → Kinds
language_fault command = or_else (feature_fault command) (condition_fault command)

-- of the files
abbrev pub file_fault : Option (Text × List Row) → Kinds
file_fault command = or_else (refused_value (named_stream command))
    (or_else (refused_pair (reads_input_twice command)) (refused_pair (reads_requests_twice command)))

abbrev pub misuse_fault : Option (Text × List Row) → Kinds
misuse_fault command = or_else (refused_value (unknown_format command)) (or_else (refused_number (unfit_count command))
    (or_else (language_fault command) (file_fault command)))

-- why words are refused as they stand, or answered with a text in their place: empty where they are taken
abbrev pub faults_of : List Text → Kinds
faults_of words = or_else (fault_of yanglive words) (misuse_fault (subcommand_of yanglive words))

-- the same of what words mean
abbrev pub refusals : List Text → Kinds
refusals words = if helps_nothing words then InvalidSubcommand ∷ [] else faults_of (meant words)

-- ---- what they ask for

-- how a document is taken, and what is made of it
abbrev pub options_of : List Row → spec.Options
options_of rows = record {
  is_strict = is_given (codes "strict") rows;
  of_configuration = is_given (codes "config") rows;
  as_json = bytes_eq (format_of rows) (codes "json");
  is_dump = is_given (codes "dump") rows;
  saved_as = first_of (codes "output") rows;
}

-- what the arguments of a command ask for
abbrev pub explanation_of : List Row → spec.Request
explanation_of rows = explain (unwrap_or (all_of (codes "CODE") rows) [])

abbrev pub compilation_of : List Row → spec.Request
compilation_of rows = compile (language_of rows) (modules_of rows)

-- a word alone is the file of the module to draw
abbrev pub drawing_by : Bool → Language → Text → List Text → spec.Request
drawing_by true language name modules = draw_all language (name ∷ modules)
drawing_by false language name [] = draw_all language (name ∷ [])
drawing_by false language name (first ∷ others) = draw language name (first ∷ others)

abbrev pub drawing_of : List Row → spec.Request
drawing_of rows = drawing_by (is_given (codes "all") rows) (language_of rows) (value_of (codes "NAME") rows) (modules_of rows)

abbrev pub validation_of : List Row → spec.Request
validation_of rows = validate (language_of rows) (options_of rows) (value_of (codes "DATA") rows) (modules_of rows)

abbrev pub edition_of : List Row → spec.Request
edition_of rows = edit (language_of rows) (options_of rows) (value_of (codes "DATA") rows)
    (value_of (codes "SCRIPT") rows) (modules_of rows)

-- what a session is over
abbrev pub opening_of : List Row → Opening
opening_of rows = record {
  language = language_of rows;
  is_strict = is_given (codes "strict") rows;
  remembers = remembers_of rows;
  tells_changes = is_given (codes "changes") rows;
  of_configuration = is_given (codes "config") rows;
  document = value_of (codes "DATA") rows;
  modules = modules_of rows;
}

-- what the command of a name asks for that tells something once
abbrev pub reported_of : Text → List Row → spec.Request
reported_of name rows = if bytes_eq name (codes "explain") then explanation_of rows
    else (if bytes_eq name (codes "compile") then compilation_of rows
    else (if bytes_eq name (codes "tree") then drawing_of rows
    else (if bytes_eq name (codes "validate") then validation_of rows else edition_of rows)))

-- what the command of a name asks for
abbrev pub asked_of : Text → List Row → Asked
asked_of name rows = if bytes_eq name (codes "session") then session (opening_of rows)
    else report (is_by_lines rows) (reported_of name rows)

-- what a subcommand and its arguments ask for; taken words name one
abbrev pub asked_by : Option (Text × List Row) → Asked
asked_by None = report false (compile core [])
asked_by (Some command) = asked_of command.0 command.1

-- what taken words ask for
abbrev pub asked_in : List Text → Asked
asked_in words = asked_by (subcommand_of yanglive (meant words))

-- whether a command's arguments ask for the reasons of what is told
abbrev pub explained_by : Option (Text × List Row) → Bool
explained_by None = false
explained_by (Some command) = is_given (codes "explain") command.1

abbrev pub asks_reasons : List Text → Bool
asks_reasons words = explained_by (subcommand_of yanglive (meant words))

abbrev pub folders_by : Option (Text × List Row) → List Text
folders_by None = []
folders_by (Some command) = folders_of command.1

abbrev pub folders_in : List Text → List Text
folders_in words = folders_by (subcommand_of yanglive (meant words))

-- ---- the code's values as these

abbrev pub options_view : Options → spec.Options
options_view o = record {
  is_strict = o.is_strict;
  of_configuration = o.of_configuration;
  as_json = o.as_json;
  is_dump = o.is_dump;
  saved_as = option_map (λ name. name.now) o.saved_as;
}

abbrev pub view : Request → spec.Request
view (requests.Explain names) = explain (map (λ name. name.now) names.items)
view (requests.Compile language modules) = compile (language_view language) (map (λ name. name.now) modules.items)
view (requests.Tree language name modules) = draw (language_view language) name.now (map (λ name. name.now) modules.items)
view (requests.Trees language modules) = draw_all (language_view language) (map (λ name. name.now) modules.items)
view (requests.Validate language options document modules) =
    validate (language_view language) (options_view options) document.now (map (λ name. name.now) modules.items)
view (requests.Edit language options document script modules) =
    edit (language_view language) (options_view options) document.now script.now (map (λ name. name.now) modules.items)

abbrev pub opening_view : given.Opening → Opening
opening_view o = record {
  language = language_view o.language;
  is_strict = o.is_strict;
  remembers = o.remembers;
  tells_changes = o.tells_changes;
  of_configuration = o.of_configuration;
  document = o.document.now;
  modules = map (λ name. name.now) o.modules.items;
}

abbrev pub asked_view : rust.Asked → Asked
asked_view (asks.Report request by_lines) = report by_lines (view request)
asked_view (asks.Session opening) = session (opening_view opening)

-- ---- what comes in place of a request

-- help, or the version
abbrev pub is_help : ErrorKind → Bool
is_help DisplayHelp = true
is_help DisplayVersion = true
is_help _ = false

-- whether words that aren't taken ask for one of these: clap's first cause says it
abbrev pub asks_help : Kinds → Bool
asks_help [] = false
asks_help (kind ∷ others) = is_help kind

-- what an error of clap's comes to
abbrev pub Explains : ErrorKind → NoRequest → Type 0
Explains kind (none.Help text) = is_help kind ≡ true
Explains kind (none.Refused text) = (is_help kind ≡ false) × (kind ≡ OutOfMemory → ⊥)
Explains kind none.Memory = Unit {0}

-- help where it is asked for, a refusal for any other cause, or there is no memory
abbrev pub Declines : Kinds → NoRequest → Type 0
Declines kinds (none.Help text) = asks_help kinds ≡ true
Declines kinds (none.Refused text) = (kinds ≡ [] → ⊥) × (asks_help kinds ≡ false)
Declines kinds none.Memory = Unit {0}

-- words are taken exactly where nothing is wrong with them, and then their request is the definition's
abbrev pub Answers : Kinds → List Text → Result CommandLine NoRequest → Type 0
Answers kinds words (Ok line) = (kinds ≡ [])
    × (asked_view line.asked ≡ asked_by (subcommand_of yanglive words))
    × (line.with_reasons ≡ explained_by (subcommand_of yanglive words))
    × (map (λ folder. folder.now) line.folders.items ≡ folders_by (subcommand_of yanglive words))
Answers kinds words (Err answer) = Declines kinds answer

-- words as they stand
abbrev pub Takes : List Text → Result CommandLine NoRequest → Type 0
Takes words result = Answers (faults_of words) words result

-- what words come to that are refused though clap takes them
abbrev pub IsRefusal : NoRequest → Type 0
IsRefusal (none.Help text) = ⊥
IsRefusal (none.Refused text) = Unit {0}
IsRefusal none.Memory = Unit {0}

-- of what clap takes, what is misused is refused
abbrev pub TakesFit : Option (Text × List Row) → Result CommandLine NoRequest → Type 0
TakesFit command (Ok line) = (misuse_fault command ≡ []) × (asked_view line.asked ≡ asked_by command)
    × (line.with_reasons ≡ explained_by command) × (map (λ folder. folder.now) line.folders.items ≡ folders_by command)
TakesFit command (Err (none.Help text)) = ⊥
TakesFit command (Err (none.Refused text)) = misuse_fault command ≡ [] → ⊥
TakesFit command (Err none.Memory) = Unit {0}

-- a refusal of what is misused, of these causes; none where there is no cause
abbrev pub Refuses : Kinds → Option NoRequest → Type 0
Refuses kinds None = kinds ≡ []
Refuses kinds (Some (none.Help text)) = ⊥
Refuses kinds (Some (none.Refused text)) = kinds ≡ [] → ⊥
Refuses kinds (Some none.Memory) = Unit {0}

-- words by what they mean
abbrev pub Understands : List Text → Result CommandLine NoRequest → Type 0
Understands words result = Answers (refusals words) (meant words) result
