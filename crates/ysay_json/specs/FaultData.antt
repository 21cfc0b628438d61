-- Faults as objects of JSON, with the names of errors in RESTCONF (RFC 8040, 7.1) and those of this program.
use Rattle.std.specs.Prelude.{ℕ, ◌++◌, List, length, codes, decimal, Option, Some, None, unwrap_or}
use Rattle.std.specs.List.{flat_map}
use Rattle.serde_json.specs.Data.{Data, string, number, unsigned, object, Members, no_members, put}
use Rattle.serde_json.specs.Written.{compact_text}
use Rattle.yspec.specs.text.Text.{Text}
use Rattle.yspec.specs.schema.Schema.{Schema}
use Rattle.yspec.specs.document.Document.{Tree}
use Rattle.yspec.specs.document.Fault.{Fault, Info, no_info, choice_name, unique_number}
use Rattle.yspec.specs.document.FaultCode.{FaultCode, fault_number}
use Rattle.yspec.specs.document.Path.{path_text}
use Rattle.ysay_fault.specs.Sentences.{fault_path, own_message, sentence}

abbrev pub code_text : FaultCode → Text
code_text code = codes "V" ++ decimal (fault_number code)

-- ---- members

abbrev pub with_text : Text → Text → Members → Members
with_text name t members = put name (string t) members

abbrev pub with_app_tag : Option Text → Members → Members
with_app_tag None members = members
with_app_tag (Some tag) members = with_text (codes "error-app-tag") tag members

-- the name of a choice, or the number of a `unique`
abbrev pub with_info : Info → Members → Members
with_info no_info members = members
with_info (choice_name name) members = with_text (codes "yanglive:info") name members
with_info (unique_number n) members = put (codes "yanglive:info") (number (unsigned n)) members

-- its error-type and tags
abbrev pub with_tags : Fault → Members → Members
with_tags f members = with_app_tag f.app_tag
    (with_text (codes "error-tag") f.tag (with_text (codes "error-type") (codes "application") members))

-- its module's own message where it has one (RFC 7950, 7.5.4.1), else what is said of it
abbrev pub message : Schema → Tree → Fault → Text
message schema tree f =
    unwrap_or (own_message schema tree f.steps f.code) (sentence schema tree f.steps f.info f.code)

-- the path of its place, and its message
abbrev pub with_message : Schema → Tree → Fault → Members → Members
with_message schema tree f members =
    with_text (codes "error-message") (message schema tree f)
    (with_text (codes "error-path") (fault_path schema tree f.code f.steps) members)

-- what its line of text has
abbrev pub with_line : Schema → Fault → Members → Members
with_line schema f members = with_info f.info
    (with_text (codes "yanglive:path") (path_text schema f.steps) (with_text (codes "yanglive:code") (code_text f.code) members))

-- ---- lines, without their line feeds

abbrev pub fault_data : Schema → Tree → Fault → Data
fault_data schema tree f =
    object (with_line schema f (with_message schema tree f (with_tags f no_members)))

abbrev pub json_line : Schema → Tree → Fault → Text
json_line schema tree f = compact_text (fault_data schema tree f)

abbrev pub count_data : ℕ → Data
count_data n = object (put (codes "yanglive:faults") (number (unsigned n)) no_members)

-- the last line says how many there are
abbrev pub json_count : ℕ → Text
json_count n = compact_text (count_data n)

-- a line for each fault of a document
abbrev pub json_lines : Schema → Tree → List Fault → Text
json_lines schema tree faults = flat_map (λ f. json_line schema tree f ++ codes "\n") faults

-- and then the last line, without its line feed
abbrev pub json_text : Schema → Tree → List Fault → Text
json_text schema tree faults = json_lines schema tree faults ++ json_count (length faults)
