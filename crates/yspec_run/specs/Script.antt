-- Scripts of edits, one a line, and what they do to a document.
use Rattle.std.specs.Prelude.{ℕ, ◌+◌, ◌==◌, ◌&&◌, ◌++◌, Bool, false, List, [], ◌∷◌, codes, decimal, Option, Some, None, option_map, Result, Ok, Err, if◌then◌else◌}
use Rattle.std.specs.List.{slice_split}
use Rattle.std.specs.Option.{option_map_or}
use Rattle.std.specs.Str.{is_utf8}
use Rattle.yspec.specs.Results.{◌>>=◌}
use Rattle.yspec.specs.text.Text.{Text, line_feed, carriage_return}
use Rattle.yspec.specs.schema.Schema.{Schema}
use Rattle.yspec.specs.document.Document.{Tree}
use Rattle.yspec.specs.edit.EditText.{Edit, create, replace, remove, move_to, is_passed_over}
use Rattle.yspec.specs.edit.Editing.{EditRefusal, applied, edit_asked, refused, tree_or, value_refused}
use Rattle.ysay_repeated.specs.Repeated.{has_repeated}
use Rattle.ysay_json.specs.RefusalData.{Refused}
use Rattle.yspec_run.specs.Hint.{hinted, script_hint}
use Rattle.yspec_run.specs.Part.{Part, in_script, line_about, placed}
use Rattle.yspec_run.specs.RefusalData.{cause_of, edit_tag, object_line}

-- ---- lines

-- one carriage return at the end goes away
abbrev pub without_return : Text → Text
without_return [] = []
without_return (x ∷ []) = if x == carriage_return then [] else x ∷ []
without_return (x ∷ y ∷ line) = x ∷ without_return (y ∷ line)

-- a carriage return goes with the line feed behind it; behind the last line no line feed stands
abbrev pub without_returns : List Text → List Text
without_returns [] = []
without_returns (last ∷ []) = last ∷ []
without_returns (line ∷ next ∷ lines) = without_return line ∷ without_returns (next ∷ lines)

-- what stands between line feeds; what follows the last one is a line too
abbrev pub lines_of : List ℕ → List Text
lines_of bytes = without_returns (slice_split (λ x. x == line_feed) bytes)

-- ---- what comes of them

-- what a line spells, if it asks for anything; bytes that are no text are no edit's (E1)
abbrev pub spelled_in : Text → Result (Option Edit) EditRefusal
spelled_in line = if is_passed_over line then Ok None else (if is_utf8 line then edit_asked line else refused 1)

-- whether the value of an edit has a member twice in one object
abbrev pub gives_twice : Edit → Bool
gives_twice (create path value) = has_repeated value
gives_twice (replace path value) = has_repeated value
gives_twice (remove path) = false
gives_twice (move_to path position) = false

-- what is asked for, where such a value doesn't fit (E10 with J8)
abbrev pub unless_twice : Bool → Option Edit → Result (Option Edit) EditRefusal
unless_twice is_strict asked = if is_strict && option_map_or gives_twice asked false then value_refused 8 else Ok asked

abbrev pub asked_in : Bool → Text → Result (Option Edit) EditRefusal
asked_in is_strict line = spelled_in line >>= unless_twice is_strict

-- the document after a line, or why that is refused
abbrev pub line_applied : Bool → Schema → Tree → Text → Result Tree EditRefusal
line_applied is_strict schema tree line =
    asked_in is_strict line >>= (λ asked. option_map_or (applied schema tree) asked (Ok tree))

-- the document after the lines of a script; a refused one changes nothing
abbrev pub after_lines : Bool → Schema → Tree → List Text → Tree
after_lines is_strict schema tree [] = tree
after_lines is_strict schema tree (line ∷ lines) =
    after_lines is_strict schema (tree_or (line_applied is_strict schema tree line) tree) lines

-- ---- what is printed of refused ones

abbrev pub document_code_text : Option ℕ → List ℕ
document_code_text None = []
document_code_text (Some code) = codes " J" ++ decimal code

abbrev pub code_text : EditRefusal → List ℕ
code_text e = codes "E" ++ (decimal e.code ++ document_code_text e.document_code)

-- the code that says most: the document's where the value doesn't fit
abbrev pub telling_code : EditRefusal → Text
telling_code e = option_map_or (λ code. codes "J" ++ decimal code) e.document_code (codes "E" ++ decimal e.code)

-- a refused line as an object
abbrev pub line_object : ℕ → EditRefusal → Refused
line_object number e = record {
  code = Some (codes "E" ++ decimal e.code);
  value_code = option_map (λ code. codes "J" ++ decimal code) e.document_code;
  tag = edit_tag e.code;
  message = cause_of (telling_code e);
  file = None;
  line = Some number;
  path = None;
}

-- `line K: CODE`, of a refused line
abbrev pub refused_line : ℕ → EditRefusal → Part
refused_line number e = placed (in_script number) (code_text e)
    (record (line_about (telling_code e) (codes "line " ++ (decimal number ++ (codes ": " ++ code_text e)))) { object = object_line (line_object number e) })

-- the edit that a line asks for, if it asks for one
abbrev pub edit_in : Result (Option Edit) EditRefusal → Option Edit
edit_in (Ok asked) = asked
edit_in (Err e) = None

-- of a refused line it is said besides how it reads, and what may have been meant, by what is stored now
abbrev pub refused_hint : Schema → Tree → Text → Option Edit → EditRefusal → Text
refused_hint schema now line asked e = script_hint schema now line asked e.code

-- where a line is refused, with what is said of it besides
abbrev pub line_parts : (EditRefusal → Text) → ℕ → Result Tree EditRefusal → List Part
line_parts hint number (Ok tree) = []
line_parts hint number (Err e) = hinted (hint e) (refused_line number e) ∷ []

-- those of all refused lines, of which the first has a number, with what is said of them by what is stored now
abbrev pub refused_from : Bool → Schema → Tree → ℕ → Tree → List Text → List Part
refused_from is_strict schema now number tree [] = []
refused_from is_strict schema now number tree (line ∷ lines) = let answer = line_applied is_strict schema tree line in
    line_parts (refused_hint schema now line (edit_in (asked_in is_strict line))) number answer
    ++ refused_from is_strict schema now (number + 1) (tree_or answer tree) lines

-- the same, where now is behind the last of them
abbrev pub refused_lines : Bool → Schema → ℕ → Tree → List Text → List Part
refused_lines is_strict schema number tree lines =
    refused_from is_strict schema (after_lines is_strict schema tree lines) number tree lines
