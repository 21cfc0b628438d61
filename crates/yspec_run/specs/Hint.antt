-- What is said below a line that tells a code, above the reason of the code: what stands there, and what may have been
-- meant.
use Rattle.std.specs.Prelude.{ℕ, zero, suc, ◌==◌, ◌++◌, ◌&&◌, ◌||◌, Bool, false, not, List, [], ◌∷◌, Option, Result, Ok, Err, codes, if◌then◌else◌, nat_le, slice_get, unwrap_or}
use Rattle.std.specs.Option.{option_map_or}
use Rattle.yspec.specs.Forest.{Forest, end, node}
use Rattle.yspec.specs.text.Text.{Text, open_brace, space}
use Rattle.yspec.specs.text.Statement.{Statement}
use Rattle.yspec.specs.schema.Breaks.{Break}
use Rattle.yspec.specs.schema.Schema.{Schema}
use Rattle.yspec.specs.document.Document.{Step, Tree}
use Rattle.yspec.specs.document.Reading.{Refusal}
use Rattle.yspec_wide.specs.Language.{Language, core, rfc, rfc_with}
use Rattle.yspec_wide.specs.Compiling.{compiled_in}
use Rattle.ysay_text.specs.Line.{shown, shown_line}
use Rattle.ysay_text.specs.Sentence.{of_line}
use Rattle.ysay_slips.specs.Said as slips
use Rattle.ysay_pattern.specs.Said as patterns
use Rattle.ysay_forms.specs.Said as forms
use Rattle.ysay_names.specs.Keys as keys
use Rattle.ysay_names.specs.Names as names
use Rattle.ysay_names.specs.Prefixes as prefixes
use Rattle.ysay_types.specs.Defaults as defaults
use Rattle.ysay_types.specs.Restrictions as restrictions
use Rattle.ysay_targets.specs.Leafrefs as leafrefs
use Rattle.ysay_targets.specs.Targets as targets
use Rattle.ysay_sets.specs.Taken as taken
use Rattle.ysay_sets.specs.Imports as imports
use Rattle.ysay_nodes.specs.Twice as twice
use Rattle.ysay_nodes.specs.Needed as needed
use Rattle.ysay_nodes.specs.Config as config
use Rattle.ysay_circles.specs.References as references
use Rattle.ysay_circles.specs.Conditions as conditions
use Rattle.ysay_circles.specs.Places as places
use Rattle.yspec.specs.edit.EditText.{Edit}
use Rattle.ysay_edit.specs.Part.{said_of_edit}
use Rattle.ysay_refusal.specs.Sentence.{said_of_refusal}
use Rattle.ysay_refusals.specs.Lines.{said_of_others}
use Rattle.ysay_edit.specs.Spelling.{said_of_line}
use Rattle.ysay_repeated.specs.Said.{said_of_repeated}
use Rattle.yspec_run.specs.Part.{Part}

abbrev pub hinted : Text → Part → Part
hinted hint p = record p { reason = hint ++ p.reason }

-- a text as a line, behind its front; nothing of an empty one
abbrev pub as_line : Text → Text → Text
as_line front [] = []
as_line front (x ∷ text) = front ++ ((x ∷ text) ++ codes "\n")

-- the line of a text that is told, behind a bar
abbrev pub line_hint : ℕ → List ℕ → Text
line_hint line bytes = as_line (codes "  | ") (shown_line line bytes)

-- a text that begins as a JSON object does, behind white space
abbrev pub begins_object : List ℕ → Bool
begins_object [] = false
begins_object (x ∷ bytes) = if nat_le x space then begins_object bytes else x == open_brace

abbrev pub object_hint : Bool → Text
object_hint is_object = if is_object then codes "  this begins as JSON, not as a module; a document stands before the modules.\n" else []

-- of a text that is refused with this number in a line: that line, what can't be there, and whether it is a document's
abbrev pub slip_hint : ℕ → ℕ → List ℕ → Text
slip_hint code line bytes = line_hint line bytes
    ++ (as_line (codes "  ") (slips.of_slip code bytes) ++ object_hint (begins_object bytes))

-- what is said of the statements of a line of a module of a set, by the code that is told of it
abbrev pub statement_said : ℕ → ℕ → Forest Statement → Forest Statement → Text
statement_said code line modules top = if code == 1 then of_line line top
    else (if code == 2 then forms.of_line forms.amounts line top
    else (if code == 3 then forms.of_line forms.an_argument line top
    else (if code == 5 then imports.of_line line modules top
    else (if code == 6 then prefixes.of_line line top
    else (if code == 7 then taken.of_line line modules top
    else (if code == 8 then names.of_line line modules top
    else (if code == 9 then references.of_line line modules top
    else (if code == 10 then restrictions.of_line line modules top
    else (if code == 11 then defaults.of_line line modules top
    else (if code == 12 then keys.of_line line top
    else (if code == 13 then twice.of_line line top
    else (if code == 14 then targets.of_line line modules top
    else (if code == 15 then needed.of_line line top
    else (if code == 16 then config.of_line line top
    else (if code == 17 then leafrefs.of_line line modules top
    else (if code == 20 then patterns.of_line line top
    else (if code == 22 then conditions.of_line line modules top
    else (if code == 24 then places.of_line line top else []))))))))))))))))))

abbrev pub statement_hint : ℕ → ℕ → Forest Statement → Forest Statement → Text
statement_hint code line modules top = as_line (codes "  ") (statement_said code line modules top)

-- the statement of a module, by its number, among those of several
abbrev pub module_at : ℕ → Forest Statement → Forest Statement
module_at number end = end
module_at zero (node s below after) = node s below end
module_at (suc number) (node s below after) = module_at number after

-- of a rule that a module breaks, by the contents of the files and the statements of all
abbrev pub break_hint : List (List ℕ) → Forest Statement → Break → Text
break_hint contents modules b = line_hint b.line (unwrap_or (slice_get contents b.module_number) [])
    ++ statement_hint b.code b.line modules (module_at b.module_number modules)

-- ---- what another language makes of modules

-- rules that rest on the language: which statements there are, where they stand and how often, and what types say
abbrev pub is_of_language : ℕ → Bool
is_of_language code = code == 1 || (code == 3 || (code == 4 || code == 10))

-- the same rule, in the same line of the same module
abbrev pub same_break : Break → Break → Bool
same_break a b = a.code == b.code && (a.module_number == b.module_number && a.line == b.line)

abbrev pub is_told : Break → Result Schema Break → Bool
is_told b (Err other) = same_break b other
is_told b (Ok schema) = false

-- whether the wide language, all features on, doesn't tell what the core tells of modules
abbrev pub is_read_in_rfc : Language → Forest Statement → Break → Bool
is_read_in_rfc core modules b = is_of_language b.code && not (is_told b (compiled_in (rfc_with []) modules))
is_read_in_rfc (rfc wide) modules b = false

abbrev pub language_hint : Bool → Text
language_hint is_read = if is_read then codes "  with --profile rfc this is read.\n" else []

-- of a document that is refused, by its bytes, and of all else in it for which it is
abbrev pub refusal_hint : Schema → List ℕ → Refusal → Text
refusal_hint schema bytes r = as_line (codes "  ") (said_of_refusal schema bytes r) ++ said_of_others schema bytes r

-- of a document with a member that is given twice, by the place of its node
abbrev pub repeated_hint : Schema → List Step → Text
repeated_hint schema place = as_line (codes "  ") (said_of_repeated schema place)

-- of an edit that is refused with this number, and what is stored now
abbrev pub edit_hint : Schema → Tree → Edit → ℕ → Text
edit_hint schema now e code = as_line (codes "  ") (said_of_edit schema now e code)

-- of a line that is refused with this number before it is tried: where it spells no edit
abbrev pub spelling_hint : Text → ℕ → Text
spelling_hint line code = if code == 1 then as_line (codes "  ") (said_of_line line) else []

-- of a line of a script that is refused with this number: itself, behind a bar, and what is said of the edit that it asks for,
-- if it asks for one, by what is stored now
abbrev pub script_hint : Schema → Tree → Text → Option Edit → ℕ → Text
script_hint schema now line asked code = as_line (codes "  | ") (shown line)
    ++ option_map_or (λ e. edit_hint schema now e code) asked (spelling_hint line code)
