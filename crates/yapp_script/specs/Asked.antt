-- What the lines of a script ask for, apart from the edits among them, and what is told of them.
use Rattle.std.specs.Prelude.{◌≡◌, ℕ, ◌+◌, ◌++◌, Bool, true, false, List, [], ◌∷◌, map, string_bytes, Option, Some, None, is_some, option_map, Result, Ok, Err, if◌then◌else◌}
use Rattle.std.specs.List.{flat_map}
use Rattle.yspec.specs.text.Text.{Text}
use Rattle.yspec.specs.schema.Schema.{Schema}
use Rattle.yspec.specs.document.Document.{Tree}
use Rattle.yspec.specs.edit.EditText.{Edit}
use Rattle.yspec.specs.edit.Editing.{Decision, EditRefusal}
use Rattle.yspec_run.specs.Hint.{hinted}
use Rattle.yspec_run.specs.Part.{Part}
use Rattle.yspec_run.specs.Script.{asked_in, line_parts, refused_hint, refused_line}
use Rattle.yinst_path.specs.Applying.{edit_number}
use Rattle.yinst_tree.specs.Told.{code_number}
use Rattle.ylive.specs.View.{edits_view}
use Rattle.yapp_script.specs.declared.script.Asked.{Asked}
use Rattle.yapp_script.specs.declared.script.Asked.TheVariants as asked
use Rattle.yapp_script.specs.declared.script.Refusal.{Refusal}
use Rattle.yapp_script.specs.declared.script.RefusedLine.{RefusedLine}
use Rattle.yapp_script.specs.declared.script.ValueCode.{ValueCode}
use Rattle.yapp_script.specs.declared.script.ValueCode.TheVariants as values
use Rattle.yapp_script.specs.declared.script.Script.{Script}

-- a line is passed over, is an edit's, or is refused
pub data Line : Type 0 where
  passed_over : Line
  an_edit : Text → Line
  no_edit : Text → EditRefusal → Line

-- why the value of an edit doesn't fit
abbrev pub value_number : ValueCode → ℕ
value_number (values.Document code) = code_number code
value_number values.Repeated = 8

abbrev pub refusal_of : Refusal → EditRefusal
refusal_of r = record { code = edit_number r.code; document_code = option_map value_number r.value }

abbrev pub line_view : Asked → Line
line_view asked.Nothing = passed_over
line_view (asked.Edit text) = an_edit text.now
line_view (asked.Refused text refusal) = no_edit text.now (refusal_of refusal)

-- ---- lines

-- a line that asks for this
abbrev pub line_of : Text → Result (Option Edit) EditRefusal → Line
line_of line (Ok None) = passed_over
line_of line (Ok (Some e)) = an_edit line
line_of line (Err e) = no_edit line e

abbrev pub edit_of : Result (Option Edit) EditRefusal → List Edit
edit_of (Ok None) = []
edit_of (Ok (Some e)) = e ∷ []
edit_of (Err e) = []

-- what each line asks for
abbrev pub kinds_of : Bool → List Text → List Line
kinds_of is_strict = map (λ line. line_of line (asked_in is_strict line))

-- the edits among them
abbrev pub edits_of : Bool → List Text → List Edit
edits_of is_strict = flat_map (λ line. edit_of (asked_in is_strict line))

-- a script of lines
pub record IsScript (is_strict : Bool) (kinds : List Line) (edits : List Edit) (lines : List Text) : Type 0 where
  pub kinds_are : kinds ≡ kinds_of is_strict lines
  pub edits_are : edits ≡ edits_of is_strict lines

abbrev pub kinds_in : Script → List Line
kinds_in s = map line_view s.lines.items

abbrev pub edits_in : Script → List Edit
edits_in s = edits_view s.edits.items

-- ---- refused lines

-- why a line is refused, if it is, with what came of the edits from it on
abbrev pub refusal_in : Line → List Decision → Decision
refusal_in passed_over decisions = None
refusal_in (no_edit line e) decisions = Some e
refusal_in (an_edit line) [] = None
refusal_in (an_edit line) (d ∷ decisions) = d

-- what came of the edits behind it
abbrev pub behind : Line → List Decision → List Decision
behind passed_over decisions = decisions
behind (no_edit line e) decisions = decisions
behind (an_edit line) [] = []
behind (an_edit line) (d ∷ decisions) = decisions

-- the edits behind it, of those from it on
abbrev pub edits_behind : Line → List Edit → List Edit
edits_behind passed_over edits = edits
edits_behind (no_edit line e) edits = edits
edits_behind (an_edit line) [] = []
edits_behind (an_edit line) (e ∷ edits) = edits

-- what is said of a line that is refused so, with the edits from it on, by what is stored now
abbrev pub hint_in : Schema → Tree → Line → List Edit → EditRefusal → Text
hint_in schema now passed_over edits refusal = []
hint_in schema now (no_edit line e) edits refusal = refused_hint schema now line None refusal
hint_in schema now (an_edit line) [] refusal = []
hint_in schema now (an_edit line) (e ∷ edits) refusal = refused_hint schema now line (Some e) refusal

abbrev pub decision_parts : (EditRefusal → Text) → ℕ → Decision → List Part
decision_parts hint number None = []
decision_parts hint number (Some e) = line_parts hint number (Err e)

-- those of lines from a number on
abbrev pub told_from : Schema → Tree → ℕ → List Line → List Edit → List Decision → List Part
told_from schema now number [] edits decisions = []
told_from schema now number (line ∷ lines) edits decisions =
    decision_parts (hint_in schema now line edits) number (refusal_in line decisions)
    ++ told_from schema now (number + 1) lines (edits_behind line edits) (behind line decisions)

-- whether any of them is refused
abbrev pub any_refused : List Line → List Decision → Bool
any_refused [] decisions = false
any_refused (line ∷ lines) decisions = if is_some (refusal_in line decisions) then true else any_refused lines (behind line decisions)

abbrev pub refused_part : RefusedLine → Part
refused_part line = hinted (string_bytes line.hint) (refused_line line.number (refusal_of line.refusal))

abbrev pub refused_parts : List RefusedLine → List Part
refused_parts = map refused_part
