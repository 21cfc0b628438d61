-- The lines of a session.
use Rattle.std.specs.Prelude.{ℕ, ◌-◌, List, [], ◌∷◌, codes, Option, Some, None, option_map, option_and_then, Result, Ok, Err, if◌then◌else◌}
use Rattle.std.specs.Str.{is_utf8}
use Rattle.yspec.specs.text.Text.{Text, is_text, space}
use Rattle.yspec.specs.schema.Schema.{Schema}
use Rattle.yspec.specs.edit.EditText.{Path, Edit, cut_at, operands, position_alone}
use Rattle.yspec.specs.edit.Editing.{EditRefusal, edit_asked, path_spelled}
use Rattle.yspec_session.specs.Session.{Session, Request, Answer, change, faults, below, value, undo, document, save, begin, commit, back, not_understood, answered}

-- of one word
abbrev pub bare_request : Text → Option Request
bare_request t = if is_text t (codes "undo") then Some undo
    else (if is_text t (codes "document") then Some document
    else (if is_text t (codes "begin") then Some begin
    else (if is_text t (codes "commit") then Some commit
    else (if is_text t (codes "back") then Some back
    else (if is_text t (codes "faults") then Some (faults 0 None) else None)))))

-- from a fault on, counted from 1, and perhaps how many
abbrev pub page_asked : Text × Text → Option Request
page_asked (first, []) = option_map (λ n. faults (n - 1) None) (position_alone first)
page_asked (first, x ∷ xs) =
    option_and_then (λ n. option_map (λ count. faults (n - 1) (Some count)) (position_alone (x ∷ xs))) (position_alone first)

abbrev pub path_in : Result Path EditRefusal → Option Path
path_in (Ok path) = Some path
path_in (Err e) = None

abbrev pub path_alone : Text × Text → Option Path
path_alone (t, []) = path_in (path_spelled t)
path_alone (t, x ∷ xs) = None

-- a name may have spaces
abbrev pub file_named : Text → Option Request
file_named [] = None
file_named (x ∷ xs) = Some (save (x ∷ xs))

abbrev pub edit_in : Result (Option Edit) EditRefusal → Option Edit
edit_in (Ok asked) = asked
edit_in (Err e) = None

-- of several words; edits are spelled as in scripts
abbrev pub request_with : Text → Text × Text → Option Request
request_with t (verb, rest) = if is_text verb (codes "faults") then page_asked (operands rest)
    else (if is_text verb (codes "below") then option_map below (path_alone (operands rest))
    else (if is_text verb (codes "value") then option_map value (path_alone (operands rest))
    else (if is_text verb (codes "save") then file_named rest else option_map change (edit_in (edit_asked t)))))

abbrev pub or_else : {A : Type 0} → Option A → Option A → Option A
or_else None other = other
or_else (Some x) other = Some x

abbrev pub request_in : Text → Option Request
request_in t = or_else (bare_request t) (option_and_then (request_with t) (cut_at space None t))

-- bytes that are no text ask for nothing
abbrev pub request_of : Text → Option Request
request_of t = if is_utf8 t then request_in t else None

-- ---- a session's lines

abbrev pub answer_and_rest : Option Schema → Schema → ℕ → (Session → List Answer) → Session → Option Request → List Answer
answer_and_rest configured schema limit rest s None = not_understood ∷ rest s
answer_and_rest configured schema limit rest s (Some r) = let a = answered configured schema limit s r in a.0 ∷ rest a.1

-- one answer to each line; with `end` nothing more is read
abbrev pub replies : Option Schema → Schema → ℕ → Session → List Text → List Answer
replies configured schema limit s [] = []
replies configured schema limit s (t ∷ lines) = if is_text t (codes "end") then []
    else answer_and_rest configured schema limit (λ s. replies configured schema limit s lines) s (request_of t)
