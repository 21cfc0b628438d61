-- What a request to save a document is answered, and what is kept for it.
use Rattle.std.specs.Prelude.{◌≡◌, ◌⊎◌, ◌&&◌, ◌++◌, not, Bool, true, false, List, [], ◌∷◌, codes, map, Option, Some, None, option_and_then, if◌then◌else◌}
use Rattle.serde_json.specs.Data.{string}
use Rattle.serde_json.specs.Written.{compact_text}
use Rattle.yspec.specs.text.Text.{Text, is_text, space}
use Rattle.yspec.specs.edit.EditText.{cut_at}
use Rattle.yspec.specs.edit.Live.{Live}
use Rattle.yspec_session.specs.Session.{Request, save}
use Rattle.yspec_run.specs.Output.{dump}
use Rattle.ybase_talk.specs.Talk.{Keeping, Party, followed_by, keeping, kept, none_kept}
use Rattle.ysay_session.specs.AnswerText.{short_text}

-- the file that a request to save names
abbrev pub file_asked : Option Request → Option Text
file_asked (Some (save file)) = Some file
file_asked _ = None

abbrev pub named_by : Text × Text → Option Text
named_by (verb, []) = None
named_by (verb, c ∷ cs) = if is_text verb (codes "save") then Some (c ∷ cs) else None

-- what stands behind `save `
abbrev pub file_in : Text → Option Text
file_in t = option_and_then named_by (cut_at space None t)

-- the document, as `--output` writes it
abbrev pub file_text : Live → Text
file_text live = dump live.schema live.tree

-- ---- answers

abbrev pub saved_text : Text → Text
saved_text file = codes "{\"saved\":" ++ (compact_text (string file) ++ codes "}")

-- by why it wasn't written
abbrev pub cause_text : Text → Text → Text
cause_text file cause = codes "Cannot write " ++ (file ++ (codes ": " ++ (cause ++ codes ".")))

abbrev pub unsaved_text : Text → Text → Text
unsaved_text file cause = codes "{\"refused\":\"save\",\"message\":" ++ (compact_text (string (cause_text file cause)) ++ codes "}")

-- The document was kept as the file, or it wasn't, and both are said as they are.
abbrev pub IsSaved : Live → Text → Text → List Keeping → Type 0
IsSaved live file answer ks = ((ks ≡ keeping file (file_text live) None ∷ []) × (answer ≡ saved_text file))
    ⊎ ((cause : Text) × (ks ≡ keeping file (file_text live) (Some cause) ∷ []) × (answer ≡ unsaved_text file cause))

-- or memory ran out, and it wasn't kept
abbrev pub IsSavedOrShort : Live → Text → Text → List Keeping → Type 0
IsSavedOrShort live file answer ks = IsSaved live file answer ks ⊎ ((none_kept ks ≡ true) × (answer ≡ short_text))

-- the caller was asked for nothing but to keep these
abbrev pub AreKept : (List Keeping → Type 0) → Party → Party → Type 0
AreKept kept_so so_far now = (ks : List Keeping) × kept_so ks × (now ≡ followed_by so_far (map kept ks))
