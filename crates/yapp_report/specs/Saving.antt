-- Files that are written, and what comes of one that is due.
use Rattle.std.specs.Prelude.{◌≡◌, ◌⊎◌, ℕ, ◌+◌, ◌++◌, Bool, true, false, List, [], ◌∷◌, codes, Option, Some, None, Result, Ok, Err, option_map, string_bytes, if◌then◌else◌}
use Rattle.yspec_run.specs.Output as spec
use Rattle.ybase_output.specs.Writing.{Side}
use Rattle.yapp_words.specs.Running.{End, Ends, ended}
use Rattle.yspec.specs.text.Text.{Text}
use Rattle.yapp_report.specs.declared.saving.SavedFile.{SavedFile}
use Rattle.yapp_report.specs.declared.saving.Ended.{Ended}
use Rattle.yapp_report.specs.declared.saving.Unsaved.{Unsaved}
use Rattle.yapp_report.specs.declared.saving.Unsaved.TheVariants.{PartThere, TargetPartThere, NoFolder, NoPermission, NoRegularFile, Other, Memory}

abbrev pub saved_view : SavedFile → spec.SavedFile
saved_view f = record { name = string_bytes f.name; text = string_bytes f.text }

abbrev pub end_of : Ended → End
end_of e = ended e.status (option_map saved_view e.saved)

-- what keeps files, as it tells of itself: those that were written in it so far, where it tells them, how often that
-- failed, and why it did the last time, if it did
pub record Shelf : Type 0 where
  pub written : Option (List spec.SavedFile)
  pub failures : ℕ
  pub cause : Option Unsaved

abbrev pub shelf : {P : Type 0} → (P → Option (List spec.SavedFile)) → (P → ℕ) → (P → Option Unsaved) → P → Shelf
shelf written failures cause p = record { written = written p; failures = failures p; cause = cause p }

-- why a call failed, if it did
abbrev pub cause_in : {X : Type 0} → Result X Unsaved → Option Unsaved
cause_in (Ok x) = None
cause_in (Err cause) = Some cause

-- a file behind others, where they are told
abbrev pub followed_by : Option (List spec.SavedFile) → spec.SavedFile → Option (List spec.SavedFile)
followed_by files file = option_map (λ fs. fs ++ file ∷ []) files

-- the file was written whole
pub record WasSaved (before after : Shelf) (file : spec.SavedFile) : Type 0 where
  pub written : after.written ≡ followed_by before.written file
  pub failures : after.failures ≡ before.failures
  pub told : after.cause ≡ None

-- it wasn't, and what stood in its place stands there
pub record WasNotSaved (before after : Shelf) (cause : Unsaved) : Type 0 where
  pub written : after.written ≡ before.written
  pub failures : after.failures ≡ before.failures + 1
  pub told : after.cause ≡ Some cause

-- why a file wasn't written, in words, behind what they are said of
abbrev pub words_of : Unsaved → Text
words_of PartThere = codes ".part is there already: another run may be writing it; remove it if none is"
words_of TargetPartThere =
    codes "a .part is there already beside the file to which it leads: another run may be writing it; remove it if none is"
words_of NoFolder = codes "no such folder"
words_of NoPermission = codes "permission is denied"
words_of NoRegularFile = codes "it is no regular file"
words_of Other = codes "the system can't write it"
words_of Memory = codes "memory ran out"

-- the name of the file, where they are said of what stands beside it
abbrev pub subject_of : Unsaved → Text → Text
subject_of PartThere name = name
subject_of _ name = []

abbrev pub cause_line : Unsaved → Text → List ℕ
cause_line cause name = codes "  " ++ (subject_of cause name ++ (words_of cause ++ codes ".\n"))

abbrev pub cause_where : Bool → Unsaved → Text → List ℕ
cause_where with_reasons cause name = if with_reasons then cause_line cause name else []

-- the line that says so, and, where reasons are wanted, one below it why
abbrev pub unwritten_text : Bool → Unsaved → Text → List ℕ
unwritten_text with_reasons cause name =
    (codes "cannot write " ++ (name ++ codes "\n")) ++ cause_where with_reasons cause name

abbrev pub is_memory : Unsaved → Bool
is_memory Memory = true
is_memory _ = false

-- the same; of want of memory the line of that
abbrev pub unsaved_text : Bool → Unsaved → Text → List ℕ
unsaved_text with_reasons cause name = if is_memory cause then codes "memory\n" else unwritten_text with_reasons cause name

-- what is said where the output couldn't be written out
abbrev pub unwritten_line : Bool → List ℕ
unwritten_line with_reasons = if with_reasons then codes "write failed\n" else []

-- A file that is due is written, and the status stays. Or it can't be: then a line says so, and the status too; where reasons
-- are wanted, a second line says the cause that the shelf told. Where that is want of memory, the line of that is all.
abbrev pub Saves : Bool → Option spec.SavedFile → ℕ → Shelf → Shelf → Side → Side → ℕ → Type 0
Saves with_reasons None status before after errors errors_after result =
    (after ≡ before) × (errors_after ≡ errors) × (result ≡ status)
Saves with_reasons (Some file) status before after errors errors_after result =
    (WasSaved before after file × (errors_after ≡ errors) × (result ≡ status))
    ⊎ ((cause : Unsaved) × WasNotSaved before after cause
    × Ends errors errors_after (unsaved_text with_reasons cause file.name) 4 result)
