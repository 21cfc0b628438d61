-- A session that is kept by a live document and the edits since another, and what a line is answered.
use Rattle.std.specs.Prelude.{◌≡◌, ◌⊎◌, ℕ, Bool, false, List, Option, Some, None, length, option_map, take, if◌then◌else◌}
use Rattle.yspec.specs.text.Text.{Text}
use Rattle.yspec.specs.Results.{◌>>=◌}
use Rattle.yspec.specs.schema.Schema.{Schema}
use Rattle.yspec.specs.document.Document.{Tree}
use Rattle.yspec.specs.document.Fault.{Fault}
use Rattle.yspec.specs.edit.EditText.{Path}
use Rattle.yspec.specs.edit.Editing.{Branch, target_of}
use Rattle.yspec.specs.edit.Live.{Live, opened}
use Rattle.yspec_session.specs.Carrying.{Difference}
use Rattle.yspec_session.specs.Session.{Session, Request, Answer, Why, answered, changed, listed, stored, whole, saved, done, refused, not_understood, edit_refused, nothing_remembered, has_begun, not_begun, page, place_of, value_at, below_told, told_of, value_told}
use Rattle.yspec_session.specs.Remembering.{Kept, Leads, Remembers, behind_groups}
use Rattle.yspec_session.specs.Requests.{request_of}
use Rattle.ysay_session.specs.AnswerText as text
use Rattle.yschema_model.specs.View as schema_view
use Rattle.yschema_model.specs.declared.schema.Schema as rust
use Rattle.ylive.specs.View.{view}
use Rattle.yapp_session.specs.Asked.{is_unserved}
use Rattle.yapp_session.specs.View.{past_view}
use Rattle.yapp_session.specs.Kept.{AreFit, Parts}

-- the document is there and the past leads to it
pub record Holds (live : Live) (k : Kept) (s : Session) : Type 0 where
  pub fresh : live.is_stale ≡ false
  pub tree : live.tree ≡ s.tree
  pub remembers : Remembers live.schema k s

-- its faults that are told: those of all of it, or of its configuration alone
abbrev pub told_in : Option Schema → Live → List Fault
told_in configured live = told_of configured live.schema live.tree

abbrev pub told_count : Option Schema → Live → ℕ
told_count configured live = length (told_in configured live)

-- the schema of its configuration, where that alone is looked at
abbrev pub configured_view : Option rust.Schema → Option Schema
configured_view configured = option_map schema_view.view configured

-- ---- texts

abbrev pub why_text : Why → Text
why_text (edit_refused e) = text.edit_refused_text e
why_text nothing_remembered = text.nothing_text
why_text has_begun = text.begun_text
why_text not_begun = text.not_begun_text

-- of a change, by the documents before and behind it
abbrev pub change_text : Bool → Schema → Tree → Tree → ℕ → ℕ → Difference → Text
change_text tells_changes schema earlier later before after difference = if tells_changes
    then text.changes_text schema earlier later before after difference else text.changed_text before after

-- of an answer, by the documents before and behind it
abbrev pub answer_text : Bool → Schema → Tree → Tree → Answer → Text
answer_text tells_changes schema earlier later (changed before after difference) =
    change_text tells_changes schema earlier later before after difference
answer_text tells_changes schema earlier later (listed faults count) = text.listed_text schema later faults count
answer_text tells_changes schema earlier later (stored branch) = text.value_text schema branch
answer_text tells_changes schema earlier later (whole t) = text.document_text schema t
answer_text tells_changes schema earlier later (saved file t) = text.unserved_text
answer_text tells_changes schema earlier later done = text.done_text
answer_text tells_changes schema earlier later (refused why) = why_text why
answer_text tells_changes schema earlier later not_understood = text.not_understood_text

-- a page of the faults of a live document
abbrev pub page_text : Option Schema → Live → ℕ → Option ℕ → Text
page_text configured live behind count = let fs = told_in configured live in
    text.listed_text live.schema live.tree (page behind count fs) (length fs)

-- the faults of a node of it
abbrev pub below_text : Option Schema → Live → Path → Text
below_text configured live path = answer_text false live.schema live.tree live.tree
    (below_told (told_in configured live) (place_of live.schema live.tree path))

-- what is stored at a node of it
abbrev pub value_text : Live → Path → Text
value_text live path = answer_text false live.schema live.tree live.tree
    (value_told (target_of live.schema live.tree false path >>= value_at live.schema))

-- of the stored node of a path, if there is one
abbrev pub found_text : Schema → Option Branch → Text
found_text schema None = text.done_text
found_text schema (Some branch) = text.value_text schema branch

-- ---- places of the past

-- the document behind the first groups of edits
abbrev pub place_at : Schema → Kept → ℕ → Live
place_at schema k n = opened schema (behind_groups schema k.base (take n k.groups))

-- where its later document is one to which the past leads, the live document is put there
abbrev pub IsPlaced : Schema → Kept → ℕ → Live → Type 0
IsPlaced schema k n live = Leads schema k.base k.groups k.later → live ≡ place_at schema k n

-- ---- answers

-- a request is answered, and the session behind it is there
abbrev pub Answers : Bool → Option Schema → Schema → ℕ → Session → Request → Text → Live → Kept → Type 0
Answers tells_changes configured schema limit s r t live k = let a = answered configured schema limit s r in
    (t ≡ answer_text tells_changes schema s.tree a.1.tree a.0) × Holds live k a.1

-- in any session that is there
abbrev pub Replies : Bool → Option Schema → ℕ → Live → Kept → Request → Text → Live → Kept → Type 0
Replies tells_changes configured limit before k r t after l =
    (s : Session) → Holds before k s → Answers tells_changes configured before.schema limit s r t after l

-- the schema stays, and the documents of the past fit it as before
pub record Stays (before : Live) (k : Kept) (after : Live) (l : Kept) : Type 0 where
  pub schema : after.schema ≡ before.schema
  pub fit : AreFit before.schema k → AreFit before.schema l

-- a request is answered so; one that isn't served leaves all as it was
abbrev pub Told : Bool → Option Schema → ℕ → Live → Kept → Option Request → Text → Live → Kept → Type 0
Told tells_changes configured limit before k None t after l = (t ≡ text.unserved_text) × (after ≡ before) × (l ≡ k)
Told tells_changes configured limit before k (Some r) t after l = Replies tells_changes configured limit before k r t after l

-- ---- lines

abbrev pub asked_answered : Bool → Option Schema → Schema → ℕ → Session → Option Request → Text × Session
asked_answered tells_changes configured schema limit s None = (text.not_understood_text, s)
asked_answered tells_changes configured schema limit s (Some r) =
    let a = answered configured schema limit s r in (answer_text tells_changes schema s.tree a.1.tree a.0, a.1)

-- what a line is answered that asks so, and the session behind it
abbrev pub line_answered : Bool → Option Schema → Schema → ℕ → Session → Option Request → Text × Session
line_answered tells_changes configured schema limit s asked =
    if is_unserved asked then (text.unserved_text, s) else asked_answered tells_changes configured schema limit s asked

-- where a session is there, a line is answered so, and the session behind it is there
abbrev pub Says : Bool → Option Schema → ℕ → Live → Kept → Option Request → Text → Live → Kept → Type 0
Says tells_changes configured limit before k asked t after l = (s : Session) → Holds before k s
    → (t ≡ (line_answered tells_changes configured before.schema limit s asked).0)
    × Holds after l (line_answered tells_changes configured before.schema limit s asked).1

-- a line is answered, or it is said that memory ran out, and the session is as it was
abbrev pub SaysOrShort : Bool → Option Schema → ℕ → Live → Kept → Option Request → Text → Live → Kept → Type 0
SaysOrShort tells_changes configured limit before k asked t after l = (s : Session) → Holds before k s
    → ((t ≡ (line_answered tells_changes configured before.schema limit s asked).0)
    × Holds after l (line_answered tells_changes configured before.schema limit s asked).1)
    ⊎ ((t ≡ text.short_text) × Holds after l s)

-- a line of a session is answered so
pub record AnswersLine (before : Parts) (line : Text) (t : Text) (after : Parts) : Type 0 where
  pub limit : after.limit ≡ before.limit
  pub tells_changes : after.tells_changes ≡ before.tells_changes
  pub configured : after.configured ≡ before.configured
  pub schema : (view after.live).schema ≡ (view before.live).schema
  pub says : SaysOrShort before.tells_changes (configured_view before.configured) before.limit (view before.live)
      (past_view before.past) (request_of line) t (view after.live) (past_view after.past)
