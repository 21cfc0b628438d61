-- What comes of a talk: what went over between who asks and the session, what is said on the error side, and the exit status.
use Rattle.std.specs.Prelude.{◌≡◌, ◌⊎◌, ℕ, ◌++◌, Bool, false, true, List, codes, is_some}
use Rattle.yspec.specs.text.Text.{Text}
use Rattle.yspec.specs.schema.Schema.{Schema}
use Rattle.yspec.specs.document.Document.{Tree}
use Rattle.yspec_session.specs.Session.{Session, configured_by, opened}
use Rattle.yspec_opening.specs.Closing.{Close, closing_status, closing_text}
use Rattle.yspec_opening.specs.Opening.{Opening}
use Rattle.ybase_output.specs.Writing.{Broke, Side}
use Rattle.ybase_talk.specs.Talk.{Party, Talks}
use Rattle.ylive.specs.View.{view}
use Rattle.yapp_words.specs.Running.{Ends}
use Rattle.yapp_session.specs.Answered.{Holds, configured_view, told_count}
use Rattle.yapp_session.specs.View.{past_view}
use Rattle.yapp_talk.specs.Watching.{AnswersWatched, as_result}
use Rattle.yapp_talk.specs.declared.watching.Watched.{Watched}

-- a session is there
abbrev pub IsThere : Watched → Type 0
IsThere w = (s : Session) × Holds (view w.session.live) (past_view w.session.past) s

-- how many faults are told of its document
abbrev pub faults_left : Watched → ℕ
faults_left w = told_count (configured_view w.session.configured) (view w.session.live)

-- it is told why a talk ended, by the faults that are left; where configuration alone is looked at, memory may be wanting for these
abbrev pub EndsTalk : Watched → Close → List ℕ → Bool → Side → Side → ℕ → Type 0
EndsTalk last close said with_reasons errors errors_after status =
    Ends errors errors_after (said ++ closing_text with_reasons close) (closing_status close last.has_refused (faults_left last)) status
    ⊎ ((is_some last.session.configured ≡ true) × Ends errors errors_after (said ++ codes "memory\n") 4 status)

-- from this session on they talked, and behind these bytes on the error side it is told why it ended
abbrev pub HoldsOn : Watched → List ℕ → Bool → Party → Party → Side → Side → ℕ → Type 0
HoldsOn start said with_reasons caller caller_after errors errors_after status = (close : Close) × (last : Watched)
    × Talks {X = Bool} AnswersWatched caller start caller_after last (as_result close)
    × EndsTalk last close said with_reasons errors errors_after status

-- nobody was asked, since the error side didn't take what is said first
abbrev pub IsUnsaid : List ℕ → Party → Party → Side → Side → ℕ → Type 0
IsUnsaid said caller caller_after errors errors_after status =
    (caller_after ≡ caller) × Broke errors errors_after said × (status ≡ 4)

-- what is said first is said, and then they talked
abbrev pub Begins : Watched → Text → Bool → Party → Party → Side → Side → ℕ → Type 0
Begins start note with_reasons caller caller_after errors errors_after status =
    IsUnsaid note caller caller_after errors errors_after status
    ⊎ HoldsOn start note with_reasons caller caller_after errors errors_after status

-- a session over a document under a schema, opened so, of which nothing is remembered yet
pub record IsNew (o : Opening) (schema : Schema) (tree : Tree) (w : Watched) : Type 0 where
  pub holds : Holds (view w.session.live) (past_view w.session.past) (opened tree)
  pub schema_is : (view w.session.live).schema ≡ schema
  pub remembers : w.session.limit ≡ o.remembers
  pub tells_changes : w.session.tells_changes ≡ o.tells_changes
  pub looks : configured_view w.session.configured ≡ configured_by o.of_configuration schema
  pub unrefused : w.has_refused ≡ false

-- memory was wanting for a session, and nobody was asked
abbrev pub IsShort : Party → Party → Side → Side → ℕ → Type 0
IsShort caller caller_after errors errors_after status =
    (caller_after ≡ caller) × Ends errors errors_after (codes "memory\n") 4 status

-- they talked over a document under a schema, from a session on that is new, or memory was wanting for it
abbrev pub IsTalk : Opening → Schema → Tree → Text → Bool → Party → Party → Side → Side → ℕ → Type 0
IsTalk o schema tree note with_reasons caller caller_after errors errors_after status =
    IsShort caller caller_after errors errors_after status
    ⊎ ((start : Watched) × IsNew o schema tree start × Begins start note with_reasons caller caller_after errors errors_after status)
