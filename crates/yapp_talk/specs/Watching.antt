-- A session of which it is watched whether a request is refused, and whose document is kept as files; and how a talk with it ends.
use Rattle.std.specs.Prelude.{◌≡◌, ◌||◌, Bool, true, List, [], Option, Some, None, Result, Ok, Err}
use Rattle.yspec.specs.text.Text.{Text}
use Rattle.yspec_opening.specs.Closing.{Close, at_end, endless, is_refusal, short, unread, untold}
use Rattle.yspec_session.specs.Requests.{request_of}
use Rattle.ybase_talk.specs.Talk.{Keeping}
use Rattle.ybase_talk.specs.declared.talk.TalkFault.{TalkFault}
use Rattle.ybase_talk.specs.declared.talk.TalkFault.TheVariants.{Unread, Unwritten, Memory, Endless}
use Rattle.ylive.specs.View.{view}
use Rattle.yapp_session.specs.Answered.{AnswersLine}
use Rattle.yapp_session.specs.Kept as session
use Rattle.yapp_talk.specs.Saving.{IsSavedOrShort, file_asked}
use Rattle.yapp_talk.specs.declared.watching.Watched.{Watched}

-- a line that asks to save to this file, which leaves the session as it is; any other is answered as the session does
abbrev pub AnswersOrSaves : Option Text → session.Parts → Text → Text → session.Parts → List Keeping → Type 0
AnswersOrSaves (Some file) before line answer after ks = (after ≡ before) × IsSavedOrShort (view before.live) file answer ks
AnswersOrSaves None before line answer after ks = (ks ≡ []) × AnswersLine before line answer after

-- a line is answered so, and a refusal is noted
pub record AnswersWatched (before : Watched) (line : Text) (ks : List Keeping) (answer : Text) (after : Watched) : Type 0 where
  pub answers : AnswersOrSaves (file_asked (request_of line)) before.session line answer after.session ks
  pub watches : after.has_refused ≡ before.has_refused || is_refusal answer

-- ---- how a talk ends

abbrev pub close_of : {X : Type 0} → Result X TalkFault → Close
close_of (Ok x) = at_end
close_of (Err Unread) = unread
close_of (Err Unwritten) = untold
close_of (Err Memory) = short
close_of (Err Endless) = endless

abbrev pub as_result : Close → Result Bool TalkFault
as_result at_end = Ok true
as_result unread = Err Unread
as_result untold = Err Unwritten
as_result short = Err Memory
as_result endless = Err Endless
