-- A talk from its beginning to its end.
use Rattle.std.proofs.Common.{◌≡◌, false, ◌⊎◌, inl, inr, ℕ, Bool, List, [], ◌∷◌, ◌++◌, Option, Some, None, ap, refl, sym, subst, ◌∙◌}
use Rattle.std.specs.Prelude.{Result, Ok, Err, codes, is_ok, if◌then◌else◌}
use Rattle.yspec_opening.specs.Closing.{Close, at_end, closing_status, closing_text, endless, short, unread, untold}
use Rattle.ybase_output.specs.Writing.{Broke, Side, Writes, Wrote}
use Rattle.ybase_output.proofs.WritingLemmas.{broke_second, wrote_both}
use Rattle.ybase_talk.specs.Talk.{Answering, Exchange, Goes, Keeping, Party, Talks}
use Rattle.ybase_talk.specs.declared.talk.TalkFault.{TalkFault}
use Rattle.ybase_talk.specs.declared.talk.TalkFault.TheVariants.{Unread, Unwritten, Memory, Endless}
use Rattle.ylive.specs.View.{view}
use Rattle.yapp_words.specs.Running.{Ends}
use Rattle.yapp_session.specs.Kept as session
use Rattle.yspec_session.specs.Requests.{request_of}
use Rattle.yapp_talk.specs.Saving.{file_asked}
use Rattle.yapp_talk.specs.Watching.{AnswersOrSaves, AnswersWatched, as_result, close_of}
use Rattle.yapp_talk.specs.Talked.{EndsTalk, HoldsOn, IsThere, faults_left}
use Rattle.yapp_talk.specs.declared.watching.Watched.{Watched}

-- a text that is written alone ends a run
pub ends : {X E : Type 0} → (a b : Side) (bytes : List ℕ) (status result : ℕ) (r : Result X E) → Writes a b bytes r
    → result ≡ (if is_ok r then status else 4) → Ends a b bytes status result
ends a b bytes status result (Ok x) w e = inl (w, e)
ends a b bytes status result (Err x) w e = inr (w, e)

pub ends_same : (a b : Side) (xs ys : List ℕ) (status other result : ℕ) → xs ≡ ys → status ≡ other → Ends a b xs status result → Ends a b ys other result
ends_same a b xs ys status other result text statuses is =
    subst (λ (n : ℕ). Ends a b ys n result) statuses (subst (λ (zs : List ℕ). Ends a b zs status result) text is)

-- one that is written behind another
pub ends_behind : (a b c : Side) (said bytes : List ℕ) (status result : ℕ) → Wrote a b said → Ends b c bytes status result
    → Ends a c (said ++ bytes) status result
ends_behind a b c said bytes status result wrote (inl all) = inl (wrote_both a b c said bytes wrote all.0, all.1)
ends_behind a b c said bytes status result wrote (inr broke) = inr (broke_second a b c said bytes wrote broke.0, broke.1)

-- the end of a talk says all that its answer does
pub talks_as : {S X : Type 0} → (answers : Answering S) (caller : Party) (s : S) (caller_after : Party) (last : S) (r : Result X TalkFault)
    → Talks answers caller s caller_after last r → Talks {X = Bool} answers caller s caller_after last (as_result (close_of r))
talks_as answers caller s caller_after last (Ok x) talks = talks
talks_as answers caller s caller_after last (Err Unread) talks = talks
talks_as answers caller s caller_after last (Err Unwritten) talks = talks
talks_as answers caller s caller_after last (Err Memory) talks = talks
talks_as answers caller s caller_after last (Err Endless) talks = talks

-- a talk behind what is said first
pub held_behind : (w : Watched) (note : List ℕ) (with_reasons : Bool) (caller caller_after : Party) (a b c : Side) (status : ℕ) → Wrote a b note
    → HoldsOn w [] with_reasons caller caller_after b c status → HoldsOn w note with_reasons caller caller_after a c status
held_behind w note with_reasons caller caller_after a b c status wrote held = (held.0, held.1, held.2, by held.3)
  where
    by : EndsTalk held.1 held.0 [] with_reasons b c status → EndsTalk held.1 held.0 note with_reasons a c status
    by (inl ends) = inl (ends_behind a b c note (closing_text with_reasons held.0) _ status wrote ends)
    by (inr (is, ends)) = inr (is, ends_behind a b c note (codes "memory\n") 4 status wrote ends)

-- ---- a session stays there

-- saving leaves it as it is
either_way : (asked : Option (List ℕ)) (before after : Watched) (line answer : List ℕ) (ks : List Keeping)
    → AnswersOrSaves asked before.session line answer after.session ks → IsThere before → IsThere after
either_way (Some file) before after line answer ks is there =
    subst (λ (s : session.Parts). IsThere (record { alloc = after.alloc; session = s; has_refused = after.has_refused })) (sym is.0) there
either_way None before after line answer ks is there =
    either _ _ (IsThere after) (λ told. (_, told.1)) (λ short. (there.0, short.1)) (is.1.says there.0 there.1)
  where
    either : (A B C : Type 0) → (A → C) → (B → C) → A ⊎ B → C
    either A B C f g (inl a) = f a
    either A B C f g (inr b) = g b

there_behind : (before after : Watched) (line : List ℕ) (ks : List Keeping) (answer : List ℕ) → AnswersWatched before line ks answer after
    → IsThere before → IsThere after
there_behind before after line ks answer answered there =
    either_way (file_asked (request_of line)) before after line answer ks answered.answers there

there_last : (xs : List Exchange) (start last : Watched) → Goes AnswersWatched start xs last → IsThere start → IsThere last
there_last [] start last goes there = subst IsThere (sym goes) there
there_last (x ∷ xs) start last goes there = there_last xs goes.0 last goes.2 (there_behind start goes.0 x.line x.keepings x.answer goes.1 there)

-- where a talk comes to its end, the faults are known
pub closed_so : (caller caller_after : Party) (start last : Watched) (close : Close) (has_refused : Bool) (faults : ℕ)
    → Talks {X = Bool} AnswersWatched caller start caller_after last (as_result close) → IsThere start → ((view last.session.live).is_stale ≡ false → faults ≡ faults_left last)
    → closing_status close has_refused faults ≡ closing_status close has_refused (faults_left last)
closed_so caller caller_after start last at_end has_refused faults talks there is =
    let there : IsThere last = subst IsThere (sym talks.3.3) (there_last talks.0 start talks.1 talks.2 there) in
    ap (closing_status at_end has_refused) (is there.1.fresh)
closed_so caller caller_after start last unread has_refused faults talks there is = refl
closed_so caller caller_after start last untold has_refused faults talks there is = refl
closed_so caller caller_after start last short has_refused faults talks there is = refl
closed_so caller caller_after start last endless has_refused faults talks there is = refl
