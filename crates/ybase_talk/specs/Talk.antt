-- A talk: lines that are asked for one by one, and what each is answered before the next is asked for.
use Rattle.std.specs.Prelude.{◌≡◌, ◌⊎◌, ℕ, ◌+◌, ◌++◌, Bool, true, false, List, [], ◌∷◌, codes, map, take, Option, Some, None, is_some, option_map, Result, Ok, Err}
use Rattle.std.specs.Borrow.{Bor}
use Rattle.std.specs.List.{list_all}
use Rattle.std.specs.Option.{option_map_or}
use Rattle.std.specs.Str.{bytes_eq}
use Rattle.ybase_talk.specs.declared.talk.LineFault.{LineFault}
use Rattle.ybase_talk.specs.declared.talk.LineFault.TheVariants as lines
use Rattle.ybase_talk.specs.declared.talk.TalkFault.{TalkFault}
use Rattle.ybase_talk.specs.declared.talk.TalkFault.TheVariants.{Unread, Unwritten, Memory, Endless}

-- a text that was to be kept under a name, and why it wasn't, in words, where it wasn't
pub record Keeping : Type 0 where
  pub name : List ℕ
  pub text : List ℕ
  pub cause : Option (List ℕ)

abbrev pub keeping : List ℕ → List ℕ → Option (List ℕ) → Keeping
keeping name text cause = record { name = name; text = text; cause = cause }

abbrev pub none_kept : List Keeping → Bool
none_kept ks = list_all (λ k. is_some k.cause) ks

abbrev pub cause_in : {X : Type 0} → Result X (Bor (List ℕ)) → Option (List ℕ)
cause_in (Ok x) = None
cause_in (Err words) = Some words.now

-- what went over: a line that was asked for, where there was one, a text that was to be kept, or what was told
pub data Event : Type 0 where
  asked : Option (List ℕ) → Event
  kept : Keeping → Event
  told : List ℕ → Event

-- who asks, as it tells of itself: what went over, where it tells that, and how many lines it couldn't read and answers it couldn't tell
pub record Party : Type 0 where
  pub events : Option (List Event)
  pub failures : ℕ

abbrev pub party : {C : Type 0} → (C → Option (List Event)) → (C → ℕ) → C → Party
party events failures c = record { events = events c; failures = failures c }

-- this went over, and no call failed
abbrev pub followed_by : Party → List Event → Party
followed_by s more = record s { events = option_map (λ es. es ++ more) s.events }

-- one call failed
abbrev pub failed : Party → Party
failed s = record s { failures = s.failures + 1 }

-- there is no line; where memory ran out nothing failed
abbrev pub left_by : LineFault → Party → Party
left_by lines.Unread s = failed s
left_by lines.Memory s = s

pub record Exchange : Type 0 where
  pub line : List ℕ
  pub keepings : List Keeping
  pub answer : List ℕ

-- a line and what was kept for it, and the answer behind
abbrev pub events_with : List ℕ → List Keeping → List ℕ → List Event
events_with line ks answer = asked (Some line) ∷ (map kept ks ++ told answer ∷ [])

abbrev pub events_in : Exchange → List Event
events_in x = events_with x.line x.keepings x.answer

abbrev pub events_of : List Exchange → List Event
events_of [] = []
events_of (x ∷ xs) = events_in x ++ events_of xs

-- the talk ends where there is no more line, and with `end`
abbrev pub is_end : Option (List ℕ) → Bool
is_end line = option_map_or (λ l. bytes_eq l (codes "end")) line true

-- a line is answered so, once these texts were kept or couldn't be
abbrev pub Answering : Type 0 → Type 1
Answering S = S → List ℕ → List Keeping → List ℕ → S → Type 0

-- the caller was asked for nothing but to keep these
abbrev pub IsAnswered : {S : Type 0} → Answering S → Party → S → List ℕ → List ℕ → Party → S → Type 0
IsAnswered answers so_far before line answer now after =
    (ks : List Keeping) × answers before line ks answer after × (now ≡ followed_by so_far (map kept ks))

-- memory ran out, and no text was kept
abbrev pub IsUnanswered : Party → Party → Type 0
IsUnanswered so_far now = (ks : List Keeping) × (none_kept ks ≡ true) × (now ≡ followed_by so_far (map kept ks))

-- each of these was answered so, one after another
abbrev pub Goes : {S : Type 0} → Answering S → S → List Exchange → S → Type 0
Goes answers before [] after = after ≡ before
Goes answers before (x ∷ xs) after = (between : _) × answers before x.line x.keepings x.answer between × Goes answers between xs after

-- How a talk ends behind what went over so far: before its end only where a call failed, memory ran out, or lines didn't end. Of an
-- answer that couldn't be told a beginning went over. Where memory ran out for a line it wasn't asked for; where it ran out for an
-- answer no text was kept for it, and nothing is said of who answers.
abbrev pub Closes : {S X : Type 0} → Answering S → Party → S → Party → S → Result X TalkFault → Type 0
Closes answers so_far before now after (Ok x) =
    (line : Option (List ℕ)) × (is_end line ≡ true) × (now ≡ followed_by so_far (asked line ∷ [])) × (after ≡ before)
Closes answers so_far before now after (Err Unread) = (now ≡ failed so_far) × (after ≡ before)
Closes answers so_far before now after (Err Unwritten) = (x : Exchange) × (n : ℕ) × answers before x.line x.keepings x.answer after
    × (now ≡ failed (followed_by so_far (events_with x.line x.keepings (take n x.answer))))
Closes answers so_far before now after (Err Memory) = ((now ≡ so_far) × (after ≡ before))
    ⊎ ((line : List ℕ) × (ks : List Keeping) × (none_kept ks ≡ true) × (now ≡ followed_by so_far (asked (Some line) ∷ map kept ks)))
Closes answers so_far before now after (Err Endless) = (now ≡ so_far) × (after ≡ before)

-- one line was asked for and answered, or the talk ended
abbrev pub Exchanges : {S : Type 0} → Answering S → Party → S → Party → S → Result Bool TalkFault → Type 0
Exchanges answers so_far before now after (Ok true) =
    (x : Exchange) × answers before x.line x.keepings x.answer after × (now ≡ followed_by so_far (events_in x))
Exchanges answers so_far before now after (Ok false) = Closes {X = Bool} answers so_far before now after (Ok false)
Exchanges answers so_far before now after (Err fault) = Closes {X = Bool} answers so_far before now after (Err fault)

-- so many lines were asked for and answered, and then the talk ended
abbrev pub Talks : {S X : Type 0} → Answering S → Party → S → Party → S → Result X TalkFault → Type 0
Talks answers so_far before now after result = (xs : List Exchange) × (last : _) × Goes answers before xs last
    × Closes answers (followed_by so_far (events_of xs)) last now after result
