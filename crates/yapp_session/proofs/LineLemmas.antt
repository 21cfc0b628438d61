-- What lines are answered, by what their requests are.
use Rattle.std.proofs.Common.{◌≡◌, ℕ, Bool, true, false, List, [], ◌∷◌, length, Option, Some, None, refl, sym, ap, subst, ◌∙◌, inl, inr}
use Rattle.std.specs.Prelude.{if◌then◌else◌, take}
use Rattle.yspec.specs.text.Text.{Text}
use Rattle.yspec.specs.schema.Schema.{Schema}
use Rattle.yspec.specs.edit.Live.{Live}
use Rattle.yspec_session.specs.Session as spec
use Rattle.yspec_session.specs.Session.{Session}
use Rattle.yspec_session.specs.Remembering.{Kept, behind_groups}
use Rattle.yspec_session.specs.Requests.{request_of}
use Rattle.ysay_session.specs.AnswerText.{short_text, unserved_text}
use Rattle.ylive.specs.View.{view}
use Rattle.yapp_session.specs.Kept.{Parts}
use Rattle.yapp_session.specs.View.{past_view}
use Rattle.yapp_session.specs.Asked.{AsksAs, is_unserved, request_view}
use Rattle.yapp_session.specs.Answered.{AnswersLine, Holds, IsPlaced, Says, Told, asked_answered, configured_view, line_answered}
use Rattle.yapp_session.specs.declared.request.Request.{Request}
use Rattle.yapp_session.specs.declared.request.Request.TheVariants as rust

module _ (tells_changes : Bool) (configured : Option Schema) (limit : ℕ) (before : Live) (k : Kept) (t : Text) (after : Live) (l : Kept) where
  abbrev IsSaid : Session → Text × Session → Type 0
  IsSaid s a = (t ≡ a.0) × Holds after l a.1

  served : (asked : Option spec.Request) (r : spec.Request) → is_unserved (Some r) ≡ false → asked ≡ Some r → Told tells_changes configured limit before k (Some r) t after l
      → Says tells_changes configured limit before k asked t after l
  served asked r is_served is told s h = subst (λ (o : Option spec.Request). IsSaid s (line_answered tells_changes configured before.schema limit s o)) (sym is)
      (subst (λ (b : Bool). IsSaid s (if b then (unserved_text, s) else asked_answered tells_changes configured before.schema limit s (Some r))) (sym is_served) (told s h))

  unserved : (asked : Option spec.Request) → is_unserved asked ≡ true → Told tells_changes configured limit before k None t after l → Says tells_changes configured limit before k asked t after l
  unserved asked is (text, live, past) s h =
      subst (λ (b : Bool). IsSaid s (if b then (unserved_text, s) else asked_answered tells_changes configured before.schema limit s asked)) (sym is)
      (text, subst (λ (after : Live). Holds after l s) (sym live) (subst (λ (l : Kept). Holds before l s) (sym past) h))

  -- of a request that a line asks for
  pub said : (request : Request) (asked : Option spec.Request) → AsksAs (request_view request) asked → Told tells_changes configured limit before k (request_view request) t after l
      → Says tells_changes configured limit before k asked t after l
  said (rust.Change edit) asked is told = served asked _ refl is told
  said (rust.Faults behind count) asked is told = served asked _ refl is told
  said (rust.Below path) asked is told = served asked _ refl is told
  said (rust.Value path) asked is told = served asked _ refl is told
  said rust.Undo asked is told = served asked _ refl is told
  said rust.Document asked is told = served asked _ refl is told
  said rust.Begin asked is told = served asked _ refl is told
  said rust.Commit asked is told = served asked _ refl is told
  said rust.Back asked is told = served asked _ refl is told
  said rust.Unserved asked is told = unserved asked is told

pub line_said : (inside self after : Parts) (line t : Text) (l : Kept) → inside ≡ self → after.limit ≡ inside.limit → after.tells_changes ≡ inside.tells_changes → after.configured ≡ inside.configured → (view after.live).schema ≡ (view inside.live).schema
    → Says inside.tells_changes (configured_view inside.configured) inside.limit (view inside.live) (past_view inside.past) (request_of line) t (view after.live) l
    → ((s : Session) → Holds (view after.live) l s → Holds (view after.live) (past_view after.past) s) → AnswersLine self line t after
line_said inside self after line t l is limit tells_changes looks schema says settled = subst (λ (self : Parts). AnswersLine self line t after) is
    (record { limit = limit; tells_changes = tells_changes; configured = looks; schema = schema; says = λ s h. let p = says s h in inl (p.0, settled _ p.1) })

all_taken : {A : Type 0} (xs : List A) → take (length xs) xs ≡ xs
all_taken [] = refl
all_taken (x ∷ xs) = ap (λ ys. x ∷ ys) (all_taken xs)

-- where memory ran out the live document is put to where the past leads
pub mended : (inside self after : Parts) (line t : Text) → inside ≡ self → after.limit ≡ inside.limit → after.tells_changes ≡ inside.tells_changes → after.configured ≡ inside.configured → (view after.live).schema ≡ (view inside.live).schema
    → t ≡ short_text → past_view after.past ≡ past_view inside.past
    → IsPlaced (view inside.live).schema (past_view inside.past) (length (past_view inside.past).groups) (view after.live) → AnswersLine self line t after
mended inside self after line t is limit tells_changes looks schema short past placed = subst (λ (self : Parts). AnswersLine self line t after) is (record {
  limit = limit;
  tells_changes = tells_changes;
  configured = looks;
  schema = schema;
  says = λ s h. inr (short, subst (λ (k : Kept). Holds (view after.live) k s) (sym past) (there s h));
})
  where
    k : Kept
    k = past_view inside.past

    there : (s : Session) → Holds (view inside.live) k s → Holds (view after.live) k s
    there s h = let place = placed h.remembers.later in
        subst (λ (live : Live). Holds live k s) (sym place) (record {
          fresh = refl;
          tree = ap (behind_groups (view inside.live).schema k.base) (all_taken k.groups) ∙ sym h.remembers.tree;
          remembers = h.remembers;
        })
