-- What requests are answered over a live document and the edits since another.
use Rattle.std.proofs.Common.{◌≡◌, ◌≢◌, ℕ, suc, ◌-◌, ◌++◌, Bool, true, false, List, [], ◌∷◌, length, Option, Some, None, Ok, refl, sym, ap, subst, ◌∙◌, arith}
use Rattle.std.specs.Prelude.{take, is_some}
use Rattle.std.proofs.lemmas.List.{length-take-le}
use Rattle.yspec.specs.text.Text.{Text}
use Rattle.yspec.specs.schema.Schema.{Schema}
use Rattle.yspec.specs.document.Document.{Tree}
use Rattle.yspec.specs.document.Fitting.{Fits}
use Rattle.yspec.specs.edit.EditText.{Edit}
use Rattle.yspec.specs.edit.Editing.{applied}
use Rattle.yspec.specs.edit.Live.{Live, with_tree}
use Rattle.yspec_session.specs.Carrying.{Turn, difference}
use Rattle.yspec_session.specs.Session as spec
use Rattle.yspec_session.specs.Session.{Session, Begun, change_answered, change_told, undone, committed, fallen, turns_of, turns_to}
use Rattle.yspec_session.specs.Remembering.{Since, Kept, Remembers, back_to, behind_groups, joined, turns_behind, until, with_group}
use Rattle.yspec_session.proofs.RememberingLemmas.{Ends, TakenBack, back_tree, begun_in_both, changes, comes_back, commits, falls, falls_back, has_last, some_kept, takes_back}
use Rattle.ysay_session.specs.AnswerText as text
use Rattle.yapp_session.specs.View.{less_one}
use Rattle.yapp_session.specs.Kept.{AreFit, LaterFits}
use Rattle.yapp_session.specs.Answered.{Holds, IsPlaced, Replies, Stays, answer_text, change_text, place_at, told_count, told_in}
use Rattle.yapp_session.specs.Came.{Falls, seen, seen_text}
use Rattle.yapp_session.proofs.CameLemmas.{change_as, seen_as}
use Rattle.yapp_session.proofs.RewindLemmas.{until_fits}

-- the answer and the session are those of a pair that is equal
answers_as : (tells_changes : Bool) (schema : Schema) (first : Tree) (t : Text) (live : Live) (k : Kept) (a b : spec.Answer × Session) → b ≡ a
    → (t ≡ answer_text tells_changes schema first a.1.tree a.0) × Holds live k a.1
    → (t ≡ answer_text tells_changes schema first b.1.tree b.0) × Holds live k b.1
answers_as tells_changes schema first t live k a b is holds =
    subst (λ (p : spec.Answer × Session). (t ≡ answer_text tells_changes schema first p.1.tree p.0) × Holds live k p.1) (sym is) holds

-- by an equal text and past
pub replies_as : (tells_changes : Bool) (configured : Option Schema) (limit : ℕ) (before after : Live) (k l m : Kept) (r : spec.Request) (t u : Text) → t ≡ u → l ≡ m
    → Replies tells_changes configured limit before k r u after m → Replies tells_changes configured limit before k r t after l
replies_as tells_changes configured limit before after k l m r t u text past holds =
    subst (λ t. Replies tells_changes configured limit before k r t after l) (sym text)
    (subst (λ l. Replies tells_changes configured limit before k r u after l) (sym past) holds)

-- the documents of a past fit as those of another do
pub stays_as : (before after : Live) (k l m : Kept) → after.schema ≡ before.schema → l ≡ m → (AreFit before.schema k → AreFit before.schema m) → Stays before k after l
stays_as before after k l m schema past fit = record { schema = schema; fit = λ f. subst (AreFit before.schema) (sym past) (fit f) }

-- with the later document where no more than the first groups stay
pub fit_until : (s : Schema) (n : ℕ) (k : Kept) → AreFit s k → Fits s k.base × LaterFits s (until n k.later)
fit_until s n k fit = (fit.0, until_fits s n k.later fit.1)

-- ---- edits

module _ (tells_changes : Bool) (configured : Option Schema) (limit : ℕ) (before : Live) (k : Kept) (e : Edit) (m n : ℕ) (turns : List Turn) where
  -- those of the edit, where they are wanted
  abbrev AreThere : Type 0
  AreThere = tells_changes ≡ true → turns ≡ (turns_of before.schema before.tree e).there

  accepted_so : (later : Tree) → before.is_stale ≡ false → applied before.schema before.tree e ≡ Ok later → m ≡ told_count configured before
      → n ≡ told_count configured (with_tree later before) → AreThere
      → Replies tells_changes configured limit before k (spec.change e) (seen_text configured (seen tells_changes configured before) turns (with_tree later before) m n)
      (with_tree later before) (with_group limit (e ∷ []) k)
  accepted_so later fresh answer counts counts_after there s h =
      answers_as tells_changes before.schema s.tree (seen_text configured (seen tells_changes configured before) turns (with_tree later before) m n)
      (with_tree later before) (with_group limit (e ∷ []) k)
      (change_answered configured before.schema limit s (turns_of before.schema s.tree e) (Ok later)) _
      (ap (change_answered configured before.schema limit s (turns_of before.schema s.tree e)) is) (
        seen_as tells_changes configured before (with_tree later before) turns (turns_of before.schema before.tree e).there m n there
            ∙ change_as tells_changes configured before.schema before.tree s.tree later later m n (turns_of before.schema before.tree e).there
            (turns_of before.schema s.tree e).there h.tree refl (ap (λ t. (turns_of before.schema t e).there) h.tree) counts counts_after,
        record { fresh = fresh; tree = refl; remembers = changes before.schema limit k s e later h.remembers is },
      )
    where
      is : applied before.schema s.tree e ≡ Ok later
      is = ap (λ t. applied before.schema t e) (sym h.tree) ∙ answer

  pub accepted : (after : Live) → before.is_stale ≡ false → applied before.schema before.tree e ≡ Ok after.tree
      → after ≡ with_tree after.tree before → m ≡ told_count configured before → n ≡ told_count configured after → AreThere
      → Replies tells_changes configured limit before k (spec.change e) (seen_text configured (seen tells_changes configured before) turns after m n) after (with_group limit (e ∷ []) k)
  accepted after fresh answer left counts counts_after there =
      subst (λ (live : Live). Replies tells_changes configured limit before k (spec.change e) (seen_text configured (seen tells_changes configured before) turns live m n) live
      (with_group limit (e ∷ []) k)) (sym left)
      (accepted_so after.tree fresh answer counts (counts_after ∙ ap (told_count configured) left) there)

-- ---- taking back

-- the text of going back, told as the answer
fell_text : (tells_changes : Bool) (configured : Option Schema) (before after : Live) (k : Kept) (count : ℕ) (t : Text) (first last : Tree) (turns : List Turn) → before.is_stale ≡ false
    → before.tree ≡ first → IsPlaced before.schema k count after → behind_groups before.schema k.base (take count k.groups) ≡ last
    → turns_behind before.schema count k ≡ turns → Falls tells_changes configured before k count t after
    → (s : Session) → Remembers before.schema k s → t ≡ answer_text tells_changes before.schema first last (change_told configured before.schema turns first last)
fell_text tells_changes configured before after k count t first last turns fresh first_is placed last_is turned falls s r =
    falls fresh r.later
    ∙ (ap (λ (live : Live). change_text tells_changes live.schema before.tree live.tree (told_count configured before) (told_count configured live)
    (difference (turns_behind before.schema count k) (told_in configured before) (told_in configured live))) (placed r.later)
    ∙ change_as tells_changes configured before.schema before.tree first (behind_groups before.schema k.base (take count k.groups)) last (told_count configured before)
    (told_count configured (place_at before.schema k count)) (turns_behind before.schema count k) turns first_is last_is turned refl refl)

pub one_to_undo : (tells_changes : Bool) (configured : Option Schema) (limit : ℕ) (before after : Live) (k : Kept) (t : Text) (count : ℕ) → k.kept ≢ 0 → count ≡ length k.groups - 1
    → before.is_stale ≡ false → IsPlaced before.schema k count after → Falls tells_changes configured before k count t after
    → Replies tells_changes configured limit before k spec.undo t after (less_one count k)
one_to_undo tells_changes configured limit before after k t count some at fresh placed falls s h =
    answers_as tells_changes before.schema s.tree t after (less_one count k) (undone configured before.schema s (back.earlier ∷ back.others)) _
    (ap (undone configured before.schema s) back.remembered) (
      fell_text tells_changes configured before after k count t s.tree back.earlier.tree back.earlier.turns fresh h.tree placed (sym back.tree) (sym turned) falls s h.remembers,
      record {
        fresh = ap (λ (live : Live). live.is_stale) place;
        tree = ap (λ (live : Live). live.tree) place ∙ sym back.tree;
        remembers = subst (λ (schema : Schema). Remembers schema (less_one count k) (undone configured before.schema s (back.earlier ∷ back.others)).1)
            (sym (ap (λ (live : Live). live.schema) place)) held;
      },
    )
  where
    place : after ≡ place_at before.schema k count
    place = placed h.remembers.later

    more : (m : ℕ) × (k.kept ≡ suc m)
    more = some_kept k.kept some

    end : Ends k.groups
    end = has_last k.groups (omega (arith, h.remembers.room, more.1))

    back : TakenBack before.schema k (take count k.groups) end.last s
    back = takes_back before.schema k (take count k.groups) end.last s h.remembers
        (end.is ∙ ap (λ n. take n k.groups ++ end.last ∷ []) (sym at)) more.0 more.1

    turned : back.earlier.turns ≡ turns_behind before.schema count k
    turned = comes_back before.schema k s back.earlier back.others h.remembers back.remembered ∙ ap (λ n. turns_behind before.schema n k) (sym at)

    held : Remembers before.schema (less_one count k) (undone configured before.schema s (back.earlier ∷ back.others)).1
    held = subst (λ n. Remembers before.schema (record k { groups = take count k.groups; kept = k.kept - 1; later = until n k.later }) (undone configured before.schema s (back.earlier ∷ back.others)).1)
        (length-take-le count k.groups (omega (arith, at))) back.held

-- ---- edits together

-- edits together that have begun
begun_there : (o : Option Begun) → is_some o ≡ true → (b : Begun) × (o ≡ Some b)
begun_there None is = absurd cc
begun_there (Some b) is = (b, refl)

module _ (tells_changes : Bool) (configured : Option Schema) (limit : ℕ) (before : Live) (k : Kept) where
  some_begun : (s : Session) → Holds before k s → (since : Since) → k.begun ≡ Some since → (b : Begun) × (s.begun ≡ Some b)
  some_begun s h since is = begun_there s.begun (begun_in_both before.schema k s h.remembers ∙ ap is_some is)

  pub commits_now : (since : Since) → k.begun ≡ Some since → Replies tells_changes configured limit before k spec.commit text.done_text before (joined limit since k)
  commits_now since is s h = let b = some_begun s h since is in
      answers_as tells_changes before.schema s.tree text.done_text before (joined limit since k) (committed limit s (Some b.0)) _ (ap (committed limit s) b.1)
      (refl, record { fresh = h.fresh; tree = h.tree; remembers = commits before.schema limit k s b.0 since h.remembers b.1 is })

  pub falls_now : (after : Live) (t : Text) (since : Since) → k.begun ≡ Some since → before.is_stale ≡ false → IsPlaced before.schema k since.groups after
      → Falls tells_changes configured before k since.groups t after → Replies tells_changes configured limit before k spec.back t after (back_to since k)
  falls_now after t since is fresh placed falls_so s h =
      answers_as tells_changes before.schema s.tree t after (back_to since k) (fallen configured before.schema s (Some b.0)) _ (ap (fallen configured before.schema s) b.1) (
        fell_text tells_changes configured before after k since.groups t s.tree (b.0).tree (turns_to b.0) fresh h.tree placed (sym there)
            (sym (falls_back before.schema k s b.0 since h.remembers b.1 is)) falls_so s h.remembers,
        record {
          fresh = ap (λ (live : Live). live.is_stale) place;
          tree = ap (λ (live : Live). live.tree) place ∙ sym there;
          remembers = subst (λ (schema : Schema). Remembers schema (back_to since k) (fallen configured before.schema s (Some b.0)).1)
              (sym (ap (λ (live : Live). live.schema) place)) (falls before.schema k s b.0 since h.remembers b.1 is);
        },
      )
    where
      b : (b : Begun) × (s.begun ≡ Some b)
      b = some_begun s h since is

      place : after ≡ place_at before.schema k since.groups
      place = placed h.remembers.later

      there : (b.0).tree ≡ behind_groups before.schema k.base (take since.groups k.groups)
      there = back_tree before.schema k s b.0 since h.remembers b.1 is
