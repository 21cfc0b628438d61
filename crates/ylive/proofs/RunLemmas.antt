-- Edits one after the other.
use Rattle.std.proofs.Common.{◌≡◌, ℕ, ◌+◌, ◌<◌, Bool, true, false, List, [], ◌∷◌, ◌++◌, length, take, get_or, inl, refl, sym, subst, ap, ap₂, ◌∙◌, arith}
use Rattle.std.specs.Prelude.{if◌then◌else◌}
use Rattle.std.proofs.lemmas.List.{length-map, map_more, map_push, take-map}
use Rattle.yspec.specs.schema.Schema.{Schema}
use Rattle.yspec.specs.document.Document.{Tree}
use Rattle.yspec.specs.edit.EditText.{Edit}
use Rattle.yspec.specs.edit.Editing.{Decision, after, applied, decision, decisions, tree_or}
use Rattle.yspec.specs.edit.Live.{Live, with_tree, made_stale}
use Rattle.yinst_path.specs.declared.edit.Edit as edit
use Rattle.yinst_path.specs.EditView.{edit_view}
use Rattle.ylive.specs.View.{edits_view, outcome_view, outcomes_view}
use Rattle.ylive.specs.Answers.{Stops, StopsAfter, after_edits, answer_to}
use Rattle.ylive.specs.declared.outcome.Outcome.{Outcome}
use Rattle.ylive.specs.declared.outcome.StopCode.{StopCode}
use Rattle.ylive.specs.declared.outcome.StopCode.TheVariants.{E12, E13}

after_one_more : (s : Schema) (t : Tree) (es : List Edit) (e : Edit)
    → after s t (es ++ e ∷ []) ≡ tree_or (applied s (after s t es) e) (after s t es)
after_one_more s t [] e = refl
after_one_more s t (x ∷ es) e = after_one_more s (tree_or (applied s t x) t) es e

decided_one_more : (s : Schema) (t : Tree) (es : List Edit) (e : Edit)
    → decisions s t (es ++ e ∷ []) ≡ decisions s t es ++ decision (applied s (after s t es) e) ∷ []
decided_one_more s t [] e = refl
decided_one_more s t (x ∷ es) e = ap (λ ds. decision (applied s t x) ∷ ds) (decided_one_more s (tree_or (applied s t x) t) es e)

-- so many edits of a document are decided, and this came of them
pub record Decided (start now : Live) (es : List Edit) (told : List Decision) : Type 0 where
  pub stands : now ≡ after_edits es start
  pub came : told ≡ decisions start.schema start.tree es

pub none_decided : (start : Live) → Decided start start [] []
none_decided start = record { stands = refl; came = refl }

-- what an edit leaves of a document that edits led to
abbrev led : Live → Live → Edit → Live
led start now e = with_tree (tree_or (answer_to e now) now.tree) start

pub one_decided : (start now next : Live) (es : List Edit) (e : Edit) (told : List Decision) (d : Decision)
    → Decided start now es told → d ≡ decision (answer_to e now) → next ≡ with_tree (tree_or (answer_to e now) now.tree) now
    → Decided start next (es ++ e ∷ []) (told ++ d ∷ [])
one_decided start now next es e told d so_far is left = record {
  stands = left ∙ (ap (λ (n : Live). with_tree (tree_or (answer_to e n) n.tree) n) so_far.stands
      ∙ ap (λ (t : Tree). with_tree t start) (sym (after_one_more start.schema start.tree es e)));
  came = ap₂ (λ (ds : List Decision) (x : Decision). ds ++ x ∷ []) so_far.came (is ∙ ap (λ (n : Live). decision (answer_to e n)) so_far.stands)
      ∙ sym (decided_one_more start.schema start.tree es e);
}

-- ---- steps of the loop

pub is_fresh : (start : Live) (answer : Bool) → answer ≡ start.is_stale → answer ≡ false → start.is_stale ≡ false
is_fresh start answer is fresh = sym is ∙ fresh

pub still_fresh : (now next : Live) (t : Tree) → next ≡ with_tree t now → now.is_stale ≡ false → next.is_stale ≡ false
still_fresh now next t left fresh = ap (λ (n : Live). n.is_stale) left ∙ fresh

pub pushed : (before later : List Outcome) (o : Outcome) (room : Bool) → later ≡ (if room then before ++ o ∷ [] else before) → room ≡ true
    → outcomes_view later ≡ outcomes_view before ++ outcome_view o ∷ []
pushed before later o true is ok = ap outcomes_view is ∙ map_push outcome_view before o
pushed before later o false is ok = absurd cc

pub one_longer : (before later i : ℕ) (room : Bool) → later ≡ (if room then before + 1 else before) → room ≡ true → before ≡ i → later ≡ i + 1
one_longer before later i true is ok counted = is ∙ ap (λ n. n + 1) counted
one_longer before later i false is ok counted = absurd cc

-- with the edit at a place decided, those up to the next place are
pub decided_to_next : (start now next : Live) (xs : List edit.Edit) (i : ℕ) (x : edit.Edit) (told after_it : List Decision) (d : Decision)
    → i < length xs → x ≡ get_or xs i x → Decided start now (edits_view (take i xs)) told
    → d ≡ decision (answer_to (edit_view x) now) → next ≡ with_tree (tree_or (answer_to (edit_view x) now) now.tree) now
    → after_it ≡ told ++ d ∷ [] → Decided start next (edits_view (take (i + 1) xs)) after_it
decided_to_next start now next xs i x told after_it d within at so_far is left pushed_on =
    subst (λ es. Decided start next es after_it) (sym (map_more edit_view xs i x within ∙ ap (λ y. edits_view (take i xs) ++ edit_view y ∷ []) (sym at)))
    (subst (Decided start next (edits_view (take i xs) ++ edit_view x ∷ [])) (sym pushed_on)
    (one_decided start now next (edits_view (take i xs)) (edit_view x) told d so_far is left))

-- where memory runs out, what was decided stands
pub stopped : (code : StopCode) (done count i : ℕ) (start now left : Live) (xs : List edit.Edit) (told : List Decision)
    → code ≡ E12 → done ≡ count → count ≡ i → i < length xs → start.is_stale ≡ false
    → Decided start now (edits_view (take i xs)) told → left ≡ made_stale now → Stops code done start (edits_view xs) left
stopped E13 done count i start now left xs told is same at within fresh so_far stale = absurd cc
stopped E12 done count i start now left xs told is same at within fresh so_far stale =
    let place : done ≡ i = same ∙ at in (
      fresh,
      omega (arith, place, length-map xs edit_view, within),
      stale ∙ ap made_stale (so_far.stands ∙ ap (λ es. after_edits es start) (sym (ap (λ n. take n (edits_view xs)) place ∙ take-map edit_view i xs))),
    )

-- ---- how often the store was lent

-- where memory runs out, it was lent once more than there are edits decided
pub tried_next : (code : StopCode) (done count i before now after : ℕ) → code ≡ E12 → done ≡ count → count ≡ i → now ≡ before + i → after ≡ now + 1
    → StopsAfter code done before after
tried_next E13 done count i before now after is same at so_far more = absurd cc
tried_next E12 done count i before now after is same at so_far more = inl (omega (arith, same, at, so_far, more))
