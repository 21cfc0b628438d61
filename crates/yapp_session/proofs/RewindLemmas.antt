-- Edits of groups, applied group by group.
use Rattle.std.proofs.Common.{◌≡◌, Bool, true, false, ℕ, ◌+◌, ◌<◌, List, ◌∷◌, Vec, length, drop, take, Option, Some, None, sym, ap, ap₂, subst, ◌∙◌}
use Rattle.std.specs.Prelude.{get_or, if◌then◌else◌, nat_le}
use Rattle.std.proofs.lemmas.Option.{same_Some}
use Rattle.std.proofs.lemmas.List.{at_drop_more}
use Rattle.yspec.specs.schema.Schema.{Schema}
use Rattle.yspec.specs.document.Document.{Tree}
use Rattle.yspec.specs.document.Fitting.{Fits}
use Rattle.yspec.specs.edit.Editing.{after}
use Rattle.yspec.specs.edit.EditText.{Edit}
use Rattle.yspec.specs.edit.Live.{Live, opened, with_tree}
use Rattle.yspec_session.specs.Remembering.{Kept, Later, Leads, behind_groups, until, way_from, way_to}
use Rattle.yspec_session.proofs.RememberingLemmas.{ways}
use Rattle.yinst_path.specs.declared.edit.Edit as rust
use Rattle.ylive.specs.Answers.{after_edits}
use Rattle.yapp_session.specs.View.{group_view, groups_view}
use Rattle.yapp_session.specs.Kept.{LaterFits}
use Rattle.yapp_session.specs.Answered.{IsPlaced, place_at}

module _ {A : Type 0} (first : Live) (gs : List (Vec rust.Edit A)) (i : ℕ) (g : Vec rust.Edit A) (within : i < length gs) (is : g ≡ get_or gs i g) where
  one_step : (before : Live) → before.schema ≡ first.schema
      → behind_groups first.schema (after before.schema before.tree (group_view g)) (groups_view (drop (i + 1) gs))
      ≡ behind_groups first.schema before.tree (groups_view (drop i gs))
  one_step before schema =
      ap (λ (s : Schema). behind_groups first.schema (after s before.tree (group_view g)) (groups_view (drop (i + 1) gs))) schema
      ∙ (ap (λ h. behind_groups first.schema before.tree (groups_view (h ∷ drop (i + 1) gs))) is
      ∙ sym (at_drop_more (λ hs. behind_groups first.schema before.tree (groups_view hs)) gs i g within))

  pub one_run : (before now whole : Live) → before.schema ≡ first.schema → now ≡ after_edits (group_view g) before
      → with_tree (behind_groups first.schema before.tree (groups_view (drop i gs))) before ≡ whole
      → with_tree (behind_groups first.schema now.tree (groups_view (drop (i + 1) gs))) now ≡ whole
  one_run before now whole schema ran so_far =
      ap (λ (l : Live). with_tree (behind_groups first.schema l.tree (groups_view (drop (i + 1) gs))) l) ran
      ∙ (ap (λ (t : Tree). with_tree t before) (one_step before schema) ∙ so_far)

-- a document that is opened anew, with groups of edits behind it
pub run_anew : (s : Schema) (reopened now : Live) (t u : Tree) (gs : List (List Edit)) → reopened ≡ opened s u → u ≡ t
    → now ≡ with_tree (behind_groups reopened.schema reopened.tree gs) reopened → now ≡ opened s (behind_groups s t gs)
run_anew s reopened now t u gs is copied ran =
    ran ∙ (ap (λ (l : Live). with_tree (behind_groups l.schema l.tree gs) l) is ∙ ap (λ t. opened s (behind_groups s t gs)) copied)

-- from the document and by the groups that lead to a place
pub placed : (s : Schema) (k : Kept) (n : ℕ) (way : Tree × List (List Edit)) (now : Live) → way ≡ way_to n k → now ≡ opened s (behind_groups s way.0 way.1)
    → Leads s k.base k.groups k.later → now ≡ place_at s k n
placed s k n way now is ran leads =
    ran ∙ (ap (λ (w : Tree × List (List Edit)). opened s (behind_groups s w.0 w.1)) is ∙ ap (opened s) (ways s n k leads))

-- the way from the base, where no later document stands before the place
pub from_base : (k : Kept) (n : ℕ) (t : Tree) (gs : List (List Edit)) → None ≡ until n k.later → t ≡ k.base → gs ≡ take n k.groups → (t, gs) ≡ way_to n k
from_base k n t gs none base led =
    ap₂ (λ (t : Tree) (gs : List (List Edit)). (t, gs)) base led ∙ ap (way_from k.base (take n k.groups)) none

pub from_later : (k : Kept) (n : ℕ) (l : Later) (led gs : List (List Edit)) → Some l ≡ until n k.later → led ≡ take n k.groups → gs ≡ drop l.groups led
    → (l.tree, gs) ≡ way_to n k
from_later k n l led gs some is cut =
    ap (λ (gs : List (List Edit)). (l.tree, gs)) (cut ∙ ap (drop l.groups) is) ∙ ap (way_from k.base (take n k.groups)) some

-- the later document fits, where it is wanted
pub later_fits : (s : Schema) (n : ℕ) (o : Option Later) (l : Later) → Some l ≡ until n o → LaterFits s o → Fits s l.tree
later_fits s n None l some fits = absurd cc
later_fits s n (Some m) l some fits = by (nat_le m.groups n) some
  where
    by : (b : Bool) → Some l ≡ (if b then Some m else None) → Fits s l.tree
    by true e = subst (λ (l : Later). Fits s l.tree) (sym (same_Some l m e)) fits
    by false e = absurd cc

pub until_fits : (s : Schema) (n : ℕ) (o : Option Later) → LaterFits s o → LaterFits s (until n o)
until_fits s n None fits = tt
until_fits s n (Some m) fits = by (nat_le m.groups n)
  where
    by : (b : Bool) → LaterFits s (if b then Some m else None)
    by true = fits
    by false = tt

-- put there once more
pub placed_again : (before placed after : Live) (k : Kept) (n : ℕ) → placed.schema ≡ before.schema → IsPlaced before.schema k n placed
    → (IsPlaced placed.schema k n placed → IsPlaced placed.schema k n after) → IsPlaced before.schema k n after
placed_again before placed after k n schema there again = subst (λ (s : Schema). IsPlaced s k n after) schema
    (again (subst (λ (s : Schema). IsPlaced s k n placed) (sym schema) there))
