-- What is told of the faults of a document behind a change.
use Rattle.std.proofs.Common.{◌≡◌, ℕ, ◌++◌, Bool, true, false, List, length, Option, Some, None, refl, sym, ap, ap₂, subst, ◌∙◌}
use Rattle.std.specs.Prelude.{IfSome, drop, option_map}
use Rattle.std.specs.List.{flat_map}
use Rattle.std.proofs.lemmas.Option.{same_Some}
use Rattle.yspec.specs.text.Text.{Text}
use Rattle.yspec.specs.schema.Schema.{Schema}
use Rattle.yspec.specs.document.Document.{Tree}
use Rattle.yspec.specs.document.Fault.{Fault}
use Rattle.yspec.specs.document.Faults.{faults_of}
use Rattle.yspec.specs.document.Fitting.{Fits}
use Rattle.yspec.specs.document.Sorting.{IsSorted}
use Rattle.yspec.specs.document.StateData.{configuration_tree, state_faults}
use Rattle.yspec.specs.schema.Configuration.{configuration_schema}
use Rattle.yspec.proofs.DocumentProofs.SortingLemmas.{in_order}
use Rattle.yspec.specs.edit.Live.{Live}
use Rattle.yspec_session.specs.Carrying.{Turn, difference}
use Rattle.yspec_session.specs.Session.{change_told, told_of}
use Rattle.yspec_session.specs.Remembering.{Kept, turns_back, turns_behind}
use Rattle.ysay_session.specs.AnswerText.{changes_text}
use Rattle.yinst_tree.specs.View.{tree_view}
use Rattle.ycheck_config.proofs.ConfigurationLemmas.{left_fits}
use Rattle.yapp_session.specs.Answered.{IsPlaced, answer_text, change_text, told_count, told_in}
use Rattle.yapp_session.specs.Came.{Falls, earlier_view, seen, seen_text}
use Rattle.yapp_session.specs.declared.telling.Earlier.{Earlier}

-- the state data, and what is wrong with the configuration of a document by its copy
pub told_both : (live : Live) (x s : Schema) (t u : Tree) (found others all : List Fault) → s ≡ live.schema → t ≡ live.tree → Fits live.schema t
    → u ≡ configuration_tree s t → found ≡ state_faults s t → (IsSorted u → others ≡ faults_of x u) → all ≡ found ++ others → all ≡ told_in (Some x) live
told_both live x s t u found others all schema copy fits left state rest both =
    both ∙ (ap₂ (λ (xs ys : List Fault). xs ++ ys) state (rest sorted)
    ∙ (ap (λ (v : Tree). state_faults s t ++ faults_of x v) left
    ∙ ap₂ (λ (r : Schema) (v : Tree). state_faults r v ++ faults_of x (configuration_tree r v)) schema copy))
  where
    there : Tree
    there = configuration_tree live.schema t

    sorted : IsSorted u
    sorted = subst IsSorted (sym (left ∙ ap (λ (r : Schema). configuration_tree r t) schema))
        (in_order (configuration_schema live.schema) there (left_fits live.schema (configuration_schema live.schema) t there refl refl fits))

-- by turns that are the same where they are wanted
pub seen_as : (tells_changes : Bool) (configured : Option Schema) (before after : Live) (turns others : List Turn) (m n : ℕ) → (tells_changes ≡ true → turns ≡ others)
    → seen_text configured (seen tells_changes configured before) turns after m n
    ≡ change_text tells_changes after.schema before.tree after.tree m n (difference others (told_in configured before) (told_in configured after))
seen_as true configured before after turns others m n same =
    ap (λ ts. changes_text after.schema before.tree after.tree m n (difference ts (told_in configured before) (told_in configured after))) (same refl)
seen_as false configured before after turns others m n same = refl

-- the text of a change is that of its answer, by equal documents and turns
pub change_as : (tells_changes : Bool) (configured : Option Schema) (schema : Schema) (first second later last : Tree) (m n : ℕ) (turns others : List Turn) → first ≡ second → later ≡ last
    → turns ≡ others → m ≡ length (told_of configured schema first) → n ≡ length (told_of configured schema later)
    → change_text tells_changes schema first later m n (difference turns (told_of configured schema first) (told_of configured schema later))
    ≡ answer_text tells_changes schema second last (change_told configured schema others second last)
change_as tells_changes configured schema first second later last m n turns others before after turned counts counts_after =
    ap₂ (λ (m n : ℕ). change_text tells_changes schema first later m n (difference turns (told_of configured schema first) (told_of configured schema later))) counts counts_after
    ∙ (ap₂ (λ (t u : Tree). change_text tells_changes schema t u (length (told_of configured schema t)) (length (told_of configured schema u))
    (difference turns (told_of configured schema t) (told_of configured schema u))) before after
    ∙ ap (λ (ts : List Turn). change_text tells_changes schema second last (length (told_of configured schema second)) (length (told_of configured schema last))
    (difference ts (told_of configured schema second) (told_of configured schema last))) turned)

-- the turns from a document that is kept are those from the one that was seen
pub there_as : (tells_changes : Bool) (configured : Option Schema) (before : Live) (earlier : Option Earlier) (f : Tree → List Turn) (turns : List Turn)
    → option_map earlier_view earlier ≡ seen tells_changes configured before → IfSome earlier (λ e. turns ≡ f (tree_view e.tree)) → tells_changes ≡ true
    → turns ≡ f before.tree
there_as true configured before None f turns is so wanted = absurd cc
there_as true configured before (Some e) f turns is so wanted =
    so ∙ ap f (ap (λ (p : Tree × List Fault). p.0) (same_Some (earlier_view e) (before.tree, told_in configured before) is))
there_as false configured before earlier f turns is so wanted = absurd cc

-- of a live document that was put to a place of its past
pub fell : (tells_changes : Bool) (configured : Option Schema) (before placed after : Live) (k : Kept) (count : ℕ) (o : Option (Tree × List Fault)) (turns : List Turn) (m n : ℕ) (t : Text)
    → o ≡ seen tells_changes configured before
    → (tells_changes ≡ true → turns ≡ turns_back before.schema placed.tree (flat_map (λ g. g) (drop count k.groups)))
    → IsPlaced before.schema k count placed → IsPlaced before.schema k count after → (before.is_stale ≡ false → m ≡ told_count configured before)
    → (after.is_stale ≡ false → n ≡ told_count configured after) → t ≡ seen_text configured o turns after m n → Falls tells_changes configured before k count t after
fell tells_changes configured before placed after k count o turns m n t seen_is turned there there_again counts counts_after is fresh leads =
    is ∙ (ap (λ o. seen_text configured o turns after m n) seen_is
    ∙ (seen_as tells_changes configured before after turns (turns_behind before.schema count k) m n
    (λ wanted. turned wanted ∙ ap (λ (live : Live). turns_back before.schema live.tree (flat_map (λ g. g) (drop count k.groups))) (there leads))
    ∙ ap₂ (λ (m n : ℕ). change_text tells_changes after.schema before.tree after.tree m n
    (difference (turns_behind before.schema count k) (told_in configured before) (told_in configured after))) (counts fresh)
    (counts_after (ap (λ (live : Live). live.is_stale) (there_again leads)))))
