-- Augments that are applied one after another.
use Rattle.std.specs.Prelude.{◌≡◌, ◌<◌, ℕ, Bool, true, List, map, length, get_or, replicate}
use Rattle.yspec.specs.Forest.{Forest, end}
use Rattle.yspec.specs.linking.Source.{Source}
use Rattle.yspec.specs.linking.Parts.{Part}
use Rattle.yspec.specs.linking.Augments.{Augment, target_steps, in_turn}
use Rattle.yspec_wide.specs.Language.{Language}
use Rattle.yspec_wide.specs.Expansion.{is_ready_in, applied_in}
use Rattle.ybase_index.specs.Index.{texts_of}
use Rattle.ybase_preorder.specs.declared.slot.Slot.{Slot}
use Rattle.yschema_augment.specs.Arranging.{own_rows, rows_of, hung_view}
use Rattle.yschema_expand.specs.Bodies.{body_of}
use Rattle.yschema_augment.specs.Hanging.{hung, plain}
use Rattle.yschema_expand.specs.NumberedView.{Numbered}
use Rattle.yschema_augment.specs.Picking.{nothing, source_at, is_waiting, left_of, count_left, AllSettled}
use Rattle.yschema_augment.specs.Resolving.{asking_in, Stands, AreApart}
use Rattle.yschema_augment.specs.SearchView.{look_in, AreTexts}
use Rattle.yschema_augment.specs.Settling.{Paths, steps_of, Ranged, Sound}
use Rattle.yschema_augment.specs.declared.applied.Applied.{Applied}
use Rattle.yschema_expand.specs.declared.nodes.ExpandedNode.{ExpandedNode}
use Rattle.yschema_augment.specs.declared.search.Search.{Search}

abbrev pub no_augment : Augment
no_augment = record { source = nothing; given = end }

abbrev pub augment_at : List Augment → ℕ → Augment
augment_at augments j = get_or augments j no_augment

abbrev pub numbers_of : List Augment → List ℕ
numbers_of augments = map (λ a. a.source.number) augments

-- all nodes in their places, with what these augments add, one after another
abbrev pub placed : List ℕ → List (Slot ExpandedNode) → List Augment → List Applied → Forest (Numbered Part)
placed starts slots augments order = hung (map (hung_view starts slots (numbers_of augments)) order) (own_rows starts slots)

-- What is known before any is applied: where the paths lead, what lies where, and that all nodes are found.
pub record Prepared (language : Language) (modules : Forest Source) (augments : List Augment) (slots : List (Slot ExpandedNode)) (starts : List ℕ) (paths : Paths) (s : Search) : Type 0 where
  pub steps : (j : ℕ) → j < length augments → steps_of s paths j ≡ target_steps modules (augment_at augments j)
  pub ranged : Ranged paths s
  pub texts : (j : ℕ) → j < length augments → AreTexts (texts_of s.index) (rows_of starts slots j)
  pub bodies : (j : ℕ) → j < length augments → plain (rows_of starts slots j) ≡ body_of language modules (augment_at augments j)
  pub alone : AreApart (rows_of starts slots)
  pub stands : Stands (source_at slots) (rows_of starts slots) (λ j. is_waiting (replicate (length augments) true) j) (look_in s) (own_rows starts slots)
  pub sound : Sound paths s

-- what is known after some of them
pub record Goes (language : Language) (modules : Forest Source) (augments : List Augment) (slots : List (Slot ExpandedNode)) (starts : List ℕ) (paths : Paths)
    (first : Search) (waits : List Bool) (order : List Applied) (s : Search) : Type 0 where
  pub lengths : length waits ≡ length augments
  pub texts : texts_of s.index ≡ texts_of first.index
  pub stands : Stands (source_at slots) (rows_of starts slots) (is_waiting waits) (look_in s) (placed starts slots augments order)
  pub sound : Sound paths s
  pub settled : AllSettled (asking_in language modules) slots augments paths waits s
  pub so_far : in_turn (is_ready_in language modules) (applied_in language modules) (count_left waits) (plain (placed starts slots augments order)) (left_of waits augments)
      ≡ in_turn (is_ready_in language modules) (applied_in language modules) (length augments) (plain (own_rows starts slots)) augments
