-- Which augment is applied next: the first that waits and whose target may take it.
use Rattle.std.specs.Prelude.{◌≡◌, ◌<◌, ◌+◌, if◌then◌else◌, ℕ, Bool, true, false, not, List, [], ◌∷◌, Option, Some, None, get_or, slice_get}
use Rattle.std.specs.Option.{option_map_or}
use Rattle.yspec.specs.Forest.{Forest, end}
use Rattle.yspec.specs.linking.Keyword.{leaf_word}
use Rattle.yspec.specs.linking.Source.{Source}
use Rattle.yspec.specs.linking.Augments.{Augment}
use Rattle.ybase_preorder.specs.declared.slot.Slot.{Slot}
use Rattle.yschema_expand.specs.NodeView.{part_view}
use Rattle.yschema_expand.specs.NamedView.{language_of, modules_of}
use Rattle.yschema_expand.specs.declared.named.Named.{Named}
use Rattle.yschema_augment.specs.Resolving.{Asking, asking_in, may_hold}
use Rattle.yschema_augment.specs.Searching.{target_in}
use Rattle.yschema_augment.specs.SearchView.{look_in}
use Rattle.yschema_augment.specs.Settling.{Paths, steps_of, Settled}
use Rattle.yschema_expand.specs.declared.nodes.ExpandedNode.{ExpandedNode}
use Rattle.yschema_augment.specs.declared.applied.Applied.{Applied}
use Rattle.yschema_augment.specs.declared.search.Search.{Search}

-- no statement
abbrev pub nothing : Source
nothing = record { keyword = leaf_word; statement = record { keyword = []; argument = None; line = 0 }; number = 0; home = 0; may_refer = false }

-- that of the node of a number
abbrev pub source_at : List (Slot ExpandedNode) → ℕ → Source
source_at slots number = option_map_or (λ r. (part_view r.label).source) (slice_get slots number) nothing

-- what an augment states, by its place
abbrev pub given_at : List Augment → ℕ → Forest Source
given_at augments j = option_map_or (λ a. a.given) (slice_get augments j) end

-- and in which module
abbrev pub home_at : List Augment → ℕ → ℕ
home_at augments j = option_map_or (λ a. a.source.home) (slice_get augments j) 0

-- how an augment is asked in the module of a number
abbrev pub askings_of : Named → ℕ → Asking
askings_of n = asking_in (language_of n) (modules_of n)

abbrev pub holds_at : (ℕ → Asking) → List (Slot ExpandedNode) → List Augment → ℕ → ℕ → Bool
holds_at askings slots augments target j = may_hold (askings (home_at augments j)) (source_at slots target) (given_at augments j)

-- whether the node to which its steps lead can't take it
abbrev pub refused_by : (ℕ → Asking) → List (Slot ExpandedNode) → List Augment → ℕ → Option ℕ → Bool
refused_by askings slots augments j p = not (option_map_or (λ n. holds_at askings slots augments n j) p false)

abbrev pub is_waiting : List Bool → ℕ → Bool
is_waiting waits j = get_or waits j false

-- whether its target is found and may take it
abbrev pub found_at : (ℕ → Asking) → List (Slot ExpandedNode) → List Augment → Paths → Search → ℕ → Bool
found_at askings slots augments paths s j =
    option_map_or (λ n. holds_at askings slots augments n j) (target_in (look_in s) (steps_of s paths j)) false

abbrev pub AllSettled : (ℕ → Asking) → List (Slot ExpandedNode) → List Augment → Paths → List Bool → Search → Type 0
AllSettled askings slots augments paths waits s = (j : ℕ) → is_waiting waits j ≡ true → Settled (refused_by askings slots augments) paths s j

-- the first that waits and whose target may take it
abbrev pub IsNext : (ℕ → Asking) → List (Slot ExpandedNode) → List Augment → Paths → List Bool → Search → Applied → Type 0
IsNext askings slots augments paths waits s a = (is_waiting waits a.augment ≡ true)
    × (target_in (look_in s) (steps_of s paths a.augment) ≡ Some a.target) × (holds_at askings slots augments a.target a.augment ≡ true)
    × ((i : ℕ) → i < a.augment → is_waiting waits i ≡ true → found_at askings slots augments paths s i ≡ false)

abbrev pub NoneIs : (ℕ → Asking) → List (Slot ExpandedNode) → List Augment → Paths → List Bool → Search → Type 0
NoneIs askings slots augments paths waits s = (i : ℕ) → is_waiting waits i ≡ true → found_at askings slots augments paths s i ≡ false

-- some that have arrived are passed over; nothing else changes
pub record Passes (old new : Search) : Type 0 where
  pub index : new.index ≡ old.index
  pub names : new.names ≡ old.names
  pub waiting : new.waiting ≡ old.waiting

-- what comes of picking the next
abbrev pub Picks : (ℕ → Asking) → List (Slot ExpandedNode) → List Augment → Paths → List Bool → Option Applied → Search → Search → Type 0
Picks askings slots augments paths waits None old new = Passes old new × NoneIs askings slots augments paths waits new
Picks askings slots augments paths waits (Some a) old new = Passes old new × IsNext askings slots augments paths waits new a
    × ((j : ℕ) → is_waiting waits j ≡ true → (j ≡ a.augment → ⊥) → Settled (refused_by askings slots augments) paths new j)

-- ---- those that wait

-- the augments that wait, in order, and how many they are
abbrev pub left_of : List Bool → List Augment → List Augment
left_of [] augments = []
left_of (waits ∷ others) [] = []
left_of (waits ∷ others) (a ∷ augments) = if waits then a ∷ left_of others augments else left_of others augments

abbrev pub count_left : List Bool → ℕ
count_left [] = 0
count_left (waits ∷ others) = (if waits then 1 else 0) + count_left others
