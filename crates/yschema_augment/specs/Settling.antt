-- What is known of each augment between two applications: it has arrived, or it lacks a child, or its target can't take it.
use Rattle.std.specs.Prelude.{◌≡◌, ◌<◌, ◌⊎◌, ℕ, Bool, true, List, [], ◌∷◌, length, take, slice_get, Option, Some, None}
use Rattle.std.specs.BTreeSet.{contains}
use Rattle.std.specs.Ordering.{nat_cmp}
use Rattle.std.specs.Global.{Global}
use Rattle.std.specs.Prelude.{Vec}
use Rattle.yspec.specs.linking.Prefixes.{NodeName}
use Rattle.ybase_index.specs.declared.keys.Key.{Key}
use Rattle.ybase_index.specs.Index.{texts_of}
use Rattle.yspec.specs.Forest.{Forest}
use Rattle.yspec.specs.linking.Parts.{Part}
use Rattle.yschema_expand.specs.NumberedView.{Numbered}
use Rattle.yschema_augment.specs.Searching.{reached, looked_behind}
use Rattle.yschema_augment.specs.SearchView.{look_in, name_in, names_in, path_at, key_for}
use Rattle.yschema_augment.specs.WaitingView.{waiters_at}
use Rattle.yschema_augment.specs.declared.waiting.Waiter.{Waiter}
use Rattle.yschema_augment.specs.declared.search.Search.{Search}
use Rattle.yschema_augment.specs.declared.search.Step.{Step}

-- one of a list
abbrev pub Among : {A : Type 0} → A → List A → Type 0
Among x [] = ⊥
Among x (y ∷ ys) = (y ≡ x) ⊎ Among x ys

abbrev pub Paths : Type 0
Paths = List (Vec Step Global)

-- the path of an augment by its place
abbrev pub steps_of : Search → Paths → ℕ → List NodeName
steps_of s paths j = names_in s (path_at paths j)

-- where its steps lead
abbrev pub leads : Search → Paths → ℕ → Option (Option ℕ)
leads s paths j = reached (look_in s) None (steps_of s paths j)

-- a waiter stands where so many steps of its path lead
abbrev pub StandsAt : Search → Paths → Option ℕ → Waiter → Type 0
StandsAt s paths above w = (w.augment < length paths) × (reached (look_in s) None (take w.found (steps_of s paths w.augment)) ≡ Some above)

-- every augment that waits waits where so many of its steps lead
abbrev pub Sound : Paths → Search → Type 0
Sound paths s = (key : Key) (w : Waiter) → Among w (waiters_at s.waiting key) → StandsAt s paths key.above w

-- an augment waits for the child that it lacks
abbrev pub Lacks : Paths → Search → ℕ → Type 0
Lacks paths s j = (above : Option ℕ) × (count : ℕ) × (step : Step) × (reached (look_in s) None (take count (steps_of s paths j)) ≡ Some above)
    × (slice_get (path_at paths j) count ≡ Some step) × (look_in s above (name_in s step) ≡ None)
    × ((key : Key) → key_for s above step ≡ Some key → Among (record { augment = j; found = count }) (waiters_at s.waiting key))

abbrev pub has_arrived : Search → ℕ → Bool
has_arrived s j = contains nat_cmp s.arrived j

-- given which targets can't take an augment
abbrev pub Settled : (ℕ → Option ℕ → Bool) → Paths → Search → ℕ → Type 0
Settled refused paths s j = ((p : Option ℕ) × (leads s paths j ≡ Some p) × ((has_arrived s j ≡ true) ⊎ (refused j p ≡ true)))
    ⊎ ((leads s paths j ≡ None) × Lacks paths s j)

-- What comes of some that go on: they are settled, and what was settled is.
pub record Moves (paths : Paths) (woken : List Waiter) (old new : Search) : Type 0 where
  pub index : new.index ≡ old.index
  pub names : new.names ≡ old.names
  pub sound : Sound paths old → Sound paths new
  pub kept : (refused : ℕ → Option ℕ → Bool) (j : ℕ) → Settled refused paths old j → Settled refused paths new j
  pub settled : (refused : ℕ → Option ℕ → Bool) (w : Waiter) → Among w woken → Settled refused paths new w.augment
  pub arrived : (j : ℕ) → has_arrived new j ≡ true → (has_arrived old j ≡ true) ⊎ ((w : Waiter) × Among w woken × (w.augment ≡ j))

-- the texts of the steps are known
abbrev pub Ranged : Paths → Search → Type 0
Ranged paths s = (j n : ℕ) (step : Step) → slice_get (path_at paths j) n ≡ Some step → step.text < length (texts_of s.index)

-- a row comes below a node, and those go on that lacked some of it
pub record Hangs (paths : Paths) (target : ℕ) (added : Forest (Numbered Part)) (old new : Search) : Type 0 where
  pub texts : texts_of new.index ≡ texts_of old.index
  pub look : (above : Option ℕ) (name : NodeName) → look_in new above name ≡ looked_behind (look_in old) target added above name
  pub sound : Sound paths new
  pub kept : (refused : ℕ → Option ℕ → Bool) (j : ℕ) → Settled refused paths old j → Settled refused paths new j
