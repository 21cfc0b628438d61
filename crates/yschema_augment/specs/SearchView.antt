-- What is found so far, as a lookup by names; and what comes of following a path.
use Rattle.std.specs.Prelude.{◌≡◌, ◌<◌, ◌≤◌, ◌++◌, length, ℕ, suc, true, false, List, [], ◌∷◌, map, take, slice_get, Option, Some, None, option_map, option_and_then, ◌⊎◌, if◌then◌else◌}
use Rattle.std.specs.Option.{option_map_or}
use Rattle.std.specs.Prelude.{Vec}
use Rattle.std.specs.Global.{Global}
use Rattle.std.specs.BTreeSet.{contains, Updates}
use Rattle.std.specs.Ordering.{nat_cmp}
use Rattle.yspec.specs.Forest.{Forest, end, node}
use Rattle.yspec.specs.text.Text.{Text}
use Rattle.yspec.specs.linking.Source.{argument_in}
use Rattle.yspec.specs.linking.Parts.{Part}
use Rattle.yspec.specs.linking.Prefixes.{NodeName}
use Rattle.yspec.specs.linking.Planned.{same_number}
use Rattle.ybase_index.specs.declared.keys.Among.TheVariants.{Children}
use Rattle.ybase_index.specs.declared.keys.Key.{Key}
use Rattle.ybase_index.specs.declared.index.NodeIndex.{NodeIndex}
use Rattle.ybase_index.specs.declared.names.Names.{Names}
use Rattle.ybase_index.specs.Index.{found, texts_of}
use Rattle.ybase_index.specs.Keys.{same_key}
use Rattle.ybase_index.specs.Names.{text_in}
use Rattle.yschema_expand.specs.NumberedView.{Numbered}
use Rattle.yschema_augment.specs.Searching.{Lookup, reached, looked_behind}
use Rattle.yschema_augment.specs.WaitingView.{waiters_at}
use Rattle.yschema_augment.specs.declared.waiting.Waiter.{Waiter}
use Rattle.yschema_augment.specs.declared.search.Search.{Search}
use Rattle.yschema_augment.specs.declared.search.Step.{Step}

abbrev pub look_by : NodeIndex → Lookup
look_by index above name = option_and_then (λ m. found index Children above m name.name) name.module_number

abbrev pub look_in : Search → Lookup
look_in s = look_by s.index

-- the names of steps, by the texts to which they refer
abbrev pub name_by : List Text → Step → NodeName
name_by texts step = record { module_number = step.«module»; name = text_in texts step.text }

abbrev pub names_by : List Text → List Step → List NodeName
names_by texts path = map (name_by texts) path

abbrev pub name_in : Search → Step → NodeName
name_in s step = name_by (texts_of s.index) step

abbrev pub names_in : Search → List Step → List NodeName
names_in s path = names_by (texts_of s.index) path

-- the path of an augment by its place
abbrev pub path_at : List (Vec Step Global) → ℕ → List Step
path_at paths augment = option_map_or (λ p. p.items) (slice_get paths augment) []

-- what a child is waited for by, where a node may have such a name at all
abbrev pub key_by : Names → Option ℕ → Step → Option Key
key_by names above step = option_and_then (λ m. option_map (λ n. record { above = above; «module» = m; name = n })
    (slice_get names.of_nodes.items step.text)) step.«module»

abbrev pub key_for : Search → Option ℕ → Step → Option Key
key_for s = key_by s.names

-- an augment waits for a child; nothing else changes
pub record Waits (above : Option ℕ) (step : Step) (waiter : Waiter) (old new : Search) : Type 0 where
  pub index : new.index ≡ old.index
  pub names : new.names ≡ old.names
  pub arrived : new.arrived ≡ old.arrived
  pub waiting : (key : Key) → waiters_at new.waiting key ≡ (if option_map_or (λ k. same_key k key) (key_for old above step) false
      then waiters_at old.waiting key ++ waiter ∷ [] else waiters_at old.waiting key)

-- an augment has arrived; nothing else changes
pub record Arrives (augment : ℕ) (old new : Search) : Type 0 where
  pub index : new.index ≡ old.index
  pub names : new.names ≡ old.names
  pub waiting : new.waiting ≡ old.waiting
  pub arrived : Updates nat_cmp old.arrived new.arrived augment true

-- the node to which some steps of a path lead, where an augment arrives or lacks the next
abbrev pub Follows : List Step → ℕ → Search → Search → Type 0
Follows path augment old new = (above : Option ℕ) × (count : ℕ)
    × (reached (look_in old) None (take count (names_in old path)) ≡ Some above)
    × (((slice_get path count ≡ None) × Arrives augment old new)
    ⊎ ((step : Step) × (slice_get path count ≡ Some step) × (look_in old above (name_in old step) ≡ None)
    × Waits above step (record { augment = augment; found = count }) old new))

-- the texts of the nodes' numbers are their names
abbrev pub AreTexts : List Text → Forest (Numbered Part) → Type 0
AreTexts texts end = Unit {0}
AreTexts texts (node l below after) =
    ((l.number < length texts) × (text_in texts l.number ≡ argument_in l.label.source)) × AreTexts texts below × AreTexts texts after

-- a row comes behind the children of a node; nothing else changes
pub record Adds (target : ℕ) (added : Forest (Numbered Part)) (old new : Search) : Type 0 where
  pub texts : texts_of new.index ≡ texts_of old.index
  pub names : new.names ≡ old.names
  pub waiting : new.waiting ≡ old.waiting
  pub arrived : new.arrived ≡ old.arrived
  pub look : (above : Option ℕ) (name : NodeName) → look_in new above name ≡ looked_behind (look_in old) target added above name

-- the augments that a node lets go on below its parent, where it is the first of its name there
abbrev pub woken_by : Search → ℕ → Numbered Part → List Waiter
woken_by s target l = if same_number (found s.index Children (Some target) l.label.owner (text_in (texts_of s.index) l.number)) (Some l.number)
    then option_map_or (λ n. waiters_at s.waiting (record { above = Some target; «module» = l.label.owner; name = n }))
    (slice_get s.names.of_nodes.items l.number) [] else []

-- the first that has arrived is taken; nothing else changes
pub record Takes (taken : ℕ) (old new : Search) : Type 0 where
  pub index : new.index ≡ old.index
  pub names : new.names ≡ old.names
  pub waiting : new.waiting ≡ old.waiting
  pub least : (j : ℕ) → contains nat_cmp old.arrived j ≡ true → taken ≤ j
  pub others : (j : ℕ) → (j ≡ taken → ⊥) → contains nat_cmp new.arrived j ≡ contains nat_cmp old.arrived j
  pub fewer : suc (length new.arrived.keys) ≡ length old.arrived.keys

-- none is left
pub record Ends (old new : Search) : Type 0 where
  pub index : new.index ≡ old.index
  pub names : new.names ≡ old.names
  pub waiting : new.waiting ≡ old.waiting
  pub none : old.arrived.keys ≡ []
  pub none_now : new.arrived.keys ≡ []

abbrev pub Pops : Option ℕ → Search → Search → Type 0
Pops None old new = Ends old new
Pops (Some j) old new = Takes j old new
