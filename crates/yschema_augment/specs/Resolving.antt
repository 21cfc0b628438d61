-- Which augments find their targets, by the numbers of nodes.
use Rattle.std.specs.Prelude.{◌≡◌, ◌≤◌, ℕ, Bool, true, false}
use Rattle.std.specs.Option.{option_map_or}
use Rattle.yspec.specs.Forest.{Forest}
use Rattle.yspec.specs.linking.Source.{Source}
use Rattle.yspec.specs.linking.Parts.{Part}
use Rattle.yspec.specs.linking.Augments.{Augment, target_steps}
use Rattle.yspec_wide.specs.Language.{Language}
pub use Rattle.yschema_expand.specs.Taking.{Asking, asking_in, may_take, may_hold}
use Rattle.yschema_augment.specs.Hanging.{Hung, times, marked_by}
use Rattle.yschema_expand.specs.NumberedView.{Numbered}
use Rattle.yschema_augment.specs.Searching.{Lookup, target_in, Agrees, AgreesAll}
use Rattle.yschema_augment.specs.Arranging.{taken_for}

-- whether an augment finds a target that may take it
abbrev pub is_found : Lookup → (ℕ → Source) → Language → Forest Source → Augment → Bool
is_found look source language modules a =
    option_map_or (λ n. may_hold (asking_in language modules a.source.home) (source n) a.given) (target_in look (target_steps modules a)) false

-- what it hangs below the node of a number, given its nodes as they lie
abbrev pub hung_by : Augment → Forest (Numbered Part) → ℕ → Hung Part
hung_by a rows target = record { target = target; row = λ l. marked_by a.source.number (taken_for l.label.source rows) }

-- what comes below the node of a statement
abbrev pub row_for : Augment → Forest (Numbered Part) → Source → Forest (Numbered Part)
row_for a rows s = marked_by a.source.number (taken_for s rows)

-- The numbers of nodes stand for one node each, in the forest so far and in what the augments add that aren't applied yet;
-- and what is looked up is what stands there.
pub record Stands (source : ℕ → Source) (rows : ℕ → Forest (Numbered Part)) (left : ℕ → Bool) (look : Lookup) (f : Forest (Numbered Part)) : Type 0 where
  pub few : (n : ℕ) → times n f ≤ 1
  pub apart : (j n : ℕ) → left j ≡ true → 1 ≤ times n f → times n (rows j) ≡ 0
  pub agrees : AgreesAll look source f
  pub bodies : (j : ℕ) → left j ≡ true → Agrees look source (rows j)

-- what augments add is apart from what the others add
pub record AreApart (rows : ℕ → Forest (Numbered Part)) : Type 0 where
  pub few : (j n : ℕ) → times n (rows j) ≤ 1
  pub apart : (i j n : ℕ) → (i ≡ j → ⊥) → 1 ≤ times n (rows i) → times n (rows j) ≡ 0
