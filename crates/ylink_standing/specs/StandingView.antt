-- Features of a set: where they stand, an order of them, and what tables tell of them by their numbers.
use Rattle.std.specs.Prelude.{ℕ, ◌≡◌, ◌<◌, ◌≤◌, ◌&&◌, Bool, true, List, [], Option, length, get_or, if◌then◌else◌}
use Rattle.std.specs.List.{Contains}
use Rattle.yspec.specs.Forest.{Forest, size}
use Rattle.yspec.specs.linking.Scopes.{Placed, statements_of}
use Rattle.yspec.specs.linking.Source.{Source}
use Rattle.yspec_wide.specs.Features.{Feature, is_on, is_chosen_feature, condition_holds, condition_breaks, feature_edges}
use Rattle.yspec_wide.specs.Language.{Language}
use Rattle.yspec_wide.specs.Sources.{is_feature, is_condition}
use Rattle.ybase_graph.specs.Reaching.{HasEdge, StandsBefore}
use Rattle.ylink_standing.specs.ConditionView.{all_asked, holds_at, is_in}
use Rattle.ylink_standing.specs.declared.condition.Condition.{Condition}
use Rattle.ylink_standing.specs.declared.standing.FeaturesOn.{FeaturesOn}

-- a statement as a `feature`
abbrev pub feature_at : Placed → Feature
feature_at p = record { source = p.source; below = p.below }

-- what a table tells of a feature, by its number
abbrev pub told : (ℕ → Bool) → Feature → Bool
told table f = table f.source.number

-- the table tells of each feature of a set whether it is on
abbrev pub TellsOn : Language → Forest Source → (ℕ → Bool) → Type 0
TellsOn language modules table = (p : Placed) → Contains (statements_of modules) p → is_feature language p.source ≡ true
    → table p.source.number ≡ is_on language modules (feature_at p)

-- All statements stand there, each feature behind those that its conditions name.
pub record AreInOrder (nodes : List ℕ) (language : Language) (modules : Forest Source) : Type 0 where
  pub all : (p : Placed) → Contains (statements_of modules) p → (i : ℕ) × (i < length nodes) × (get_or nodes i 0 ≡ p.source.number)
  pub behind : (a b : ℕ) → HasEdge (feature_edges language modules) a b → StandsBefore nodes b a
  pub count : length nodes ≤ size modules

-- the table has what each condition of a set asks, and asks nothing of other statements
abbrev pub AreAsked : List (Option Condition) → Language → Forest Source → Type 0
AreAsked asked language modules = (p : Placed) → Contains (statements_of modules) p → (on : ℕ → Bool)
    → holds_at asked on p.source.number ≡ (if is_condition language p.source then condition_holds language modules (told on) p.source else true)

-- the table tells of each statement of a set whether it is a feature that is chosen
abbrev pub AreChosen : List Bool → Language → Forest Source → Type 0
AreChosen chosen language modules = (p : Placed) → Contains (statements_of modules) p
    → is_in chosen p.source.number ≡ (is_feature language p.source && is_chosen_feature language modules (feature_at p))

-- what is known of a set before it is told which of its features are on
pub record AreKnown (asked : List (Option Condition)) (chosen : List Bool) (nodes : List ℕ) (language : Language) (modules : Forest Source) : Type 0 where
  pub asked_is : AreAsked asked language modules
  pub chosen_is : AreChosen chosen language modules
  pub order : AreInOrder nodes language modules
  pub none : condition_breaks language modules ≡ []

-- what is held tells of each feature of a set whether it is on, and what each condition asks
pub record IsOf (f : FeaturesOn) (language : Language) (modules : Forest Source) : Type 0 where
  pub tells : TellsOn language modules (is_in f.on.items)
  pub asked : AreAsked f.conditions.items language modules

-- whether all that a row asks holds, by what is held
abbrev pub row_stands : FeaturesOn → Forest Source → Bool
row_stands f below = all_asked f.conditions.items (is_in f.on.items) below

-- a row that stands below a statement of a set
abbrev pub IsRowOf : Forest Source → Forest Source → Type 0
IsRowOf modules below = (p : Placed) × Contains (statements_of modules) p × (p.below ≡ below)
