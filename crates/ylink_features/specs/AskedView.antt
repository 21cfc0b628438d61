-- Conditions, one after another, with what they name by numbers.
use Rattle.std.specs.Prelude.{◌||◌, ℕ, Bool, true, false, List, [], ◌∷◌, map, Option, Some, None, option_map, if◌then◌else◌}
use Rattle.std.specs.List.{list_any, flat_map}
use Rattle.std.specs.Option.{option_map_or}
use Rattle.yspec.specs.Forest.{Forest}
use Rattle.yspec.specs.linking.Arguments.{Name}
use Rattle.yspec.specs.linking.Graph.{Edge}
use Rattle.yspec.specs.linking.Scopes.{Placed}
use Rattle.yspec.specs.linking.Source.{Source}
use Rattle.yspec.specs.schema.Breaks.{Break, broken, when}
use Rattle.yspec_wide.specs.Features.{feature_named, names_asked}
use Rattle.yspec_wide.specs.Language.{Language}
use Rattle.yspec_wide.specs.Sources.{is_feature, is_condition}
use Rattle.ybase_graph.specs.Edges.{edge_view}
use Rattle.ylink_grammar.specs.LanguageView.{language_view}
use Rattle.ylink_names.specs.PrefixView.{IsOf}
use Rattle.ylink_features.specs.FeatureView.{AreFeaturesOf}
use Rattle.ylink_features.specs.VersionView.{AreVersionsOf}
use Rattle.ylink_features.specs.declared.asked.Asked.{Asked}
use Rattle.ylink_features.specs.declared.asked.Meaning.{Meaning}

-- what is known of the modules of a set is so
pub record IsMeaning (m : Meaning) (modules : Forest Source) : Type 0 where
  pub prefixes : IsOf m.prefixes.now modules
  pub versions : AreVersionsOf m.versions.now (language_view m.language.now) modules
  pub features : AreFeaturesOf m.features.now (language_view m.language.now) modules

pub record Condition : Type 0 where
  pub module_number : ℕ
  pub line : ℕ
  pub is_lost : Bool
  pub edges : List Edge

abbrev pub asked_view : Asked → Condition
asked_view a = record { module_number = a.«module»; line = a.line; is_lost = a.is_lost; edges = map edge_view a.edges.items }

-- the edges of all of some conditions
abbrev pub edges_in : List Asked → List Edge
edges_in conditions = map edge_view (flat_map (λ (c : Asked). c.edges.items) conditions)

-- ---- features by their numbers

abbrev pub number_meant : Language → Forest Source → ℕ → Name → Option ℕ
number_meant language modules home n = option_map (λ f. f.source.number) (feature_named language modules home n)

abbrev pub in_front : Option ℕ → Option (List ℕ) → Option (List ℕ)
in_front None others = None
in_front (Some n) others = option_map (λ ns. n ∷ ns) others

-- those that some names mean; none where one of them means none
abbrev pub all_named : Language → Forest Source → ℕ → List Name → Option (List ℕ)
all_named language modules home [] = Some []
all_named language modules home (n ∷ ns) = in_front (number_meant language modules home n) (all_named language modules home ns)

-- the edges from a feature, where there is one, to others
abbrev pub edges_to : Option ℕ → List ℕ → List Edge
edges_to above targets = option_map_or (λ a. map (λ t. record { source = a; target = t }) targets) above []

-- ---- what a statement asks

abbrev pub asked_as : Source → Option ℕ → Option (List ℕ) → Condition
asked_as s above None = record { module_number = s.home; line = s.statement.line; is_lost = true; edges = [] }
asked_as s above (Some targets) = record { module_number = s.home; line = s.statement.line; is_lost = false; edges = edges_to above targets }

abbrev pub asked : Language → Forest Source → Option ℕ → Source → Condition
asked language modules above s = asked_as s above (all_named language modules s.home (names_asked language modules s))

-- the number of the feature right above a statement, by its ancestors
abbrev pub above_in : Language → List (Source × Forest Source) → Option ℕ
above_in language [] = None
above_in language (a ∷ ancestors) = if is_feature language a.0 then Some a.0.number else None

abbrev pub asked_by : Language → Forest Source → Option ℕ → Source → List Condition
asked_by language modules above s = if is_condition language s then asked language modules above s ∷ [] else []

abbrev pub asked_of : Language → Forest Source → Placed → List Condition
asked_of language modules p = asked_by language modules (above_in language p.ancestors) p.source

-- ---- what it breaks

abbrev pub lost_break : (Edge → Bool) → Condition → List Break
lost_break circular c = when (c.is_lost || list_any circular c.edges) (broken 22 c.module_number c.line)
