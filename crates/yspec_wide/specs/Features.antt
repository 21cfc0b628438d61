-- Features: which a name means, which are on, and what is told of those that aren't found or lead to themselves (RFC 7950,
-- 7.20.1 and 7.20.2). Prefixes in what the language has besides the core.
use Rattle.std.specs.Prelude.{ℕ, zero, suc, ◌&&◌, ◌||◌, ◌++◌, Bool, false, not, List, [], ◌∷◌, find, map, Option, Some, None, is_some, option_and_then, unwrap_or, if◌then◌else◌}
use Rattle.std.specs.List.{list_any, list_all, flat_map, filter_map}
use Rattle.std.specs.Option.{option_map_or}
use Rattle.yspec.specs.Forest.{Forest, end, node, size}
use Rattle.yspec.specs.text.Text.{Text, is_text}
use Rattle.yspec.specs.linking.Arguments.{Name, relative_path_of}
use Rattle.yspec.specs.linking.Source.{Source, argument_in}
use Rattle.yspec.specs.linking.Imports.{body_at, module_meant}
use Rattle.yspec.specs.linking.Identities.{module_name}
use Rattle.yspec.specs.linking.Prefixes.{is_unknown_prefix}
use Rattle.yspec.specs.linking.Scopes.{Placed, statements_of}
use Rattle.yspec.specs.linking.Graph.{Edge, is_on_circle}
use Rattle.yspec.specs.schema.Breaks.{Break, broken, when}
use Rattle.yspec_wide.specs.Language.{Language, is_chosen, version_of}
use Rattle.yspec_wide.specs.Expressions.{Expression, holds, names_in, expression_of}
use Rattle.yspec_wide.specs.Sources.{is_augment_in, is_feature, is_condition, conditions_in}

-- a `feature` with what stands below it
pub record Feature : Type 0 where
  pub source : Source
  pub below : Forest Source

abbrev pub is_named : Text → Feature → Bool
is_named name f = is_text (argument_in f.source) name

module _ (language : Language) where
  -- ---- what a name means

  abbrev pub features_in : Forest Source → List Feature
  features_in end = []
  features_in (node s below after) =
      if is_feature language s then record { source = s; below = below } ∷ features_in after else features_in after

  -- A name without a prefix is of its own module.
  abbrev pub feature_named : Forest Source → ℕ → Name → Option Feature
  feature_named modules home n = option_and_then (λ m. find (is_named n.identifier) (features_in (body_at modules m)))
      (option_map_or (module_meant modules home) n.prefix (Some home))

  -- ---- conditions

  -- what an `if-feature` asks, by the version of its own module
  abbrev pub condition_of : Forest Source → Source → Option Expression
  condition_of modules s = expression_of (version_of language modules s.home) (argument_in s)

  abbrev pub condition_holds : Forest Source → (Feature → Bool) → Source → Bool
  condition_holds modules on s =
      option_map_or (holds (λ n. option_map_or on (feature_named modules s.home n) false)) (condition_of modules s) false

  -- every `if-feature` of a row holds
  abbrev pub all_hold : Forest Source → (Feature → Bool) → Forest Source → Bool
  all_hold modules on below = list_all (condition_holds modules on) (conditions_in language below)

  -- ---- features that are on: those that are chosen and whose own conditions hold

  abbrev pub is_chosen_feature : Forest Source → Feature → Bool
  is_chosen_feature modules f = is_chosen language (module_name modules f.source.home) (argument_in f.source)

  -- by way of so many others at most
  unfoldable pub is_on_within : Forest Source → ℕ → Feature → Bool
  is_on_within modules zero f = false
  is_on_within modules (suc steps) f =
      is_chosen_feature modules f && all_hold modules (is_on_within modules steps) f.below

  -- No feature leads to itself, so there are no more on a way than there are statements.
  abbrev pub is_on : Forest Source → Feature → Bool
  is_on modules f = is_on_within modules (suc (size modules)) f

  -- whether a statement with such substatements stands
  abbrev pub stands : Forest Source → Forest Source → Bool
  stands modules below = all_hold modules (is_on modules) below

  -- ---- C6: prefixes that are declared nowhere in the module

  abbrev pub names_asked : Forest Source → Source → List Name
  names_asked modules s = option_map_or names_in (condition_of modules s) []

  -- those in the path of an `augment` below a `uses` (RFC 7950, 7.17); an absolute path has none so
  abbrev pub names_led_by : Source → List Name
  names_led_by s = if is_augment_in language s then unwrap_or (relative_path_of (argument_in s)) [] else []

  abbrev pub names_prefixed : Forest Source → Source → List Name
  names_prefixed modules s = if is_condition language s then names_asked modules s else names_led_by s

  abbrev pub condition_prefix_break : Forest Source → Placed → List Break
  condition_prefix_break modules p =
      when (list_any (is_unknown_prefix modules p.source.home) (names_prefixed modules p.source)) (broken 6 p.source.home p.source.statement.line)

  abbrev pub condition_prefix_breaks : Forest Source → List Break
  condition_prefix_breaks modules = flat_map (condition_prefix_break modules) (statements_of modules)

  -- ---- C7: two features of one name

  abbrev pub doubled_features : List Text → List Feature → List Break
  doubled_features before [] = []
  doubled_features before (f ∷ others) =
      when (list_any (is_text (argument_in f.source)) before) (broken 7 f.source.home f.source.statement.line)
      ++ doubled_features (argument_in f.source ∷ before) others

  abbrev pub taken_feature_breaks : Forest Source → List Break
  taken_feature_breaks end = []
  taken_feature_breaks (node s below after) = doubled_features [] (features_in below) ++ taken_feature_breaks after

  -- ---- C22: an `if-feature` that names no feature, or that leads from a feature back to it

  abbrev pub is_lost : Forest Source → Source → Bool
  is_lost modules s = list_any (λ n. not (is_some (feature_named modules s.home n))) (names_asked modules s)

  -- the feature right above a statement
  abbrev pub feature_above : Placed → Option Source
  feature_above p = option_and_then (λ a. if is_feature language a then Some a else None) (first_above p.ancestors)
    where
      first_above : List (Source × Forest Source) → Option Source
      first_above [] = None
      first_above (a ∷ ancestors) = Some a.0

  abbrev pub edge_to : ℕ → Feature → Edge
  edge_to number f = record { source = number; target = f.source.number }

  -- a feature refers to those that its conditions name, by their numbers, where each of them is found
  abbrev pub feature_edges_at : Forest Source → Placed → List Edge
  feature_edges_at modules p = if is_condition language p.source && not (is_lost modules p.source)
      then option_map_or (λ above. map (edge_to above.number) (filter_map (feature_named modules p.source.home) (names_asked modules p.source)))
      (feature_above p) []
      else []

  abbrev pub feature_edges : Forest Source → List Edge
  feature_edges modules = flat_map (feature_edges_at modules) (statements_of modules)

  abbrev pub condition_break : Forest Source → List Edge → Placed → List Break
  condition_break modules edges p =
      when (is_condition language p.source && (is_lost modules p.source || list_any (is_on_circle edges) (feature_edges_at modules p)))
      (broken 22 p.source.home p.source.statement.line)

  abbrev pub condition_breaks : Forest Source → List Break
  condition_breaks modules = flat_map (condition_break modules (feature_edges modules)) (statements_of modules)
