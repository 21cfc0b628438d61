-- Under the core nothing is told of features, conditions and patterns, and where all modules are of YANG 1.1 nothing of what YANG 1 lacks.
use Rattle.std.proofs.Common.{◌≡◌, ℕ, ◌&&◌, List, [], ◌∷◌, ◌++◌, refl, sym, ap, ap₂, ◌∙◌}
use Rattle.std.specs.List.{flat_map}
use Rattle.yspec.specs.Forest.{Forest, end, node}
use Rattle.yspec.specs.linking.Keyword as word
use Rattle.yspec.specs.linking.Scopes.{Placed, statements_of}
use Rattle.yspec.specs.linking.Source.{Source, is_source_of}
use Rattle.yspec.specs.schema.Breaks.{Break, broken, when}
use Rattle.yspec_wide.specs.Features.{features_in, doubled_features, condition_prefix_break, condition_prefix_breaks, taken_feature_breaks, feature_edges, condition_break, condition_breaks}
use Rattle.yspec_wide.specs.Language.{Language, core, is_yang_1, version_of, yang_1_1}
use Rattle.yspec_wide.specs.Patterns.{pattern_break, pattern_breaks}
use Rattle.yspec_wide.specs.VersionBreaks.{is_wrong_in_1, version_type_break, version_type_breaks}
use Rattle.yspec_wide.proofs.CoreLinkingLemmas.{when_never}

none_told : (f : Placed → List Break) → ((p : Placed) → f p ≡ []) → (ps : List Placed) → flat_map f ps ≡ []
none_told f none [] = refl
none_told f none (p ∷ ps) = ap₂ (λ here others. here ++ others) (none p) (none_told f none ps)

-- ---- features and conditions

no_features : (below : Forest Source) → features_in core below ≡ []
no_features end = refl
no_features (node s below after) = no_features after

none_taken : (modules : Forest Source) → taken_feature_breaks core modules ≡ []
none_taken end = refl
none_taken (node s below after) = ap₂ (λ fs others. doubled_features core [] fs ++ others) (no_features below) (none_taken after)

pub no_feature_names : (modules : Forest Source) → condition_prefix_breaks core modules ++ taken_feature_breaks core modules ≡ []
no_feature_names modules = ap₂ (λ a b. a ++ b) (none_told (condition_prefix_break core modules) (λ p. refl) (statements_of modules)) (none_taken modules)

pub no_conditions : (modules : Forest Source) → condition_breaks core modules ≡ []
no_conditions modules = none_told (condition_break core modules (feature_edges core modules)) (λ p. refl) (statements_of modules)

-- ---- types

pub no_patterns : (modules : Forest Source) → pattern_breaks core modules ≡ []
no_patterns modules = none_told (pattern_break core) (λ p. refl) (statements_of modules)

pub no_wrong_types : (language : Language) (modules : Forest Source) → ((home : ℕ) → yang_1_1 ≡ version_of language modules home)
    → version_type_breaks language modules ≡ []
no_wrong_types language modules later = none_told (version_type_break language modules) none_here (statements_of modules)
  where
    none_here : (p : Placed) → version_type_break language modules p ≡ []
    none_here p =
        let is_type = is_source_of word.type_word p.source in
        let told = broken 10 p.source.home p.source.statement.line in
        ap (λ v. when (is_type && (is_yang_1 v && is_wrong_in_1 language modules p)) told) (sym (later p.source.home)) ∙ when_never is_type told
