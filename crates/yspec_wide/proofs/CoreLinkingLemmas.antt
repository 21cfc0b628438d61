-- Under the core no statement is a feature or a condition, all stand, and linking tells what it tells without a language.
use Rattle.std.proofs.Common.{◌≡◌, Bool, true, false, ◌&&◌, ◌++◌, List, [], ◌∷◌, Ok, Err, append-nil, refl, ap, ap₂, ◌∙◌}
use Rattle.std.proofs.Math.Path.{fun_ext}
use Rattle.std.proofs.lemmas.Bool.{and_right}
use Rattle.std.specs.Prelude.{filter}
use Rattle.std.specs.List.{list_all, flat_map}
use Rattle.std.specs.Option.{option_map_or}
use Rattle.yspec.specs.Forest.{Forest, end, node, row}
use Rattle.yspec.specs.text.Statement.{Statement}
use Rattle.yspec.specs.linking.Keyword as word
use Rattle.yspec.specs.linking.Source.{Source, is_source_of, sources_of}
use Rattle.yspec.specs.linking.Imports.{repeated_prefixes, import_breaks}
use Rattle.yspec.specs.linking.Prefixes.{prefix_breaks}
use Rattle.yspec.specs.linking.Scopes.{taken_breaks, lost_breaks, statements_of}
use Rattle.yspec.specs.linking.Circles.{import_circles, definition_circles}
use Rattle.yspec.specs.linking.DerivedTypes.{type_breaks}
use Rattle.yspec.specs.linking.StatementBreaks.{statement_phase}
use Rattle.yspec.specs.linking.Compiling.{names_phase, meanings_phase, linking_phases, linked}
use Rattle.yspec.specs.schema.Breaks.{Break, broken, when, module_breaks, first_broken}
use Rattle.yspec_wide.specs.Language.{core}
use Rattle.yspec_wide.specs.Sources.{conditions_in}
use Rattle.yspec_wide.specs.StatementBreaks.{statement_phase_in}
use Rattle.yspec_wide.specs.Features.{features_in, doubled_features, condition_holds, is_on, stands, condition_prefix_breaks, taken_feature_breaks, condition_breaks}
use Rattle.yspec_wide.specs.VersionBreaks.{version_import_break, version_import_breaks, version_type_break, version_type_breaks}
use Rattle.yspec_wide.specs.Patterns.{pattern_break, pattern_breaks}
use Rattle.yspec_wide.specs.Compiling.{names_phase_in, meanings_phase_in, linking_phases_in, linked_in}
use Rattle.yspec_wide.proofs.CoreLemmas.{phase_alike, kept_of_all_alike}

-- ---- lists of nothing

none_passes : {A : Type 0} (xs : List A) → filter (λ x. false) xs ≡ []
none_passes [] = refl
none_passes (x ∷ xs) = none_passes xs

nothing_told : {A : Type 0} (f : A → List Break) → ((x : A) → f x ≡ []) → (xs : List A) → flat_map f xs ≡ []
nothing_told f none [] = refl
nothing_told f none (x ∷ xs) = ap₂ (λ here others. here ++ others) (none x) (nothing_told f none xs)

-- ---- conditions and features

pub conditions_none : (below : Forest Source) → conditions_in core below ≡ []
conditions_none below = none_passes (row below)

pub all_stand_in_core : (modules : Forest Source) → stands core modules ≡ (λ below. true)
all_stand_in_core modules = fun_ext (λ below. ap (list_all (condition_holds core modules (is_on core modules))) (conditions_none below))

features_none : (below : Forest Source) → features_in core below ≡ []
features_none end = refl
features_none (node s below after) = features_none after

taken_none : (modules : Forest Source) → taken_feature_breaks core modules ≡ []
taken_none end = refl
taken_none (node s below after) = ap₂ (λ fs others. doubled_features core [] fs ++ others) (features_none below) (taken_none after)

prefixes_none : (modules : Forest Source) → condition_prefix_breaks core modules ≡ []
prefixes_none modules = nothing_told _ (λ p. refl) (statements_of modules)

lost_none : (modules : Forest Source) → condition_breaks core modules ≡ []
lost_none modules = nothing_told _ (λ p. refl) (statements_of modules)

-- ---- versions

pub when_never : (a : Bool) (told : List Break) → when (a && false) told ≡ []
when_never a told = ap (λ b. when b told) (and_right a false refl)

imports_none : (modules : Forest Source) → version_import_breaks core modules ≡ []
imports_none modules = nothing_told (version_import_break core modules)
    (λ p. when_never (is_source_of word.import_word p.source) (broken 5 p.source.home p.source.statement.line)) (statements_of modules)

types_none : (modules : Forest Source) → version_type_breaks core modules ≡ []
types_none modules = nothing_told (version_type_break core modules)
    (λ p. when_never (is_source_of word.type_word p.source) (broken 10 p.source.home p.source.statement.line)) (statements_of modules)

patterns_none : (modules : Forest Source) → pattern_breaks core modules ≡ []
patterns_none modules = nothing_told (pattern_break core) (λ p. refl) (statements_of modules)

-- ---- the phases

names_alike : (modules : Forest Statement) (sources : Forest Source) → names_phase_in core modules sources ≡ names_phase modules sources
names_alike modules sources = ap₂ (λ prefixes features. prefix_breaks sources ++ (prefixes ++ (repeated_prefixes sources
    ++ (module_breaks 0 [] modules ++ (taken_breaks sources ++ features))))) (prefixes_none sources) (taken_none sources)
    ∙ ap (λ taken. prefix_breaks sources ++ (repeated_prefixes sources ++ (module_breaks 0 [] modules ++ taken)))
    (append-nil (taken_breaks sources))

meanings_alike : (sources : Forest Source) → meanings_phase_in core sources ≡ meanings_phase sources
meanings_alike sources = ap₂ (λ imports lost. import_breaks sources ++ (imports ++ (lost_breaks sources ++ (import_circles sources
    ++ (definition_circles sources ++ lost))))) (imports_none sources) (lost_none sources)
    ∙ ap (λ circles. import_breaks sources ++ (lost_breaks sources ++ (import_circles sources ++ circles)))
    (append-nil (definition_circles sources))

types_alike : (sources : Forest Source) → type_breaks sources ++ (version_type_breaks core sources ++ pattern_breaks core sources) ≡ type_breaks sources
types_alike sources = ap₂ (λ versions patterns. type_breaks sources ++ (versions ++ patterns)) (types_none sources) (patterns_none sources)
    ∙ append-nil (type_breaks sources)

pub linking_alike : (modules : Forest Statement) → linking_phases_in core modules ≡ linking_phases modules
linking_alike modules =
    ap (λ sources. statement_phase_in core modules ∷ names_phase_in core modules sources ∷ meanings_phase_in core sources
    ∷ (type_breaks sources ++ (version_type_breaks core sources ++ pattern_breaks core sources)) ∷ []) (kept_of_all_alike modules)
    ∙ (ap₂ (λ statements names. statements ∷ names ∷ meanings_phase_in core (sources_of modules)
    ∷ (type_breaks (sources_of modules) ++ (version_type_breaks core (sources_of modules) ++ pattern_breaks core (sources_of modules))) ∷ [])
    (phase_alike modules) (names_alike modules (sources_of modules))
    ∙ ap₂ (λ meanings types. statement_phase modules ∷ names_phase modules (sources_of modules) ∷ meanings ∷ types ∷ [])
    (meanings_alike (sources_of modules)) (types_alike (sources_of modules)))

pub linked_alike : (modules : Forest Statement) → linked_in core modules ≡ linked modules
unfolding linked_in linked
linked_alike modules = ap₂ (λ phases sources. option_map_or Err (first_broken phases) (Ok sources)) (linking_alike modules) (kept_of_all_alike modules)
