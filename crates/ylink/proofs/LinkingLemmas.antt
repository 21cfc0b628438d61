-- What is told of modules that don't link.
use Rattle.std.proofs.Common.{◌≡◌, Bool, true, false, cond, List, [], ◌∷◌, ◌++◌, Option, Some, None, Ok, Err, refl, sym, ap, ap₂, ◌∙◌}
use Rattle.std.specs.Option.{option_map_or}
use Rattle.std.proofs.lemmas.List.{append_assoc, append-nil}
use Rattle.yspec.specs.Forest.{Forest}
use Rattle.yspec.specs.text.Statement.{Statement}
use Rattle.yspec.specs.schema.Breaks.{Break, least_from, first_broken, module_breaks}
use Rattle.yspec.proofs.LinkingProofs.BreakLemmas.{some_told, none_first, none_second}
use Rattle.yspec.proofs.SchemaProofs.LeastLemmas.{least_of_both}
use Rattle.yspec.specs.linking.Source.{Source, sources_of}
use Rattle.yspec.specs.linking.Imports.{import_breaks, repeated_prefixes}
use Rattle.yspec.specs.linking.Prefixes.{prefix_breaks}
use Rattle.yspec.specs.linking.Scopes.{lost_breaks, taken_breaks}
use Rattle.yspec.specs.linking.Circles.{import_circles, definition_circles}
use Rattle.yspec.specs.linking.DerivedTypes.{type_breaks}
use Rattle.yspec.specs.linking.Compiling.{names_phase, meanings_phase, linking_phases, linked}
use Rattle.yspec_wide.specs.Compiling.{names_phase_in, meanings_phase_in, linking_phases_in, linked_in}
use Rattle.yspec_wide.specs.Features.{condition_prefix_breaks, taken_feature_breaks, condition_breaks}
use Rattle.yspec_wide.specs.Language.{Language}
use Rattle.yspec_wide.specs.Patterns.{pattern_breaks}
use Rattle.yspec_wide.specs.Sources.{sources_in}
use Rattle.yspec_wide.specs.StatementBreaks.{statement_phase_in}
use Rattle.yspec_wide.specs.VersionBreaks.{version_import_breaks, version_type_breaks}
use Rattle.yspec_wide.proofs.LeastLemmas.{told_in_two}
use Rattle.ylink.proofs.PhaseLemmas.{told_here, told_later, told_last}

-- ---- parts of a phase

-- three lists, each told with what those before it tell
pub three_told : (first second third : Option Break) (a b c d : List Break) → first ≡ least_from None (a ++ b) → second ≡ least_from first c
    → third ≡ least_from second d → third ≡ least_from None (a ++ (b ++ (c ++ d)))
three_told first second third a b c d first_is second_is third_is =
    third_is ∙ (ap (λ t. least_from t d) second_is
    ∙ (sym (least_of_both first c d) ∙ (ap (λ t. least_from t (c ++ d)) first_is
    ∙ (sym (least_of_both None (a ++ b) (c ++ d)) ∙ ap (least_from None) (append_assoc a b (c ++ d))))))

-- two behind their first parts, or each behind the other's
in_turn : (a x b y : List Break) → least_from None ((a ++ x) ++ (b ++ y)) ≡ least_from None ((a ++ b) ++ (x ++ y))
in_turn a x b y =
    ap (least_from None) (sym (ap₂ (λ l r. (a ++ l) ++ (b ++ r)) (append-nil x) (append-nil y)))
    ∙ (sym (told_last ((a ++ (x ++ [])) ++ (b ++ (y ++ []))))
    ∙ (told_in_two (λ (i : Bool). cond i a x) (λ (i : Bool). cond i b y) (true ∷ false ∷ []) None
    ∙ (told_last ((a ++ b) ++ ((x ++ y) ++ []))
    ∙ ap (λ l. least_from None ((a ++ b) ++ l)) (append-nil (x ++ y)))))

-- what others tell with the first part of a phase, and with the last
pub beside : (told : Option Break) (a x b y : List Break) → told ≡ least_from (least_from None (a ++ x)) (b ++ y) → told ≡ least_from None (a ++ (b ++ (x ++ y)))
beside told a x b y is =
    is ∙ (sym (least_of_both None (a ++ x) (b ++ y)) ∙ (in_turn a x b y ∙ ap (least_from None) (append_assoc a b (x ++ y))))

module _ (language : Language) (f : Forest Statement) (s : Forest Source) where
  pub names_told : (core told : Option Break) → core ≡ least_from None (names_phase f s)
      → told ≡ least_from core (condition_prefix_breaks language s ++ taken_feature_breaks language s) → told ≡ least_from None (names_phase_in language f s)
  names_told core told core_is told_is =
      let repeated = repeated_prefixes s in
      let modules = module_breaks 0 [] f in
      let taken = taken_breaks s in
      let features = taken_feature_breaks language s in
      beside told (prefix_breaks s) (repeated ++ (modules ++ taken)) (condition_prefix_breaks language s) features
      (told_is ∙ ap (λ t. least_from t (condition_prefix_breaks language s ++ features)) core_is)
      ∙ ap (λ l. least_from None (prefix_breaks s ++ (condition_prefix_breaks language s ++ l)))
      (append_assoc repeated (modules ++ taken) features ∙ ap (λ l. repeated ++ l) (append_assoc modules taken features))

module _ (language : Language) (s : Forest Source) where
  pub meanings_told : (core imports told : Option Break) → core ≡ least_from None (meanings_phase s) → imports ≡ least_from core (version_import_breaks language s)
      → told ≡ least_from imports (condition_breaks language s) → told ≡ least_from None (meanings_phase_in language s)
  meanings_told core imports told core_is imports_is told_is =
      let lost = lost_breaks s in
      let circles = import_circles s in
      let definitions = definition_circles s in
      let conditions = condition_breaks language s in
      beside told (import_breaks s) (lost ++ (circles ++ definitions)) (version_import_breaks language s) conditions
      (told_is ∙ (ap (λ t. least_from t conditions) imports_is ∙ (sym (least_of_both core (version_import_breaks language s) conditions)
      ∙ ap (λ t. least_from t (version_import_breaks language s ++ conditions)) core_is)))
      ∙ ap (λ l. least_from None (import_breaks s ++ (version_import_breaks language s ++ l)))
      (append_assoc lost (circles ++ definitions) conditions ∙ ap (λ l. lost ++ l) (append_assoc circles definitions conditions))

  pub types_told : (own versioned told : Option Break) → own ≡ least_from None (type_breaks s) → versioned ≡ least_from own (version_type_breaks language s)
      → told ≡ least_from versioned (pattern_breaks language s)
      → told ≡ least_from None (type_breaks s ++ (version_type_breaks language s ++ pattern_breaks language s))
  types_told own versioned told own_is versioned_is told_is =
      let versions = version_type_breaks language s in
      let patterns = pattern_breaks language s in
      told_is ∙ (ap (λ t. least_from t patterns) versioned_is ∙ (sym (least_of_both own versions patterns)
      ∙ (ap (λ t. least_from t (versions ++ patterns)) own_is ∙ sym (least_of_both None (type_breaks s) (versions ++ patterns)))))

pub none_broken : (phase : List Break) → None ≡ least_from None phase → phase ≡ []
none_broken [] none = refl
none_broken (x ∷ xs) none = absurd (some_told xs x (sym none))

-- no definition refers to itself where names mean something
pub no_circles : (language : Language) (s : Forest Source) → None ≡ least_from None (meanings_phase_in language s) → definition_circles s ≡ []
no_circles language s none =
    let conditions = condition_breaks language s in
    let circles = import_circles s ++ (definition_circles s ++ conditions) in
    none_first (definition_circles s) conditions
    (none_second (import_circles s) (definition_circles s ++ conditions)
    (none_second (lost_breaks s) circles
    (none_second (version_import_breaks language s) (lost_breaks s ++ circles)
    (none_second (import_breaks s) (version_import_breaks language s ++ (lost_breaks s ++ circles)) (none_broken (meanings_phase_in language s) none)))))

-- ---- what the core tells

pub refused : (f : Forest Statement) (b : Break) → linked f ≡ Err b → Some b ≡ first_broken (linking_phases f)
unfolding linked
refused f b e = by (first_broken (linking_phases f)) e
  where
    by : (t : Option Break) → option_map_or Err t (Ok (sources_of f)) ≡ Err b → Some b ≡ t
    by (Some x) e = let same : x ≡ b = cc in ap Some (sym same)
    by None e = absurd cc

pub passed : (f : Forest Statement) (s : Forest Source) → linked f ≡ Ok s → (None ≡ first_broken (linking_phases f)) × (s ≡ sources_of f)
unfolding linked
passed f s e = by (first_broken (linking_phases f)) e
  where
    by : (t : Option Break) → option_map_or Err t (Ok (sources_of f)) ≡ Ok s → (None ≡ t) × (s ≡ sources_of f)
    by (Some x) e = absurd cc
    by None e = let same : sources_of f ≡ s = cc in (refl, sym same)

-- ---- phases

module _ (language : Language) where
  refused_as : (f : Forest Statement) (b : Break) → Some b ≡ first_broken (linking_phases_in language f) → linked_in language f ≡ Err b
  unfolding linked_in
  refused_as f b e = ap (λ t. option_map_or Err t (Ok (sources_in language f))) (sym e)

  passes : (f : Forest Statement) → None ≡ first_broken (linking_phases_in language f) → linked_in language f ≡ Ok (sources_in language f)
  unfolding linked_in
  passes f e = ap (λ t. option_map_or Err t (Ok (sources_in language f))) (sym e)

  pub in_statements : (f : Forest Statement) (b : Break) → Some b ≡ least_from None (statement_phase_in language f) → linked_in language f ≡ Err b
  in_statements f b e = refused_as f b (told_here (statement_phase_in language f) _ b e)

  module _ (f : Forest Statement) (s : Forest Source) (s_is : s ≡ sources_in language f) (first : None ≡ least_from None (statement_phase_in language f)) where
    abbrev types : Forest Source → List Break
    types x = type_breaks x ++ (version_type_breaks language x ++ pattern_breaks language x)

    -- what the phases behind the first tell is told
    behind : (t : Option Break) → t ≡ first_broken (names_phase_in language f s ∷ meanings_phase_in language s ∷ types s ∷ []) → t ≡ first_broken (linking_phases_in language f)
    behind t e = e ∙ (ap (λ x. first_broken (names_phase_in language f x ∷ meanings_phase_in language x ∷ types x ∷ [])) s_is ∙ sym (told_later (statement_phase_in language f) _ first))

    pub in_names : (b : Break) → Some b ≡ least_from None (names_phase_in language f s) → linked_in language f ≡ Err b
    in_names b e = refused_as f b (behind (Some b) (told_here (names_phase_in language f s) _ b e))

    module _ (names : None ≡ least_from None (names_phase_in language f s)) where
      pub in_meanings : (b : Break) → Some b ≡ least_from None (meanings_phase_in language s) → linked_in language f ≡ Err b
      in_meanings b e = refused_as f b (behind (Some b) (told_here (meanings_phase_in language s) _ b e ∙ sym (told_later (names_phase_in language f s) _ names)))

      module _ (meanings : None ≡ least_from None (meanings_phase_in language s)) where
        in_types : (t : Option Break) → t ≡ least_from None (types s) → t ≡ first_broken (linking_phases_in language f)
        in_types t e = behind t (e ∙ (sym (told_last (types s))
            ∙ (sym (told_later (meanings_phase_in language s) _ meanings) ∙ sym (told_later (names_phase_in language f s) _ names))))

        pub refused_in_types : (b : Break) → Some b ≡ least_from None (types s) → linked_in language f ≡ Err b
        refused_in_types b e = refused_as f b (in_types (Some b) e)

        pub links : None ≡ least_from None (types s) → linked_in language f ≡ Ok s
        links e = passes f (in_types None e) ∙ ap Ok (sym s_is)
