-- A set of modules of which nothing is told in a language: what each phase says of it, and its sound parts.
use Rattle.std.proofs.Common.{◌≡◌, ℕ, ◌+◌, ◌≤◌, Bool, true, false, [], ◌∷◌, ◌++◌, length, Option, Some, None, Ok, Err, refl, sym, ap, ◌∙◌, ◌&&◌, List}
use Rattle.std.proofs.lemmas.Bool.{ltb-false, or_parts}
use Rattle.std.specs.Prelude.{nat_lt}
use Rattle.std.specs.List.{flat_map, list_any}
use Rattle.std.specs.Option.{option_map_or}
use Rattle.yspec.specs.Forest.{Forest, end, node, size, levels}
use Rattle.yspec.specs.text.Statement.{Statement}
use Rattle.yspec.specs.schema.Breaks.{Break, broken, first_broken, last_module, limit_breaks, node_limit, level_limit, module_breaks, low_level_limit}
use Rattle.yspec.specs.schema.Schema.{Schema}
use Rattle.yspec.specs.linking.Imports.{repeated_prefixes}
use Rattle.yspec.specs.linking.Prefixes.{prefix_breaks}
use Rattle.yspec.specs.linking.Scopes.{taken_breaks}
use Rattle.yspec.specs.linking.DerivedTypes.{type_breaks}
use Rattle.yspec.specs.linking.Parts.{Part}
use Rattle.yspec.specs.linking.Augments.{in_turn}
use Rattle.yspec_wide.specs.NodeCounts.{node_count_in}
use Rattle.yspec.specs.linking.Planned.{Planned, Plan, nodes_of, planned}
use Rattle.yspec.specs.linking.NodeBreaks.{name_breaks}
use Rattle.yspec.specs.linking.Compiling.{schema_modules, is_too_deep}
use Rattle.yspec.proofs.LinkingProofs.BreakLemmas.{none_first, none_second, none_told}
use Rattle.yspec_wide.specs.Language.{Language, core, rfc}
use Rattle.yspec_wide.specs.StatementBreaks.{statement_phase_in}
use Rattle.yspec_wide.specs.Sources.{sources_in_from, sources_in, is_anything}
use Rattle.yspec_wide.specs.Features.{condition_prefix_breaks, taken_feature_breaks}
use Rattle.yspec_wide.specs.Expansion.{augmented_in, unfit_breaks_in, augment_breaks_in}
use Rattle.yspec_wide.specs.Operations.{place_breaks}
use Rattle.yspec_wide.specs.Standing.{is_standing, standing, standing_by}
use Rattle.yspec_wide.specs.VersionBreaks.{version_type_breaks}
use Rattle.yspec_wide.specs.Patterns.{pattern_breaks}
use Rattle.yspec_wide.specs.Compiling.{whole_plan, plan_in, schema_in, names_phase_in, meanings_phase_in, node_breaks_in, place_phase_in, phases_in, compiled_in, is_too_deep_in}
use Rattle.yspec_wide_fit.proofs.LegalLemmas.{are_modules}
use Rattle.yspec_wide_fit.proofs.SoundLemmas.{elsewhere, AreSound}
use Rattle.yspec_wide_fit.proofs.ExpandedLemmas.{sound_augmented, sound_standing}

-- all parts, and those that stand
abbrev pub whole_parts : Language → Forest Statement → Forest Part
whole_parts language modules = (augmented_in language (sources_in language modules)).0

abbrev pub standing_parts : Language → Forest Statement → Forest Part
standing_parts language modules = standing language (sources_in language modules) (whole_parts language modules)

abbrev pub plan_of : Language → Forest Statement → Plan
plan_of language modules = plan_in language (sources_in language modules)

-- ---- what every phase says

last_some : (k : ℕ) (s : Statement) (below after : Forest Statement) → (x : ℕ × ℕ) × (last_module k (node s below after) ≡ Some x)
last_some k s below end = ((k, s.line), refl)
last_some k s below (node t inner after) = last_some (k + 1) t inner after

-- a limit that isn't passed
not_passed : (passed : Forest Statement → Bool) → passed end ≡ false → (modules : Forest Statement) (b : Bool) → passed modules ≡ b
    → limit_breaks b modules ≡ [] → passed modules ≡ false
not_passed passed nothing modules false is e = is
not_passed passed nothing end true is e = nothing
not_passed passed nothing (node s below after) true is e =
    let some = last_some 0 s below after in
    absurd (let no : broken 18 some.0.0 some.0.1 ≡ [] = sym (ap (λ x. option_map_or (λ last. broken 18 last.0 last.1) x []) some.1) ∙ e in cc)

none_deep : (language : Language) → is_too_deep_in language (plan_of language end) ≡ false
unfolding planned sources_in_from in_turn standing_by
none_deep core = refl
none_deep (rfc wide) = refl

-- whether any planned node is an `anydata` or `anyxml`
abbrev pub any_planned : Language → Plan → Bool
any_planned language plan = list_any (λ p. is_anything language p.part.source) (nodes_of plan)

none_planned : (ps : List Planned) → list_any (λ p. is_anything core p.part.source) ps ≡ false
none_planned [] = refl
none_planned (p ∷ ps) = none_planned ps

and_false : (a b : Bool) → (a && b) ≡ false → b ≡ true → a ≡ false
and_false true b h some = let no : ⊥ = cc in absurd no
and_false false b h some = refl

not_deep : (language : Language) (plan : Plan) → is_too_deep_in language plan ≡ false
    → (is_too_deep plan.nodes ≡ false) × (any_planned language plan ≡ true → levels plan.nodes ≤ low_level_limit)
not_deep core plan e = (e, λ some. let none = none_planned (nodes_of plan) in let no : ⊥ = cc in absurd no)
not_deep (rfc wide) plan e =
    let both = or_parts (is_too_deep plan.nodes) (nat_lt low_level_limit (levels plan.nodes) && any_planned (rfc wide) plan) e in
    (both.0, λ some. ltb-false low_level_limit (levels plan.nodes) (and_false _ _ both.1 some))

pub record BreaksNothing (language : Language) (modules : Forest Statement) : Type 0 where
  pub statements : statement_phase_in language modules ≡ []
  pub module_names : module_breaks 0 [] modules ≡ []
  pub names : name_breaks (whole_plan language (sources_in language modules)) ≡ []
  pub few : size (plan_of language modules).nodes ≤ node_limit
  pub within : levels (plan_of language modules).nodes ≤ level_limit
  pub low : any_planned language (plan_of language modules) ≡ true → levels (plan_of language modules).nodes ≤ low_level_limit

breaks_nothing : (language : Language) (modules : Forest Statement) → first_broken (phases_in language modules) ≡ None → BreaksNothing language modules
breaks_nothing language modules e =
    let sources = sources_in language modules in
    let whole = whole_plan language sources in
    let plan = plan_of language modules in
    let deep = limit_breaks (is_too_deep_in language plan) modules in
    let of_nodes = node_breaks_in language whole plan ∷ deep ∷ [] in
    let of_names = place_phase_in language whole ∷ of_nodes in
    let unfit = unfit_breaks_in language sources ++ augment_breaks_in language sources in
    let of_refines = unfit ∷ of_names in
    let many = limit_breaks (nat_lt node_limit (node_count_in language sources)) modules in
    let of_sizes = many ∷ of_refines in
    let types = type_breaks sources ++ (version_type_breaks language sources ++ pattern_breaks language sources) in
    let of_types = types ∷ of_sizes in
    let of_meanings = meanings_phase_in language sources ∷ of_types in
    let of_modules = names_phase_in language modules sources ∷ of_meanings in
    let first = none_told (statement_phase_in language modules) (first_broken of_modules) e in
    let second = none_told (names_phase_in language modules sources) (first_broken of_meanings) first.1 in
    let third = none_told (meanings_phase_in language sources) (first_broken of_types) second.1 in
    let fourth = none_told types (first_broken of_sizes) third.1 in
    let fifth = none_told many (first_broken of_refines) fourth.1 in
    let sixth = none_told unfit (first_broken of_names) fifth.1 in
    let seventh = none_told (place_phase_in language whole) (first_broken of_nodes) sixth.1 in
    let eighth = none_told (node_breaks_in language whole plan) (first_broken (deep ∷ [])) seventh.1 in
    let ninth = none_told deep None eighth.1 in
    let passed = not_deep language plan
    (not_passed (λ m. is_too_deep_in language (plan_of language m)) (none_deep language) modules (is_too_deep_in language plan) refl ninth.0) in
    let limits = or_parts (nat_lt node_limit (size plan.nodes)) (nat_lt level_limit (levels plan.nodes)) passed.0 in
    let taken = taken_breaks sources ++ taken_feature_breaks language sources in
    let of_a_module = module_breaks 0 [] modules ++ taken in
    let of_prefixes = repeated_prefixes sources ++ of_a_module in
    record {
      statements = first.0;
      module_names = none_first (module_breaks 0 [] modules) taken
          (none_second (repeated_prefixes sources) of_a_module
          (none_second (condition_prefix_breaks language sources) of_prefixes
          (none_second (prefix_breaks sources) (condition_prefix_breaks language sources ++ of_prefixes) second.0)));
      names = none_first (name_breaks whole) (flat_map (place_breaks language whole) (nodes_of whole)) seventh.0;
      few = ltb-false node_limit (size plan.nodes) limits.0;
      within = ltb-false level_limit (levels plan.nodes) limits.1;
      low = passed.1;
    }

pub record Compiles (language : Language) (modules : Forest Statement) (schema : Schema) : Type 0 where
  pub none : BreaksNothing language modules
  pub is : schema_in language modules ≡ schema

pub compiles : (language : Language) (modules : Forest Statement) (schema : Schema) → compiled_in language modules ≡ Ok schema → Compiles language modules schema
unfolding compiled_in
compiles language modules schema e = go (first_broken (phases_in language modules)) refl e
  where
    go : (o : Option Break) → first_broken (phases_in language modules) ≡ o → option_map_or Err o (Ok (schema_in language modules)) ≡ Ok schema → Compiles language modules schema
    go None none e = record { none = breaks_nothing language modules none; is = cc }
    go (Some b) none e = absurd cc

-- ---- its parts

abbrev pub count_of : Language → Forest Statement → ℕ
count_of language modules = length (schema_modules (plan_of language modules) (sources_in language modules))

pub sound_whole : (language : Language) (modules : Forest Statement) → BreaksNothing language modules
    → AreSound (count_of language modules) elsewhere (whole_parts language modules)
sound_whole language modules none =
    sound_augmented language (plan_of language modules) (sources_in language modules) (are_modules language 0 modules none.statements 0)

pub sound_plan : (language : Language) (modules : Forest Statement) → BreaksNothing language modules
    → AreSound (count_of language modules) elsewhere (standing_parts language modules)
sound_plan language modules none = sound_standing (is_standing language (sources_in language modules)) (count_of language modules) elsewhere
    (whole_parts language modules) (sound_whole language modules none)
