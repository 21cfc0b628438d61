-- What is told of several phases.
use Rattle.std.proofs.Common.{◌≡◌, ℕ, zero, suc, ◌+◌, ◌-◌, ◌<◌, Bool, true, List, [], ◌∷◌, ◌++◌, length, get_or, Option, Some, None, Result, Ok, Err, IfOk, refl, sym, ap, ap₂, subst, ◌∙◌, arith}
use Rattle.std.specs.Prelude.{nat_lt}
use Rattle.std.specs.Option.{option_map_or}
use Rattle.ytext.specs.View.{view, modules_view}
use Rattle.ytext.specs.declared.statement.Module.{Module}
use Rattle.yspec.specs.Forest.{Forest}
use Rattle.yspec.specs.Results.{Fails}
use Rattle.yspec.specs.text.Statement.{Statement}
use Rattle.yspec.specs.schema.Breaks.{Break, broken, when, least_from, first_broken, last_module, limit_breaks, node_limit}
use Rattle.yspec.specs.linking.Source.{Source}
use Rattle.yspec.specs.linking.Imports.{import_breaks}
use Rattle.yspec.specs.linking.Scopes.{lost_breaks}
use Rattle.yspec.specs.linking.Circles.{import_circles, definition_circles}
use Rattle.yspec.specs.linking.DerivedTypes.{type_breaks}
use Rattle.yspec.specs.linking.Planned.{Plan, at_top, planned}
use Rattle.yspec.proofs.LinkingProofs.BreakLemmas.{none_second, none_told}
use Rattle.yspec_wide.specs.Compiling.{linked_in, compiled_in, linking_phases_in, meanings_phase_in, names_phase_in, phases_in, phases_of_plan_in, place_phase_in, plan_in, schema_in, schema_of_plan_in, whole_plan}
use Rattle.yspec_wide.specs.Features.{condition_breaks}
use Rattle.yspec_wide.specs.Expansion.{augmented_in}
use Rattle.yspec_wide.specs.Language.{Language, core}
use Rattle.yspec_wide.specs.NodeCounts.{node_count_in}
use Rattle.yspec_wide.specs.Standing.{standing}
use Rattle.yspec_wide.proofs.CoreExpansionLemmas.{standing_alike}
use Rattle.yspec_wide.specs.Sources.{sources_in}
use Rattle.yspec_wide.specs.StatementBreaks.{statement_phase_in}
use Rattle.yspec_wide.specs.VersionBreaks.{version_import_breaks, version_type_breaks}
use Rattle.yspec_wide.specs.Patterns.{pattern_breaks}
use Rattle.yschema.specs.Phases.{expansion_part, target_breaks, plan_part, rule_part}
use Rattle.ylink.proofs.PhaseLemmas.{told_here, told_later, told_last, told_first, told_then}

-- ---- limits

pub last_module-is : (k j : ℕ) (ms : List Module) (m : Module) → length ms ≡ j + 1 → m ≡ get_or ms j m
    → last_module k (modules_view ms) ≡ Some (k + j, (view m.top).0.line)
last_module-is k j [] m count is = absurd (omega arith)
last_module-is k zero (x ∷ []) m count is = ap₂ (λ n (y : Module). Some (n, (view y.top).0.line)) (omega arith) (sym is)
last_module-is k (suc j) (x ∷ []) m count is = absurd (omega arith)
last_module-is k zero (x ∷ y ∷ ms) m count is = absurd (omega arith)
last_module-is k (suc j) (x ∷ y ∷ ms) m count is =
    let place : k + 1 + j ≡ k + suc j = omega arith in
    last_module-is (k + 1) j (y ∷ ms) m (omega arith) is ∙ ap (λ n. Some (n, (view m.top).0.line)) place

-- the limit that is passed, told at the module given last
pub passed : (ms : List Module) (m : Module) (is_passed : Bool) (b : Break) → 0 < length ms → m ≡ get_or ms (length ms - 1) m → is_passed ≡ true
    → b ≡ record { code = 18; module_number = length ms - 1; line = (view m.top).0.line }
    → Some b ≡ least_from None (limit_breaks is_passed (modules_view ms))
passed ms m is_passed b some is true_is b_is =
    let found : last_module 0 (modules_view ms) ≡ Some (0 + (length ms - 1), (view m.top).0.line) = last_module-is 0 (length ms - 1) ms m (omega arith) is in
    let place : 0 + (length ms - 1) ≡ length ms - 1 = omega arith in
    ap Some b_is ∙ sym (ap₂ (λ c x. least_from None (when c (option_map_or (λ last. broken 18 last.0 last.1) x []))) true_is
    (found ∙ ap (λ n. Some (n, (view m.top).0.line)) place))

module _ (language : Language) where
  pub refused_as : (f : Forest Statement) (b : Break) → Some b ≡ first_broken (phases_in language f) → compiled_in language f ≡ Err b
  unfolding compiled_in
  refused_as f b e = ap (λ t. option_map_or Err t (Ok (schema_in language f))) (sym e)

  pub passes : (f : Forest Statement) → None ≡ first_broken (phases_in language f) → compiled_in language f ≡ Ok (schema_in language f)
  unfolding compiled_in
  passes f e = ap (λ t. option_map_or Err t (Ok (schema_in language f))) (sym e)

  -- ---- linking

  refused : (f : Forest Statement) (b : Break) → linked_in language f ≡ Err b → Some b ≡ first_broken (linking_phases_in language f)
  unfolding linked_in
  refused f b e = by (first_broken (linking_phases_in language f)) e
    where
      by : (t : Option Break) → option_map_or Err t (Ok (sources_in language f)) ≡ Err b → Some b ≡ t
      by (Some x) e = let same : x ≡ b = cc in ap Some (sym same)
      by None e = absurd cc

  pub linking_passed : (f : Forest Statement) (s : Forest Source) → linked_in language f ≡ Ok s
      → (None ≡ first_broken (linking_phases_in language f)) × (s ≡ sources_in language f)
  unfolding linked_in
  linking_passed f s e = by (first_broken (linking_phases_in language f)) e
    where
      by : (t : Option Break) → option_map_or Err t (Ok (sources_in language f)) ≡ Ok s → (None ≡ t) × (s ≡ sources_in language f)
      by (Some x) e = absurd cc
      by None e = let same : sources_in language f ≡ s = cc in (refl, sym same)

  -- no condition of a set that links is broken
  pub conditions_hold : (f : Forest Statement) (s : Forest Source) → s ≡ sources_in language f → None ≡ first_broken (linking_phases_in language f)
      → condition_breaks language s ≡ []
  conditions_hold f s s_is first =
      let sources = sources_in language f in
      let types = type_breaks sources ++ (version_type_breaks language sources ++ pattern_breaks language sources) in
      let of_types = types ∷ [] in
      let of_meanings = meanings_phase_in language sources ∷ of_types in
      let of_names = names_phase_in language f sources ∷ of_meanings in
      let one = none_told (statement_phase_in language f) (first_broken of_names) (sym first) in
      let two = none_told (names_phase_in language f sources) (first_broken of_meanings) one.1 in
      let three = none_told (meanings_phase_in language sources) (first_broken of_types) two.1 in
      let conditions = condition_breaks language sources in
      let definitions = definition_circles sources ++ conditions in
      let circles = import_circles sources ++ definitions in
      let lost = lost_breaks sources ++ circles in
      subst (λ x. condition_breaks language x ≡ []) (sym s_is)
      (none_second (definition_circles sources) conditions
      (none_second (import_circles sources) definitions
      (none_second (lost_breaks sources) circles
      (none_second (version_import_breaks language sources) lost
      (none_second (import_breaks sources) (version_import_breaks language sources ++ lost) three.0)))))

  -- ---- the phases in three parts

  pub not_linked : (f : Forest Statement) (b : Break) → linked_in language f ≡ Err b → compiled_in language f ≡ Err b
  not_linked f b e = refused_as f b (told_first (linking_phases_in language f)
      (phases_of_plan_in language f (whole_plan language (sources_in language f)) (plan_in language (sources_in language f))) b (refused f b e))

  pub refused_linking : (f : Forest Statement) (t : Option Break) → Fails t (linked_in language f) → Fails t (compiled_in language f)
  refused_linking f None h = tt
  refused_linking f (Some b) h = not_linked f b h

  module _ (f : Forest Statement) where
    module _ (s : Forest Source) (s_is : s ≡ sources_in language f) (first : None ≡ first_broken (linking_phases_in language f)) where
      behind : Forest Source → List (List Break)
      behind m = place_phase_in language (whole_plan language m) ∷ rule_part language f (whole_plan language m) (plan_in language m)

      expansion : linking_phases_in language f ++ (expansion_part language f s ++ behind s) ≡ phases_in language f
      unfolding behind
      expansion = ap (λ m. linking_phases_in language f ++ (expansion_part language f m ++ behind m)) s_is

      pub in_expansion : (b : Break) → Some b ≡ first_broken (expansion_part language f s) → compiled_in language f ≡ Err b
      in_expansion b e = refused_as f b (told_first (expansion_part language f s) (behind s) b e
          ∙ (sym (told_then (linking_phases_in language f) (expansion_part language f s ++ behind s) first) ∙ ap first_broken expansion))

    -- too many nodes are told, and else what finds no target
    module _ (s : Forest Source) where
      pub many_told : (b : Break) → Some b ≡ least_from None (limit_breaks (nat_lt node_limit (node_count_in language s)) f) → Some b ≡ first_broken (expansion_part language f s)
      many_told b e = told_here (limit_breaks (nat_lt node_limit (node_count_in language s)) f) (first_broken (target_breaks language s ∷ [])) b e

      pub targets_told : (t : Option Break) → None ≡ least_from None (limit_breaks (nat_lt node_limit (node_count_in language s)) f) → t ≡ least_from None (target_breaks language s)
          → t ≡ first_broken (expansion_part language f s)
      targets_told t few e = e ∙ (sym (told_last (target_breaks language s))
          ∙ sym (told_later (limit_breaks (nat_lt node_limit (node_count_in language s)) f) (first_broken (target_breaks language s ∷ [])) few))

    -- and then names and places
    pub names_told : (whole : Plan) (t : Option Break) → None ≡ first_broken (expansion_part language f whole.modules) → t ≡ least_from None (place_phase_in language whole)
        → t ≡ first_broken (plan_part language f whole)
    names_told whole t none e = e ∙ (sym (told_last (place_phase_in language whole)) ∙ sym (told_then (expansion_part language f whole.modules) (place_phase_in language whole ∷ []) none))

    module _ (whole p : Plan) (whole_is : whole ≡ whole_plan language (sources_in language f)) (p_is : p ≡ plan_in language (sources_in language f))
        (first : None ≡ first_broken (linking_phases_in language f)) where
      parts : linking_phases_in language f ++ (plan_part language f whole ++ rule_part language f whole p) ≡ phases_in language f
      parts = ap₂ (λ w q. linking_phases_in language f ++ (plan_part language f w ++ rule_part language f w q)) whole_is p_is

      pub in_plan : (b : Break) → Some b ≡ first_broken (plan_part language f whole) → compiled_in language f ≡ Err b
      in_plan b e = refused_as f b (told_first (plan_part language f whole) (rule_part language f whole p) b e
          ∙ (sym (told_then (linking_phases_in language f) (plan_part language f whole ++ rule_part language f whole p) first) ∙ ap first_broken parts))

      module _ (third : None ≡ first_broken (plan_part language f whole)) where
        in_rules : (t : Option Break) → t ≡ first_broken (rule_part language f whole p) → t ≡ first_broken (phases_in language f)
        in_rules t e = e ∙ (sym (told_then (plan_part language f whole) (rule_part language f whole p) third)
            ∙ (sym (told_then (linking_phases_in language f) (plan_part language f whole ++ rule_part language f whole p) first) ∙ ap first_broken parts))

        pub refused_in_rules : (b : Break) → Some b ≡ first_broken (rule_part language f whole p) → compiled_in language f ≡ Err b
        refused_in_rules b e = refused_as f b (in_rules (Some b) e)

        pub is_made : None ≡ first_broken (rule_part language f whole p) → compiled_in language f ≡ Ok (schema_of_plan_in language p)
        is_made e = passes f (in_rules None e) ∙ ap (λ q. Ok (schema_of_plan_in language q)) (sym p_is)

-- under the core all nodes stand
pub all_stand : (language : Language) → language ≡ core → (s : Forest Source) → whole_plan language s ≡ plan_in language s
all_stand language is s =
    ap (λ f. record { modules = s; nodes = planned 0 at_top f })
    (sym (ap (λ k. standing k s (augmented_in language s).0) is ∙ standing_alike s (augmented_in language s).0))

-- what holds of every value holds of one that is answered
pub if_ok_any : {A E : Type 0} (P : A → Type 0) → ((x : A) → P x) → (r : Result A E) → IfOk r P
if_ok_any P all (Ok x) = all x
if_ok_any P all (Err e) = tt
