-- The schema of linked modules of which nothing is told: what each phase says of it, its numbers and its limits.
use Rattle.std.proofs.Common.{◌≡◌, ℕ, suc, ◌+◌, ◌≤◌, Bool, true, false, [], ◌∷◌, ◌++◌, length, Option, Some, None, Ok, Err, refl, sym, ap, ap₂, ◌∙◌, subst, arith}
use Rattle.std.proofs.lemmas.Bool.{ltb-false}
use Rattle.std.specs.Prelude.{nat_lt}
use Rattle.std.specs.Option.{option_map_or}
use Rattle.yspec.specs.Forest.{Forest, end, node, size, levels, relabelled}
use Rattle.yspec.specs.text.Statement.{Statement}
use Rattle.yspec.specs.schema.Breaks.{Break, broken, first_broken, last_module, limit_breaks, node_limit, level_limit, module_breaks}
use Rattle.yspec.specs.schema.Schema.{Schema}
use Rattle.yspec.specs.document.Fitting.{IsNumbered, LeafsAreBare}
use Rattle.yspec.specs.linking.Source.{sources_from, sources_of}
use Rattle.yspec.specs.linking.StatementBreaks.{statement_phase}
use Rattle.yspec.specs.linking.Imports.{repeated_prefixes}
use Rattle.yspec.specs.linking.Prefixes.{prefix_breaks}
use Rattle.yspec.specs.linking.DerivedTypes.{type_breaks}
use Rattle.yspec.specs.linking.Scopes.{taken_breaks}
use Rattle.yspec.specs.linking.Parts.{Part}
use Rattle.yspec.specs.linking.Expansion.{unfit_breaks}
use Rattle.yspec.specs.linking.Augments.{augmented, augment_breaks, in_turn}
use Rattle.yspec.specs.linking.NodeCounts.{node_count}
use Rattle.yspec.specs.linking.Planned.{Plan, Around, around_below, planned}
use Rattle.yspec.specs.linking.SchemaNodes.{schema_node}
use Rattle.yspec.specs.linking.NodeBreaks.{name_breaks, node_breaks}
use Rattle.yspec.specs.linking.Compiling.{plan_of, schema_of, is_too_deep, names_phase, meanings_phase, phases, compiled}
use Rattle.yspec.proofs.LinkingProofs.BreakLemmas.{none_first, none_second, none_told}
use Rattle.yspec.proofs.LinkingProofs.LegalLemmas.{are_modules, are_at}
use Rattle.yspec.proofs.LinkingProofs.RightPartLemmas.{AreRight, bare_of}
use Rattle.yspec.proofs.LinkingProofs.RightAugmentedLemmas.{right_augmented}
use Rattle.yspec.proofs.BasicLemmas.{or_parts}

abbrev pub plan_in : Forest Statement → Plan
plan_in modules = plan_of (sources_of modules)

abbrev pub parts_in : Forest Statement → Forest Part
parts_in modules = (augmented (sources_of modules)).0

-- ---- what every phase says

last_some : (k : ℕ) (s : Statement) (below after : Forest Statement) → (x : ℕ × ℕ) × (last_module k (node s below after) ≡ Some x)
last_some k s below end = ((k, s.line), refl)
last_some k s below (node t inner after) = last_some (k + 1) t inner after

-- a limit that isn't passed
not_passed : (passed : Forest Statement → Bool) → passed end ≡ false → (modules : Forest Statement) (b : Bool) → passed modules ≡ b
    → limit_breaks b modules ≡ [] → passed modules ≡ false
not_passed passed nothing modules false is e = is
not_passed passed nothing end true is e = nothing
not_passed passed nothing (node s below after) true is e =
    let some = last_some 0 s below after in
    absurd (let f : broken 18 some.0.0 some.0.1 ≡ [] = sym (ap (λ x. option_map_or (λ last. broken 18 last.0 last.1) x []) some.1) ∙ e in cc)

none_deep : is_too_deep (plan_in end).nodes ≡ false
unfolding planned sources_from in_turn
none_deep = refl

pub record BreaksNothing (modules : Forest Statement) : Type 0 where
  pub statements : statement_phase modules ≡ []
  pub module_names : module_breaks 0 [] modules ≡ []
  pub names : name_breaks (plan_in modules) ≡ []
  pub few : size (plan_in modules).nodes ≤ node_limit
  pub within : levels (plan_in modules).nodes ≤ level_limit

breaks_nothing : (modules : Forest Statement) → first_broken (phases modules) ≡ None → BreaksNothing modules
breaks_nothing modules e =
    let sources = sources_of modules in
    let plan = plan_of sources in
    let deep = limit_breaks (is_too_deep plan.nodes) modules in
    let of_nodes = node_breaks plan ∷ deep ∷ [] in
    let of_names = name_breaks plan ∷ of_nodes in
    let unfit = unfit_breaks sources ++ augment_breaks sources in
    let of_refines = unfit ∷ of_names in
    let of_sizes = limit_breaks (nat_lt node_limit (node_count sources)) modules ∷ of_refines in
    let of_types = type_breaks sources ∷ of_sizes in
    let of_meanings = meanings_phase sources ∷ of_types in
    let of_modules = names_phase modules sources ∷ of_meanings in
    let first = none_told (statement_phase modules) (first_broken of_modules) e in
    let second = none_told (names_phase modules sources) (first_broken of_meanings) first.1 in
    let third = none_told (meanings_phase sources) (first_broken of_types) second.1 in
    let fourth = none_told (type_breaks sources) (first_broken of_sizes) third.1 in
    let fifth = none_told (limit_breaks (nat_lt node_limit (node_count sources)) modules) (first_broken of_refines) fourth.1 in
    let sixth = none_told unfit (first_broken of_names) fifth.1 in
    let seventh = none_told (name_breaks plan) (first_broken of_nodes) sixth.1 in
    let eighth = none_told (node_breaks plan) (first_broken (deep ∷ [])) seventh.1 in
    let ninth = none_told deep None eighth.1 in
    let limits = or_parts (nat_lt node_limit (size plan.nodes)) (nat_lt level_limit (levels plan.nodes))
    (not_passed (λ m. is_too_deep (plan_in m).nodes) none_deep modules (is_too_deep plan.nodes) refl ninth.0) in
    record {
      statements = first.0;
      module_names = none_first (module_breaks 0 [] modules) (taken_breaks sources)
          (none_second (repeated_prefixes sources) (module_breaks 0 [] modules ++ taken_breaks sources)
          (none_second (prefix_breaks sources) (repeated_prefixes sources ++ (module_breaks 0 [] modules ++ taken_breaks sources)) second.0));
      names = seventh.0;
      few = ltb-false node_limit (size plan.nodes) limits.0;
      within = ltb-false level_limit (levels plan.nodes) limits.1;
    }

pub record Compiles (modules : Forest Statement) (schema : Schema) : Type 0 where
  pub none : BreaksNothing modules
  pub is : schema_of modules ≡ schema

pub compiles : (modules : Forest Statement) (schema : Schema) → compiled modules ≡ Ok schema → Compiles modules schema
unfolding compiled
compiles modules schema e = go (first_broken (phases modules)) refl e
  where
    go : (o : Option Break) → first_broken (phases modules) ≡ o → option_map_or Err o (Ok (schema_of modules)) ≡ Ok schema → Compiles modules schema
    go None none e = record { none = breaks_nothing modules none; is = cc }
    go (Some b) none e = absurd cc

-- ---- sizes

module _ {L M : Type 0} where
  pub relabelled-size : (label : L → M) (f : Forest L) → size (relabelled label f) ≡ size f
  relabelled-size label end = refl
  relabelled-size label (node l below after) =
      ap₂ (λ m n. suc (m + n)) (relabelled-size label below) (relabelled-size label after)

  pub relabelled-levels : (label : L → M) (f : Forest L) → levels (relabelled label f) ≡ levels f
  relabelled-levels label end = refl
  relabelled-levels label (node l below after) =
      let inner = relabelled-levels label below in let rest = relabelled-levels label after in omega (arith, inner, rest)

pub planned-size : (next : ℕ) (around : Around) (f : Forest Part) → size (planned next around f) ≡ size f
unfolding planned
planned-size next around end = refl
planned-size next around (node p below after) =
    ap₂ (λ m n. suc (m + n)) (planned-size (next + 1) (around_below next around p) below) (planned-size (next + suc (size below)) around after)

pub linked_few : (modules : Forest Statement) (schema : Schema) → compiled modules ≡ Ok schema → size schema.nodes ≤ node_limit
linked_few modules schema e =
    let i = compiles modules schema e in
    subst (λ (s : Schema). size s.nodes ≤ node_limit) i.is
    (subst (λ (k : ℕ). k ≤ node_limit) (sym (relabelled-size (schema_node (plan_in modules)) (plan_in modules).nodes)) i.none.few)

pub linked_within : (modules : Forest Statement) (schema : Schema) → compiled modules ≡ Ok schema → levels schema.nodes ≤ level_limit
linked_within modules schema e =
    let i = compiles modules schema e in
    subst (λ (s : Schema). levels s.nodes ≤ level_limit) i.is
    (subst (λ (k : ℕ). k ≤ level_limit) (sym (relabelled-levels (schema_node (plan_in modules)) (plan_in modules).nodes)) i.none.within)

-- ---- numbers

numbered_from : (plan : Plan) (next : ℕ) (around : Around) (f : Forest Part) → IsNumbered next (relabelled (schema_node plan) (planned next around f))
unfolding planned
numbered_from plan next around end = tt
numbered_from plan next around (node p below after) =
    let inner = relabelled (schema_node plan) (planned (next + 1) (around_below next around p) below) in
    let count : size inner ≡ size below = relabelled-size (schema_node plan) (planned (next + 1) (around_below next around p) below)
    ∙ planned-size (next + 1) (around_below next around p) below in (
      refl,
      numbered_from plan (next + 1) (around_below next around p) below,
      subst (λ (k : ℕ). IsNumbered k (relabelled (schema_node plan) (planned (next + suc (size below)) around after))) (omega (arith, count))
          (numbered_from plan (next + suc (size below)) around after),
    )

pub linked_numbered : (modules : Forest Statement) (schema : Schema) → compiled modules ≡ Ok schema → IsNumbered 0 schema.nodes
linked_numbered modules schema e =
    subst (λ (s : Schema). IsNumbered 0 s.nodes) (compiles modules schema e).is (numbered_from (plan_in modules) 0 _ _)

-- ---- leafs

pub right_plan : (modules : Forest Statement) → BreaksNothing modules → AreRight (length (schema_of modules).modules) (parts_in modules)
right_plan modules none =
    right_augmented (plan_in modules) (sources_of modules) (are_modules 0 modules none.statements 0) (are_at 0 modules none.statements 0)

pub linked_bare : (modules : Forest Statement) (schema : Schema) → compiled modules ≡ Ok schema → LeafsAreBare schema.nodes
linked_bare modules schema e =
    let i = compiles modules schema e in
    subst (λ (s : Schema). LeafsAreBare s.nodes) i.is (bare_of (plan_in modules) _ 0 _ _ (right_plan modules i.none))
