-- A schema lists all augments that its modules state.
use Rattle.std.proofs.Common.{◌≡◌, suc, true, List, [], ◌∷◌, ◌++◌, length, map, Option, Some, None, Ok, Err, refl, sym, ap, ap₂, ◌∙◌, arith}
use Rattle.std.specs.Prelude.{is_some, option_map}
use Rattle.std.specs.List.{Contains, filter_map, flat_map, cons_option}
use Rattle.std.specs.Option.{option_map_or}
use Rattle.std.proofs.lemmas.Bool.{false≢true}
use Rattle.std.proofs.lemmas.List.Elements.{Contains-append_left, Contains-append_right}
use Rattle.yspec.specs.Forest.{Forest, end, node}
use Rattle.yspec.specs.text.Statement.{Statement}
use Rattle.yspec.specs.schema.Breaks.{Break, broken, first_broken}
use Rattle.yspec.specs.schema.Schema.{Schema, SchemaModule}
use Rattle.yspec.specs.linking.Source.{Source, sources_of}
use Rattle.yspec.specs.linking.Planned.{Plan, Planned}
use Rattle.yspec.specs.linking.Expansion.{unfit_breaks}
use Rattle.yspec.specs.linking.Augments.{Augment, augmented, augment_breaks, augments_in, augments_of, body_breaks, left_breaks}
use Rattle.yspec.specs.linking.Compiling.{compiled, numbers_added, phases, plan_of, schema_augment, schema_modules, schema_of, target_found}
use Rattle.yspec.proofs.LinkingProofs.BreakLemmas.{none_second}
use Rattle.yspec_laws.specs.Listed.{augment_counts}
use Rattle.yspec_laws.proofs.BreakLemmas.{none_broken}
use Rattle.yspec_laws.proofs.ListLemmas.{later_of}
use Rattle.yspec_laws.proofs.WayLemmas.{each_listed}

-- ---- none is left of modules that compile

nothing_left : (xs : List Augment) → flat_map (λ (a : Augment). broken 14 a.source.home a.source.statement.line) xs ≡ [] → xs ≡ []
nothing_left [] e = refl
nothing_left (a ∷ xs) e = absurd cc

module _ (modules : Forest Statement) where
  told_none : (schema : Schema) (o : Option Break) → first_broken (phases modules) ≡ o → option_map_or Err o (Ok (schema_of modules)) ≡ Ok schema
      → (first_broken (phases modules) ≡ None) × (schema_of modules ≡ schema)
  told_none schema None is e = (is, let same : schema_of modules ≡ schema = cc in same)
  told_none schema (Some b) is e = absurd cc

  compiles : (schema : Schema) → compiled modules ≡ Ok schema → (first_broken (phases modules) ≡ None) × (schema_of modules ≡ schema)
  unfolding compiled
  compiles schema e = told_none schema (first_broken (phases modules)) refl e

  none_left : first_broken (phases modules) ≡ None → (augmented (sources_of modules)).1 ≡ []
  none_left none =
      let sources = sources_of modules in
      let all = (none_broken (phases modules)).0 none in
      let phase : unfit_breaks sources ++ augment_breaks sources ≡ [] = all 5 [] (omega arith) in
      nothing_left (augmented sources).1
      (none_second (flat_map (body_breaks sources) (augments_of sources)) (left_breaks sources) (none_second (unfit_breaks sources) (augment_breaks sources) phase))

-- ---- all are listed

module _ (plan : Plan) where
  length_kept : (xs : List Augment) → ((a : Augment) → Contains xs a → is_some (target_found plan a) ≡ true) → length (filter_map (schema_augment plan) xs) ≡ length xs
  length_kept [] found = refl
  length_kept (a ∷ xs) found =
      by (target_found plan a) (found a (0, omega arith, refl)) (length_kept xs (λ b at. found b (later_of b a xs at)))
    where
      by : (o : Option Planned) → is_some o ≡ true → length (filter_map (schema_augment plan) xs) ≡ length xs
          → length (cons_option (option_map (λ (p : Planned). record { target = p.number; nodes = numbers_added plan a }) o) (filter_map (schema_augment plan) xs)) ≡ suc (length xs)
      by None is rest = absurd (false≢true is)
      by (Some p) is rest = ap suc rest

  counts_kept : (f : Forest Source) → ((a : Augment) → Contains (augments_of f) a → is_some (target_found plan a) ≡ true)
      → map (λ (m : SchemaModule). length m.augments) (schema_modules plan f) ≡ augment_counts f
  counts_kept end found = refl
  counts_kept (node s below after) found = ap₂ (λ n ns. n ∷ ns)
      (length_kept (augments_in below) (λ a at. found a (Contains-append_left (augments_in below) (augments_of after) a at)))
      (counts_kept after (λ a at. found a (Contains-append_right (augments_in below) (augments_of after) a at)))

pub all_listed : (modules : Forest Statement) (schema : Schema) → compiled modules ≡ Ok schema
    → map (λ (m : SchemaModule). length m.augments) schema.modules ≡ augment_counts (sources_of modules)
all_listed modules schema e =
    let made = compiles modules schema e in
    let sources = sources_of modules in
    sym (ap (λ (s : Schema). map (λ (m : SchemaModule). length m.augments) s.modules) made.1)
    ∙ counts_kept (plan_of sources) sources (λ a at. each_listed sources a (none_left modules made.0) at)
