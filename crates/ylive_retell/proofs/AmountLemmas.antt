-- How many keys and values the nodes of a forest, and those on a way, have: two keys for each that a node weighs, and two for each
-- name on a way, at most.
use Rattle.std.proofs.Common.{◌≡◌, ℕ, ◌+◌, ◌*◌, ◌≤◌, Bool, true, false, cond, List, [], ◌∷◌, ◌++◌, map, length, Option, Some, None, refl, sym, ap, ◌∙◌, arith, length-append}
use Rattle.std.specs.Prelude.{sum_by}
use Rattle.std.specs.List.{flat_map}
use Rattle.std.specs.Option.{option_map_or}
use Rattle.std.proofs.lemmas.List.{length-map}
use Rattle.std.proofs.lemmas.List.Concat.{length-flat_map}
use Rattle.std.proofs.lemmas.List.Sums.{sum_by-cons, sum_by-append}
use Rattle.yspec.specs.schema.Schema.{Schema, SchemaNode, has_value, node_at}
use Rattle.yspec.specs.document.Document.{Stored}
use Rattle.yspec_reach.specs.Sizes.{name_count, part_size, weight}
use Rattle.ystore_rows.specs.declared.row.Row.{Row}
use Rattle.ystore_tree.specs.Hanging.{Branches, stored_of, tree_of}
use Rattle.ylive_facts.specs.Keys.{Holding, Key, held_by}
use Rattle.ylive_retell.specs.Standing.{Standing, standing, keys_held, all_held}
use Rattle.ylive_retell.proofs.HeldCountLemmas.{few_held, held_count}
use Rattle.ylive_retell.proofs.ReadLemmas.{weights, weights_standing}

light_held : (schema : Schema) (s : Stored) → option_map_or (λ (n : SchemaNode). held_count n.kind) (node_at schema s.schema_number) 0 ≤ 2 * weight schema s
light_held schema s = by (node_at schema s.schema_number) refl
  where
    test : (b : Bool) (names : ℕ) → cond b 2 (2 * names) ≤ 2 + 2 * names
    test true names = omega arith
    test false names = omega arith

    by : (o : Option SchemaNode) → node_at schema s.schema_number ≡ o
        → option_map_or (λ (n : SchemaNode). held_count n.kind) (node_at schema s.schema_number) 0 ≤ 2 * weight schema s
    by None is = let e = ap (λ (x : Option SchemaNode). option_map_or (λ (n : SchemaNode). held_count n.kind) x 0) is in omega (arith, e)
    by (Some n) is =
        let e = ap (λ (x : Option SchemaNode). option_map_or (λ (m : SchemaNode). held_count m.kind) x 0) is in
        let names = ap (λ (x : Option SchemaNode). option_map_or (λ (m : SchemaNode). name_count m.kind) x 0) is in
        let few = test (has_value n.kind) (name_count n.kind) in
        omega (arith, e, names, few)

keys_light : (schema : Schema) (n : Standing) → length (keys_held schema n) ≤ 2 * weight schema (stored_of n.label)
keys_light schema n =
    let held = held_by schema n.row (stored_of n.label) (tree_of n.below) in
    let pair : Key → Holding = λ key. (key, n.label.id) in
    let same = length-map held pair in
    let few = few_held schema n.row (stored_of n.label) (tree_of n.below) in
    let light = light_held schema (stored_of n.label) in
    omega (arith, same, few, light)

all_light : (schema : Schema) (all : List Standing) → sum_by (λ (n : Standing). length (keys_held schema n)) all ≤ 2 * weights schema all
all_light schema [] = omega arith
all_light schema (n ∷ ns) =
    let keys = sum_by-cons (λ (m : Standing). length (keys_held schema m)) n ns in
    let whole = sum_by-cons (λ (m : Standing). weight schema (stored_of m.label)) n ns in
    let here = keys_light schema n in
    let rest = all_light schema ns in
    omega (arith, keys, whole, here, rest)

-- the keys of the nodes of a part
pub part_keys : (schema : Schema) (above : Row) (f : Branches) → length (all_held schema above f) ≤ 2 * part_size schema (tree_of f)
part_keys schema above f =
    let sum = length-flat_map (keys_held schema) (standing above f) in
    let light = all_light schema (standing above f) in
    let whole = weights_standing schema above f in
    omega (arith, sum, light, whole)
