-- How many keys a node holds: two for each name in its list's key and uniques at most, and two at a leaf or item.
use Rattle.std.proofs.Common.{◌≡◌, ℕ, zero, suc, ◌+◌, ◌*◌, ◌≤◌, Bool, true, false, cond, List, [], ◌∷◌, ◌++◌, map, length, Option, Some, None, refl, sym, ap, ◌∙◌, arith, length-append}
use Rattle.std.specs.Prelude.{option_and_then, option_map, option_to_list, slice_get, sum_by, unwrap_or}
use Rattle.std.specs.List.{range_with_len}
use Rattle.std.specs.Option.{option_map_or}
use Rattle.std.proofs.lemmas.List.Sums.{sum_by-cons}
use Rattle.yspec.specs.schema.Schema.{Schema, SchemaNode, Kind, container, leaf, leaf_list, list, choice, case, LeafPath, Tuples, has_value, node_at}
use Rattle.yspec.specs.document.Document.{Stored, Tree}
use Rattle.yspec.specs.document.Instances.{Tuple, own_path, paths_of, tuple_of_paths}
use Rattle.yspec_reach.specs.Sizes.{name_count}
use Rattle.ystore_rows.specs.declared.row.Row.{Row}
use Rattle.ylive_facts.specs.Keys.{Key, tuple_key, entry_key, first_key, kind_key, kind_flags, key_at, keys_from, held_by, slots_of}

abbrev pub held_count : Kind → ℕ
held_count k = cond (has_value k) 2 (2 * name_count k)

-- one key at most
one_key : {A : Type 0} (o : Option A) → length (option_to_list o) ≤ 1
one_key None = omega arith
one_key (Some a) = omega arith

keys_few : (at : ℕ → Option Key) (most : ℕ → ℕ) → ((slot : ℕ) → length (option_to_list (at slot)) ≤ most slot) → (slot more : ℕ)
    → length (keys_from at slot more) ≤ sum_by most (range_with_len slot more)
keys_few at most few slot zero = omega arith
keys_few at most few slot (suc more) =
    let here = few slot in
    let rest = keys_few at most few (slot + 1) more in
    let parts = length-append (option_to_list (at slot)) (keys_from at (slot + 1) more) in
    let sum = sum_by-cons most slot (range_with_len (slot + 1) more) in
    omega (arith, here, rest, parts, sum)

-- ---- the keys of an entry

-- as many as names at a slot, where there are any
abbrev most_at : Tuples → ℕ → ℕ
most_at tuples zero = length tuples.keys
most_at tuples (suc u) = length (paths_of tuples u)

entry_few : (schema : Schema) (keys : List ℕ) (above : Row) (s : Stored) (below : Tree) → length (option_to_list (entry_key schema keys above s below)) ≤ length keys
entry_few schema [] above s below = omega arith
entry_few schema (k ∷ ks) above s below = let one = one_key (entry_key schema (k ∷ ks) above s below) in omega (arith, one)

tuple_few : (schema : Schema) (paths : List LeafPath) (below : Tree) (key : Tuple → Key)
    → length (option_to_list (option_map key (tuple_of_paths schema below paths))) ≤ length paths
tuple_few schema [] below key = omega arith
tuple_few schema (p ∷ ps) below key = let one = one_key (option_map key (tuple_of_paths schema below (p ∷ ps))) in omega (arith, one)

own_length : (keys : List ℕ) → length (map own_path keys) ≡ length keys
own_length [] = refl
own_length (k ∷ ks) = ap suc (own_length ks)

unique_names : (most : ℕ → ℕ) (slot : ℕ) (uniques : List (List LeafPath)) → ((u : ℕ) → most (slot + u) ≡ length (unwrap_or (slice_get uniques u) []))
    → sum_by most (range_with_len slot (length uniques)) ≡ sum_by length uniques
unique_names most slot [] each = refl
unique_names most slot (paths ∷ others) each =
    let here : most slot ≡ length paths = ap most (omega arith) ∙ each 0 in
    let rest = unique_names most (slot + 1) others (λ u. ap most (omega arith) ∙ each (suc u)) in
    let names = sum_by-cons (λ (ps : List LeafPath). length ps) paths others in
    let sum : sum_by most (range_with_len slot (length (paths ∷ others))) ≡ most slot + sum_by most (range_with_len (slot + 1) (length others)) =
    sum_by-cons most slot (range_with_len (slot + 1) (length others)) in
    omega (arith, here, rest, names, sum)

names_twice : (tuples : Tuples) → sum_by (most_at tuples) (range_with_len 0 (1 + (1 + length tuples.uniques))) ≤ 2 * (length tuples.keys + sum_by length tuples.uniques)
names_twice tuples =
    let most = most_at tuples in
    let count = length tuples.uniques in
    let slots : 1 + (1 + count) ≡ suc (suc count) = omega arith in
    let sum = ap (λ n. sum_by most (range_with_len 0 n)) slots ∙ (sum_by-cons most 0 (1 ∷ range_with_len 2 count) ∙ ap (λ n. most 0 + n) (sum_by-cons most 1 (range_with_len 2 count))) in
    let own = own_length tuples.keys in
    let uniques = unique_names most 2 tuples.uniques (λ u. let e : 2 + u ≡ suc (suc u) = omega arith in ap most e) in
    omega (arith, sum, own, uniques)

-- ---- the keys of a node

-- as many as may be at a slot
abbrev most_of : Kind → ℕ → ℕ
most_of (list tuples amount) slot = most_at tuples slot
most_of (leaf type absence) slot = 1
most_of (leaf_list type defaults amount) slot = 1
most_of _ slot = 0

abbrev most : Option SchemaNode → ℕ → ℕ
most None slot = 0
most (Some n) slot = most_of n.kind slot

module _ (schema : Schema) (above : Row) (s : Stored) (below : Tree) where
  first_few : (k : Kind) → length (option_to_list (first_key schema k above s below)) ≤ most_of k 0
  first_few (list tuples amount) = entry_few schema tuples.keys above s below
  first_few (leaf type absence) = one_key (first_key schema (leaf type absence) above s below)
  first_few (leaf_list type defaults amount) = one_key (first_key schema (leaf_list type defaults amount) above s below)
  first_few (container presence) = omega arith
  first_few (choice default_case is_mandatory) = omega arith
  first_few case = omega arith

  flagged_few : (distinct : Bool) (k : Kind) (u : ℕ) → length (option_to_list (kind_key schema distinct k above s below u)) ≤ most_of k (suc u)
  flagged_few distinct (list tuples amount) u = tuple_few schema (paths_of tuples u) below (tuple_key above s.schema_number u)
  flagged_few distinct (leaf_list type defaults amount) u = one_key (kind_key schema distinct (leaf_list type defaults amount) above s below u)
  flagged_few distinct (leaf type absence) u = omega arith
  flagged_few distinct (container presence) u = omega arith
  flagged_few distinct (choice default_case is_mandatory) u = omega arith
  flagged_few distinct case u = omega arith

  few_at : (o : Option SchemaNode) → node_at schema s.schema_number ≡ o → (slot : ℕ) → length (option_to_list (key_at schema above s below slot)) ≤ most o slot
  few_at None is zero = let e = ap (λ (x : Option SchemaNode). length (option_to_list (option_and_then (λ (n : SchemaNode). first_key schema n.kind above s below) x))) is in omega (arith, e)
  few_at None is (suc u) = let e = ap (λ (x : Option SchemaNode). length (option_to_list (option_and_then (λ (n : SchemaNode). kind_key schema n.distinct_items n.kind above s below u) x))) is in omega (arith, e)
  few_at (Some n) is zero =
      let e = ap (λ (x : Option SchemaNode). length (option_to_list (option_and_then (λ (n : SchemaNode). first_key schema n.kind above s below) x))) is in
      let few = first_few n.kind in omega (arith, e, few)
  few_at (Some n) is (suc u) =
      let e = ap (λ (x : Option SchemaNode). length (option_to_list (option_and_then (λ (n : SchemaNode). kind_key schema n.distinct_items n.kind above s below u) x))) is in
      let few = flagged_few n.distinct_items n.kind u in omega (arith, e, few)

kind_held : (distinct : Bool) (k : Kind) → sum_by (most_of k) (range_with_len 0 (1 + kind_flags distinct k)) ≤ held_count k
kind_held distinct (list tuples amount) = names_twice tuples
kind_held distinct (leaf type absence) = omega arith
kind_held true (leaf_list type defaults amount) = omega arith
kind_held false (leaf_list type defaults amount) = omega arith
kind_held distinct (container presence) = omega arith
kind_held distinct (choice default_case is_mandatory) = omega arith
kind_held distinct case = omega arith

pub few_held : (schema : Schema) (above : Row) (s : Stored) (below : Tree)
    → length (held_by schema above s below) ≤ option_map_or (λ (n : SchemaNode). held_count n.kind) (node_at schema s.schema_number) 0
few_held schema above s below = by (node_at schema s.schema_number) refl
  where
    sum : (o : Option SchemaNode) → sum_by (most o) (range_with_len 0 (1 + option_map_or (λ (n : SchemaNode). kind_flags n.distinct_items n.kind) o 0)) ≤ option_map_or (λ (n : SchemaNode). held_count n.kind) o 0
    sum None = omega arith
    sum (Some n) = kind_held n.distinct_items n.kind

    by : (o : Option SchemaNode) → node_at schema s.schema_number ≡ o
        → length (held_by schema above s below) ≤ option_map_or (λ (n : SchemaNode). held_count n.kind) (node_at schema s.schema_number) 0
    by o is =
        let few = keys_few (key_at schema above s below) (most o) (few_at schema above s below o is) 0 (slots_of schema s.schema_number) in
        let slots = ap (λ (x : Option SchemaNode). sum_by (most o) (range_with_len 0 (1 + option_map_or (λ (n : SchemaNode). kind_flags n.distinct_items n.kind) x 0))) is in
        let all = sum o in
        let held = ap (λ (x : Option SchemaNode). option_map_or (λ (n : SchemaNode). held_count n.kind) x 0) is in
        omega (arith, few, slots, all, held)
