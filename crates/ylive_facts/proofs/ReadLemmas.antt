-- How many reading calls find the keys of a node: for each name in keys and uniques as many as the schema has levels, and four, at most.
use Rattle.std.proofs.Common.{◌≡◌, ℕ, zero, suc, ◌+◌, ◌*◌, ◌-◌, ◌<◌, ◌≤◌, Bool, true, false, List, [], ◌∷◌, map, length, Option, Some, None, refl, sym, ap, ◌∙◌, subst, arith}
use Rattle.std.specs.Prelude.{slice_get, sum_by, unwrap_or}
use Rattle.std.specs.List.{AllByRecursion, range_with_len}
use Rattle.std.specs.Option.{option_map_or}
use Rattle.std.proofs.lemmas.List.{length-map}
use Rattle.std.proofs.lemmas.List.Sums.{sum_by-cons}
use Rattle.std.proofs.lemmas.Nat.{mul-le}
use Rattle.yspec.specs.Forest as forest
use Rattle.yspec.specs.schema.Schema.{Schema, SchemaNode, Kind, container, leaf, leaf_list, list, choice, case, LeafPath, Tuples, node_at}
use Rattle.yspec.specs.document.Instances.{own_path, paths_of}
use Rattle.yspec_fit.specs.Fit.{PathsWithin, IsFit}
use Rattle.yspec_reach.specs.Sizes.{levels, name_count}
use Rattle.ylive_facts.specs.Keys.{kind_flags, slots_of}
use Rattle.ylive_facts.specs.Reads.{path_reads, slot_reads, key_reads, keys_reads, names_of}
use Rattle.ylive_facts.proofs.PathLemmas.{PathsWithinAt, paths_at}

-- ---- paths

pub own_reads : (keys : List ℕ) → path_reads (map own_path keys) ≡ 2 * length keys
own_reads [] = refl
own_reads (k ∷ ks) =
    let e : path_reads (map own_path (k ∷ ks)) ≡ 2 + path_reads (map own_path ks) = sum_by-cons (λ (path : LeafPath). length path + 1) (own_path k) (map own_path ks) in
    let rest = own_reads ks in omega (arith, e, rest)

few_reads : (most : ℕ) (paths : List LeafPath) → AllByRecursion (λ (path : LeafPath). length path ≤ most) paths → path_reads paths ≤ (most + 1) * length paths
few_reads most [] all = omega arith
few_reads most (path ∷ paths) all =
    let e : path_reads (path ∷ paths) ≡ (length path + 1) + path_reads paths = sum_by-cons (λ (path : LeafPath). length path + 1) path paths in
    let here = all.0 in
    let rest = few_reads most paths all.1 in
    let l : length (path ∷ paths) ≡ suc (length paths) = refl in
    omega (arith, e, here, rest, l)

-- ---- slots

-- those of uniques, from one on
unique_slots : (reads : ℕ → ℕ) (most slot : ℕ) (uniques : List (List LeafPath)) → AllByRecursion (AllByRecursion (λ (path : LeafPath). length path ≤ most)) uniques
    → ((u : ℕ) → reads (slot + u) ≡ path_reads (unwrap_or (slice_get uniques u) [])) → sum_by reads (range_with_len slot (length uniques)) ≤ (most + 1) * sum_by length uniques
unique_slots reads most slot [] all each = omega arith
unique_slots reads most slot (paths ∷ others) all each =
    let here : reads slot ≡ path_reads paths = ap reads (omega arith) ∙ each 0 in
    let few = few_reads most paths all.0 in
    let e : (most + 1) * sum_by length (paths ∷ others) ≡ (most + 1) * (length paths + sum_by length others) = ap (λ k. (most + 1) * k) (sum_by-cons (λ (ps : List LeafPath). length ps) paths others) in
    let s : sum_by reads (range_with_len slot (length (paths ∷ others))) ≡ reads slot + sum_by reads (range_with_len (slot + 1) (length others)) = sum_by-cons reads slot (range_with_len (slot + 1) (length others)) in
    let rest = unique_slots reads most (slot + 1) others all.1 (λ u. ap reads (omega arith) ∙ each (suc u)) in
    omega (arith, here, few, e, s, rest)

list_sums : (deep most keys names first second others : ℕ) → 4 ≤ deep → most + 1 ≤ deep → first ≡ 2 * keys → second ≡ 2 * keys → others ≤ (most + 1) * names
    → first + (second + others) ≤ 2 + deep * (keys + names)
list_sums deep most keys names first second others some up is_first is_second few =
    let x : 4 * keys ≤ deep * keys = mul-le _ _ _ _ some (omega arith) in
    let y : (most + 1) * names ≤ deep * names = mul-le _ _ _ _ up (omega arith) in
    omega (arith, is_first, is_second, few, x, y)

two_slots : (f : ℕ → ℕ) (more : ℕ) → sum_by f (range_with_len 0 (1 + (1 + more))) ≡ f 0 + (f 1 + sum_by f (range_with_len 2 more))
two_slots f more =
    let e : 1 + (1 + more) ≡ suc (suc more) = omega arith in
    ap (λ n. sum_by f (range_with_len 0 n)) e
    ∙ (sum_by-cons f 0 (1 ∷ range_with_len 2 more) ∙ ap (λ n. f 0 + n) (sum_by-cons f 1 (range_with_len 2 more)))

kind_slots : (deep most : ℕ) (distinct : Bool) (k : Kind) → 4 ≤ deep → most + 1 ≤ deep → PathsWithin most k
    → sum_by (slot_reads k) (range_with_len 0 (1 + kind_flags distinct k)) ≤ 2 + deep * name_count k
kind_slots deep most distinct (container presence) some up within = omega arith
kind_slots deep most distinct (leaf type absence) some up within = omega arith
kind_slots deep most true (leaf_list type defaults amount) some up within = omega arith
kind_slots deep most false (leaf_list type defaults amount) some up within = omega arith
kind_slots deep most distinct (list tuples amount) some up within =
    let sum = two_slots (slot_reads (list tuples amount)) (length tuples.uniques) in
    let few = list_sums deep most (length tuples.keys) (sum_by length tuples.uniques) (2 * length tuples.keys) (path_reads (map own_path tuples.keys))
    (sum_by (slot_reads (list tuples amount)) (range_with_len 2 (length tuples.uniques))) some up refl (own_reads tuples.keys)
    (unique_slots (slot_reads (list tuples amount)) most 2 tuples.uniques within (λ u. let e : 2 + u ≡ suc (suc u) = omega arith in ap (slot_reads (list tuples amount)) e)) in
    omega (arith, sum, few)
kind_slots deep most distinct (choice default_case is_mandatory) some up within = omega arith
kind_slots deep most distinct case some up within = omega arith

-- ---- a schema node

node_slots : (deep most : ℕ) (o : Option SchemaNode) → 4 ≤ deep → most + 1 ≤ deep → PathsWithinAt most o
    → sum_by (λ slot. option_map_or (λ (n : SchemaNode). slot_reads n.kind slot) o 0) (range_with_len 0 (1 + option_map_or (λ (n : SchemaNode). kind_flags n.distinct_items n.kind) o 0))
    ≤ 2 + deep * option_map_or (λ (n : SchemaNode). name_count n.kind) o 0
node_slots deep most None some up within = omega arith
node_slots deep most (Some n) some up within = kind_slots deep most n.distinct_items n.kind some up within

pub few_keys : (s : Schema) (number : ℕ) → ∥ IsFit s ∥₁ → keys_reads s number (slots_of s number) ≤ 2 + (levels s + 4) * names_of s number
few_keys s number fit = node_slots (levels s + 4) (forest.levels s.nodes) (node_at s number) (omega arith) (omega arith) (paths_at s fit number)

-- the first of the slots that are left
pub next_slot : (reads : ℕ → ℕ) (slot slots : ℕ) → slot < slots
    → sum_by reads (range_with_len slot (slots - slot)) ≡ reads slot + sum_by reads (range_with_len (slot + 1) (slots - (slot + 1)))
next_slot reads slot slots less =
    let e : slots - slot ≡ suc (slots - (slot + 1)) = omega (arith, less) in
    ap (λ n. sum_by reads (range_with_len slot n)) e ∙ sum_by-cons reads slot (range_with_len (slot + 1) (slots - (slot + 1)))

-- the key at the first slot
pub first_read : (s : Schema) (number slot : ℕ) (n : SchemaNode) → slot ≡ 0 → node_at s number ≡ Some n → key_reads s number slot ≡ slot_reads n.kind 0
first_read s number slot n first is =
    ap (key_reads s number) first ∙ ap (λ (o : Option SchemaNode). option_map_or (λ (m : SchemaNode). slot_reads m.kind 0) o 0) is
