-- The keys that nodes hold, at their slots.
use Rattle.std.proofs.Common.{◌≡◌, ℕ, zero, suc, ◌+◌, ◌<◌, ◌≤◌, Bool, true, false, ◌&&◌, List, [], ◌∷◌, ◌++◌, length, slice_get, Option, Some, None, option_map, refl, sym, ap, ap₂, ◌∙◌, arith, cond, eqb, ltb}
use Rattle.std.specs.Prelude.{option_and_then, option_to_list, unwrap_or}
use Rattle.std.specs.Option.{option_map_or, option_or}
use Rattle.std.specs.List.{flat_map}
use Rattle.std.proofs.lemmas.Bool.{eq-eqb, ne_eqb, eqb-true, ltb-true, ltb-false, false≢true}
use Rattle.std.proofs.lemmas.Option.{same_Some}
use Rattle.yspec.specs.schema.Schema.{Schema, SchemaNode, Kind, container, leaf, leaf_list, list, choice, case, LeafPath, Tuples, node_at}
use Rattle.yspec.specs.document.Document.{Stored, Tree}
use Rattle.yspec.specs.document.Instances.{tuple_of_paths, paths_of}
use Rattle.ystore_rows.specs.declared.row.NodeId.{NodeId}
use Rattle.ystore_rows.specs.declared.row.Row.{Row}
use Rattle.ylive_facts.specs.Keys.{Key, value_key, item_key, tuple_key, texts_key, slot_of, Holding, held_with, item_key_at, kind_key, flagged_key, key_at, kind_flags, flags_of, slots_of, keys_from}
use Rattle.ylive_facts.proofs.HeldLemmas.{held_slot}
use Rattle.ystore_tree.specs.Hanging.{stored_of, tree_of}
use Rattle.ylive_retell.specs.Assigned.{is_at, key_in}
use Rattle.ylive_retell.specs.Standing.{Standing, Every, keys_held}
use Rattle.ylive_retell.specs.Unlike.{NotIn, Unlike, slot_in}

-- ---- a key stands at its slot

slot_from : (key : Key) (slot : ℕ) → slot_of key ≡ Some slot → slot_in key ≡ slot
slot_from (value_key target v) slot e = same_Some 0 slot e
slot_from (item_key row number v) slot e = same_Some 1 slot e
slot_from (tuple_key row number u vs) slot e = same_Some (suc u) slot e
slot_from (texts_key row number texts) slot e = same_Some 0 slot e

module _ (schema : Schema) (above : Row) (s : Stored) (below : Tree) where
  pub slot_is : (slot : ℕ) (key : Key) → key_at schema above s below slot ≡ Some key → slot_in key ≡ slot
  slot_is slot key is = slot_from key slot (held_slot schema above s below slot key is)

  -- behind the slots of a node there are no keys
  none_behind : (u : ℕ) → flags_of schema s.schema_number ≤ u → flagged_key schema above s below u ≡ None
  none_behind u behind = by (node_at schema s.schema_number) behind
    where
      no_paths : (uniques : List (List LeafPath)) (u : ℕ) → length uniques ≤ u → slice_get uniques u ≡ None
      no_paths [] u more = refl
      no_paths (x ∷ xs) zero more = absurd (omega (arith, more))
      no_paths (x ∷ xs) (suc u) more = no_paths xs u (omega (arith, more))

      entry : (tuples : Tuples) (u : ℕ) → 1 + length tuples.uniques ≤ u → option_map (tuple_key above s.schema_number u) (tuple_of_paths schema below (paths_of tuples u)) ≡ None
      entry tuples zero more = absurd (omega (arith, more))
      entry tuples (suc u) more =
          ap (λ (o : Option (List LeafPath)). option_map (tuple_key above s.schema_number (suc u)) (tuple_of_paths schema below (unwrap_or o []))) (no_paths tuples.uniques u (omega (arith, more)))

      item : (distinct : Bool) (k : ℕ) → cond distinct 1 0 ≤ k → item_key_at schema distinct above s k ≡ None
      item true zero more = absurd (omega (arith, more))
      item false zero more = refl
      item distinct (suc k) more = refl

      kinds : (distinct : Bool) (k : Kind) → kind_flags distinct k ≤ u → kind_key schema distinct k above s below u ≡ None
      kinds distinct (list tuples amount) more = entry tuples u more
      kinds distinct (leaf_list type defaults amount) more = item distinct u more
      kinds distinct (container presence) more = refl
      kinds distinct (leaf type absence) more = refl
      kinds distinct (choice default_case is_mandatory) more = refl
      kinds distinct case more = refl

      by : (o : Option SchemaNode) → option_map_or (λ n. kind_flags n.distinct_items n.kind) o 0 ≤ u → option_and_then (λ n. kind_key schema n.distinct_items n.kind above s below u) o ≡ None
      by None more = refl
      by (Some n) more = kinds n.distinct_items n.kind more

-- ---- the keys of a node

and_false : (a : Bool) → (a && false) ≡ false
and_false true = refl
and_false false = refl

module _ (id : NodeId) (at : ℕ → Option Key) (stands : (slot : ℕ) (key : Key) → at slot ≡ Some key → slot_in key ≡ slot) where
  -- a key at one slot isn't at another
  off : (first number slot : ℕ) (key : Key) (rest : Option Key) → at first ≡ Some key → (first ≡ slot → ⊥)
      → cond (is_at slot_in number slot (key, id)) (Some key) rest ≡ rest
  off first number slot key rest is differ =
      ap (λ b. cond (eqb number id.0 && b) (Some key) rest) (ne_eqb slot (slot_in key) (λ e. differ (sym (stands first key is) ∙ sym e)))
      ∙ ap (λ b. cond b (Some key) rest) (and_false (eqb number id.0))

  pub below_first : (first more number slot : ℕ) → slot < first → key_in slot_in (held_with id (keys_from at first more)) number slot ≡ None
  below_first first zero number slot less = refl
  below_first first (suc more) number slot less = by (below_first (first + 1) more number slot (omega (arith, less))) (at first) refl
    where
      by : key_in slot_in (held_with id (keys_from at (first + 1) more)) number slot ≡ None
          → (o : Option Key) → at first ≡ o → key_in slot_in (held_with id (option_to_list o ++ keys_from at (first + 1) more)) number slot ≡ None
      by rest None is = rest
      by rest (Some key) is = off first number slot key (key_in slot_in (held_with id (keys_from at (first + 1) more)) number slot) is (λ e. omega (arith, less, e)) ∙ rest

  in_range : (first more slot : ℕ) → first ≤ slot → slot < first + more → key_in slot_in (held_with id (keys_from at first more)) id.0 slot ≡ at slot
  in_range first zero slot least less = absurd (omega (arith, least, less))
  in_range first (suc more) slot least less =
      by (λ beyond. in_range (first + 1) more slot beyond (omega (arith, less))) (at first) refl (eqb first slot) refl
    where
      beyond : (first ≡ slot → ⊥) → first + 1 ≤ slot
      beyond differ = grind (arith, least, differ)

      not_same : eqb first slot ≡ false → first ≡ slot → ⊥
      not_same e same = false≢true (sym e ∙ eq-eqb first slot same)

      by : (first + 1 ≤ slot → key_in slot_in (held_with id (keys_from at (first + 1) more)) id.0 slot ≡ at slot) → (o : Option Key) → at first ≡ o → (b : Bool) → eqb first slot ≡ b
          → key_in slot_in (held_with id (option_to_list o ++ keys_from at (first + 1) more)) id.0 slot ≡ at slot
      by behind None is true e =
          below_first (first + 1) more id.0 slot (let same = eqb-true first slot e in omega (arith, same)) ∙ (sym is ∙ ap at (eqb-true first slot e))
      by behind None is false e = behind (beyond (not_same e))
      by behind (Some key) is true e =
          ap (λ b. cond (b && eqb slot (slot_in key)) (Some key) (key_in slot_in (held_with id (keys_from at (first + 1) more)) id.0 slot)) (eq-eqb id.0 id.0 refl)
          ∙ (ap (λ b. cond b (Some key) (key_in slot_in (held_with id (keys_from at (first + 1) more)) id.0 slot)) (eq-eqb slot (slot_in key) (sym (stands first key is ∙ eqb-true first slot e)))
          ∙ (sym is ∙ ap at (eqb-true first slot e)))
      by behind (Some key) is false e = off first id.0 slot key (key_in slot_in (held_with id (keys_from at (first + 1) more)) id.0 slot) is (not_same e) ∙ behind (beyond (not_same e))

  beyond : (first more number slot : ℕ) → first + more ≤ slot → key_in slot_in (held_with id (keys_from at first more)) number slot ≡ None
  beyond first zero number slot least = refl
  beyond first (suc more) number slot least = by (beyond (first + 1) more number slot (omega (arith, least))) (at first) refl
    where
      by : key_in slot_in (held_with id (keys_from at (first + 1) more)) number slot ≡ None
          → (o : Option Key) → at first ≡ o → key_in slot_in (held_with id (option_to_list o ++ keys_from at (first + 1) more)) number slot ≡ None
      by rest None is = rest
      by rest (Some key) is = off first number slot key (key_in slot_in (held_with id (keys_from at (first + 1) more)) number slot) is (λ e. omega (arith, least, e)) ∙ rest

  other_node : (first more number slot : ℕ) → eqb number id.0 ≡ false → key_in slot_in (held_with id (keys_from at first more)) number slot ≡ None
  other_node first zero number slot other = refl
  other_node first (suc more) number slot other = by (other_node (first + 1) more number slot other) (at first)
    where
      by : key_in slot_in (held_with id (keys_from at (first + 1) more)) number slot ≡ None
          → (o : Option Key) → key_in slot_in (held_with id (option_to_list o ++ keys_from at (first + 1) more)) number slot ≡ None
      by rest None = rest
      by rest (Some key) =
          ap (λ b. cond (b && eqb slot (slot_in key)) (Some key) (key_in slot_in (held_with id (keys_from at (first + 1) more)) number slot)) other ∙ rest

-- ---- the keys of nodes

pub key_in-append : (xs ys : List Holding) (number slot : ℕ) → key_in slot_in (xs ++ ys) number slot ≡ option_or (key_in slot_in xs number slot) (key_in slot_in ys number slot)
key_in-append [] ys number slot = refl
key_in-append (x ∷ xs) ys number slot = by (is_at slot_in number slot x) (key_in-append xs ys number slot)
  where
    by : (b : Bool) → key_in slot_in (xs ++ ys) number slot ≡ option_or (key_in slot_in xs number slot) (key_in slot_in ys number slot)
        → cond b (Some x.0) (key_in slot_in (xs ++ ys) number slot) ≡ option_or (cond b (Some x.0) (key_in slot_in xs number slot)) (key_in slot_in ys number slot)
    by true rest = refl
    by false rest = rest

or_none : (o : Option Key) → option_or o None ≡ o
or_none None = refl
or_none (Some key) = refl

module _ (schema : Schema) where
  abbrev pub at_of : Standing → ℕ → Option Key
  at_of s = key_at schema s.row (stored_of s.label) (tree_of s.below)

  own_keys : (s : Standing) (slot : ℕ) → key_in slot_in (keys_held schema s) s.label.id.0 slot ≡ at_of s slot
  own_keys s slot = by (ltb slot (slots_of schema s.label.schema.0)) refl
    where
      behind_all : (slot : ℕ) → slots_of schema s.label.schema.0 ≤ slot → key_in slot_in (keys_held schema s) s.label.id.0 slot ≡ None
      behind_all slot least =
          beyond s.label.id (at_of s) (slot_is schema s.row (stored_of s.label) (tree_of s.below)) 0 (slots_of schema s.label.schema.0) s.label.id.0 slot (omega (arith, least))

      more : (slot : ℕ) → slots_of schema s.label.schema.0 ≤ slot → key_in slot_in (keys_held schema s) s.label.id.0 slot ≡ at_of s slot
      more zero least = absurd (omega (arith, least))
      more (suc u) least =
          behind_all (suc u) least ∙ sym (none_behind schema s.row (stored_of s.label) (tree_of s.below) u (omega (arith, least)))

      by : (b : Bool) → ltb slot (slots_of schema s.label.schema.0) ≡ b → key_in slot_in (keys_held schema s) s.label.id.0 slot ≡ at_of s slot
      by true e =
          in_range s.label.id (at_of s) (slot_is schema s.row (stored_of s.label) (tree_of s.below)) 0 (slots_of schema s.label.schema.0) slot (omega arith)
          (let less = ltb-true slot (slots_of schema s.label.schema.0) e in omega (arith, less))
      by false e = more slot (ltb-false slot (slots_of schema s.label.schema.0) e)

  other_keys : (s : Standing) (number slot : ℕ) → eqb number s.label.id.0 ≡ false → key_in slot_in (keys_held schema s) number slot ≡ None
  other_keys s number slot other =
      other_node s.label.id (at_of s) (slot_is schema s.row (stored_of s.label) (tree_of s.below)) 0 (slots_of schema s.label.schema.0) number slot other

  pub not_in : (ss : List Standing) (number slot : ℕ) → NotIn number ss → key_in slot_in (flat_map (keys_held schema) ss) number slot ≡ None
  not_in [] number slot none = refl
  not_in (s ∷ ss) number slot none =
      key_in-append (keys_held schema s) (flat_map (keys_held schema) ss) number slot
      ∙ ap₂ (λ (o p : Option Key). option_or o p) (other_keys s number slot none.0) (not_in ss number slot none.1)

  -- each holds its keys, and no others
  abbrev pub Found : List Holding → Standing → Type 0
  Found held s = (slot : ℕ) → key_in slot_in held s.label.id.0 slot ≡ at_of s slot

  found_behind : (s : Standing) (held : List Holding) (ss : List Standing) → NotIn s.label.id.0 ss → Every (Found held) ss → Every (Found (keys_held schema s ++ held)) ss
  found_behind s held [] none found = tt
  found_behind s held (t ∷ ts) none found = (
    λ slot.
        key_in-append (keys_held schema s) held t.label.id.0 slot
        ∙ (ap (λ o. option_or o (key_in slot_in held t.label.id.0 slot)) (other_keys s t.label.id.0 slot (flip none.0)) ∙ found.0 slot),
    found_behind s held ts none.1 found.1,
  )
    where
      flip : eqb s.label.id.0 t.label.id.0 ≡ false → eqb t.label.id.0 s.label.id.0 ≡ false
      flip e = grind (arith, e)

  pub all_found : (ss : List Standing) → Unlike ss → Every (Found (flat_map (keys_held schema) ss)) ss
  all_found [] unlike = tt
  all_found (s ∷ ss) unlike = (
    λ slot.
        key_in-append (keys_held schema s) (flat_map (keys_held schema) ss) s.label.id.0 slot
        ∙ (ap₂ (λ (o p : Option Key). option_or o p) (own_keys s slot) (not_in ss s.label.id.0 slot unlike.0) ∙ or_none (at_of s slot)),
    found_behind s (flat_map (keys_held schema) ss) ss unlike.0 (all_found ss unlike.1),
  )
