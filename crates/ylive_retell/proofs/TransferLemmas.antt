-- Keys of a store and their views: what holds of the one holds of the other.
use Rattle.std.proofs.Common.{◌≡◌, ℕ, zero, suc, ◌+◌, Bool, true, false, ◌&&◌, ◌||◌, List, [], ◌∷◌, ◌++◌, Option, Some, None, option_map, refl, sym, ap, ap₂, ◌∙◌, cond, eqb}
use Rattle.std.specs.Prelude.{option_to_list}
use Rattle.std.specs.Option.{option_map_or, option_or}
use Rattle.std.specs.List.{flat_map}
use Rattle.std.proofs.lemmas.Option.{none-some, same_Some}
use Rattle.yspec.specs.schema.Schema.{Schema}
use Rattle.ystore.specs.Store.{same_key}
use Rattle.ystore_rows.specs.declared.row.NodeId.{NodeId}
use Rattle.ystore.specs.declared.key.Key as rust
use Rattle.ystore.specs.declared.key.Key.TheVariants as variants
use Rattle.ystore_tree.specs.Hanging.{stored_of, tree_of}
use Rattle.ylive_facts.specs.Keys.{Key, Holding, key_view, holdings, held_with, key_at, keys_from, slots_of}
use Rattle.ylive_marks.specs.Keys.{Keys, slot_of}
use Rattle.ylive_retell.specs.Assigned.{Assignment, is_at, joined, left, has_at, key_in, AreDistinct, NoneHeld, AllHeld}
use Rattle.ylive_retell.specs.Keyed.{HasKeys}
use Rattle.ylive_retell.specs.Standing.{Standing, Every, keys_held}
use Rattle.ylive_retell.specs.Unlike.{slot_in}
use Rattle.ylive_retell.proofs.AssignedLemmas.{joined_is, left_is}
use Rattle.ylive_retell.proofs.EachLemmas.{every_join}
use Rattle.ylive_retell.proofs.GrowingLemmas.{views_same}
use Rattle.ylive_retell.proofs.KeyLemmas.{slot_is}

pub same_slot : (k : rust.Key) → slot_of k ≡ slot_in (key_view k)
same_slot (variants.Value schema v) = refl
same_slot (variants.Item row schema v) = refl
same_slot (variants.Tuple row schema u vs) = refl
same_slot (variants.Texts row schema texts) = refl

at_same : (number slot : ℕ) (p : rust.Key × NodeId) → is_at slot_of number slot p ≡ is_at slot_in number slot (key_view p.0, p.1)
at_same number slot p = ap (λ s. eqb number p.1.0 && eqb slot s) (same_slot p.0)

pub has_same : (ps : List (rust.Key × NodeId)) (number slot : ℕ) → has_at slot_of ps number slot ≡ has_at slot_in (holdings ps) number slot
has_same [] number slot = refl
has_same (p ∷ ps) number slot = ap₂ (λ (a b : Bool). a || b) (at_same number slot p) (has_same ps number slot)

pub key_same : (ps : List (rust.Key × NodeId)) (number slot : ℕ) → option_map key_view (key_in slot_of ps number slot) ≡ key_in slot_in (holdings ps) number slot
key_same [] number slot = refl
key_same (p ∷ ps) number slot =
    out (is_at slot_of number slot p)
    ∙ ap₂ (λ (b : Bool) (o : Option Key). cond b (Some (key_view p.0)) o) (at_same number slot p) (key_same ps number slot)
  where
    out : (b : Bool) → option_map key_view (cond b (Some p.0) (key_in slot_of ps number slot)) ≡ cond b (Some (key_view p.0)) (option_map key_view (key_in slot_of ps number slot))
    out true = refl
    out false = refl

pub distinct_same : (ps : List (rust.Key × NodeId)) → AreDistinct slot_in (holdings ps) → AreDistinct slot_of ps
distinct_same [] distinct = tt
distinct_same (p ∷ ps) distinct = (
  has_same ps p.1.0 (slot_of p.0) ∙ (ap (has_at slot_in (holdings ps) p.1.0) (same_slot p.0) ∙ distinct.0),
  distinct_same ps distinct.1,
)

-- ---- keys that leave and join

abbrev pub viewed : Keys → Assignment Key
viewed held number slot = option_map key_view (held number slot)

view_cond : (b : Bool) (o : Option rust.Key) → option_map key_view (cond b None o) ≡ cond b None (option_map key_view o)
view_cond true o = refl
view_cond false o = refl

view_or : (o p : Option rust.Key) → option_map key_view (option_or o p) ≡ option_or (option_map key_view o) (option_map key_view p)
view_or None p = refl
view_or (Some k) p = refl

pub left_view : (ps : List (rust.Key × NodeId)) (held : Keys) (number slot : ℕ)
    → viewed (left slot_of ps held) number slot ≡ cond (has_at slot_in (holdings ps) number slot) None (viewed held number slot)
left_view ps held number slot =
    ap (option_map key_view) (left_is slot_of ps held number slot)
    ∙ (view_cond (has_at slot_of ps number slot) (held number slot) ∙ ap (λ b. cond b None (viewed held number slot)) (has_same ps number slot))

pub joined_view : (gone come : List (rust.Key × NodeId)) (held : Keys) → AreDistinct slot_of come → (number slot : ℕ)
    → viewed (joined slot_of come (left slot_of gone held)) number slot
    ≡ option_or (key_in slot_in (holdings come) number slot) (cond (has_at slot_in (holdings gone) number slot) None (viewed held number slot))
joined_view gone come held distinct number slot =
    ap (option_map key_view) (joined_is slot_of come (left slot_of gone held) distinct number slot)
    ∙ (view_or (key_in slot_of come number slot) (left slot_of gone held number slot)
    ∙ ap₂ (λ (o p : Option Key). option_or o p) (key_same come number slot) (left_view gone held number slot))

pub no_view : (o : Option rust.Key) → option_map key_view o ≡ None → o ≡ None
no_view None e = refl
no_view (Some k) e = absurd (none-some (key_view k) (sym e))

-- each pair is what a node holds at its slot
module _ (schema : Schema) (held : Assignment Key) where
  abbrev pub HeldSo : Holding → Type 0
  HeldSo p = held p.1.0 (slot_in p.0) ≡ Some p.0

  held_from : (id : NodeId) (at : ℕ → Option Key) → ((slot : ℕ) (key : Key) → at slot ≡ Some key → slot_in key ≡ slot) → ((slot : ℕ) → held id.0 slot ≡ at slot)
      → (first more : ℕ) → Every HeldSo (held_with id (keys_from at first more))
  held_from id at stands has first zero = tt
  held_from id at stands has first (suc more) = by (at first) refl (held_from id at stands has (first + 1) more)
    where
      by : (o : Option Key) → at first ≡ o → Every HeldSo (held_with id (keys_from at (first + 1) more))
          → Every HeldSo (held_with id (option_to_list o ++ keys_from at (first + 1) more))
      by None is rest = rest
      by (Some key) is rest = (ap (held id.0) (stands first key is) ∙ (has first ∙ is), rest)

  pub all_so : (ss : List Standing) → Every (λ s. HasKeys schema held s.row s.label s.below) ss → Every HeldSo (flat_map (keys_held schema) ss)
  all_so [] has = tt
  all_so (s ∷ ss) has =
      every_join HeldSo (keys_held schema s) (flat_map (keys_held schema) ss)
      (held_from s.label.id (key_at schema s.row (stored_of s.label) (tree_of s.below)) (slot_is schema s.row (stored_of s.label) (tree_of s.below)) has.0 0
      (slots_of schema s.label.schema.0))
      (all_so ss has.1)

  -- none of the pairs' slots is taken
  abbrev pub FreeSo : Holding → Type 0
  FreeSo p = (slot : ℕ) → held p.1.0 slot ≡ None

  free_with : (id : NodeId) → ((slot : ℕ) → held id.0 slot ≡ None) → (keys : List Key) → Every FreeSo (held_with id keys)
  free_with id free [] = tt
  free_with id free (k ∷ ks) = (free, free_with id free ks)

  pub all_free_so : (ss : List Standing) → Every (λ s. (slot : ℕ) → held s.label.id.0 slot ≡ None) ss → Every FreeSo (flat_map (keys_held schema) ss)
  all_free_so [] free = tt
  all_free_so (s ∷ ss) free =
      every_join FreeSo (keys_held schema s) (flat_map (keys_held schema) ss)
      (free_with s.label.id free.0 (keys_from (key_at schema s.row (stored_of s.label) (tree_of s.below)) 0 (slots_of schema s.label.schema.0)))
      (all_free_so ss free.1)

pub are_held : (schema : Schema) (held : Keys) (ps : List (rust.Key × NodeId)) → Every (HeldSo schema (viewed held)) (holdings ps) → AllHeld slot_of same_key held ps
are_held schema held [] so = tt
are_held schema held (p ∷ ps) so = (
  by (held p.1.0 (slot_of p.0)) (ap (viewed held p.1.0) (same_slot p.0) ∙ so.0),
  are_held schema held ps so.1,
)
  where
    by : (o : Option rust.Key) → option_map key_view o ≡ Some (key_view p.0) → option_map_or (same_key p.0) o false ≡ true
    by None e = absurd (none-some (key_view p.0) e)
    by (Some k) e = views_same p.0 k (sym (same_Some (key_view k) (key_view p.0) e))

pub none_held : (schema : Schema) (held : Keys) (ps : List (rust.Key × NodeId)) → Every (λ p. viewed held p.1.0 (slot_in p.0) ≡ None) (holdings ps) → NoneHeld slot_of held ps
none_held schema held [] free = tt
none_held schema held (p ∷ ps) free = (
  no_view (held p.1.0 (slot_of p.0)) (ap (viewed held p.1.0) (same_slot p.0) ∙ free.0),
  none_held schema held ps free.1,
)
