-- The keys of a document whose row at the end of a way is changed: the nodes that go and those on the way leave theirs, and
-- then those that come and those on the way join theirs.
use Rattle.std.proofs.Common.{◌≡◌, ℕ, zero, suc, ◌+◌, ◌<◌, ◌≤◌, Bool, true, false, List, [], ◌∷◌, ◌++◌, length, min, Option, Some, None, refl, sym, ap, ap₂, ◌∙◌, arith, subst, cond}
use Rattle.std.specs.Option.{option_or}
use Rattle.std.specs.List.{flat_map}
use Rattle.yspec.specs.Forest.{end, node, join}
use Rattle.yspec.specs.schema.Schema.{Schema}
use Rattle.yschema_model.specs.declared.node.SchemaId.{SchemaId}
use Rattle.ystore_rows.specs.Rows as rows
use Rattle.ystore_rows.specs.declared.row.Row.{Row}
use Rattle.ystore_rows.specs.declared.row.Row.TheVariants.{Top, Below}
use Rattle.ystore_tree.specs.Hanging.{Numbered, Branches, stored_of, tree_of, children_of, is_number, times}
use Rattle.ystore_tree.specs.Changes.{put_at}
use Rattle.ystore_tree.specs.Swaps.{Swaps}
use Rattle.ystore_tree.specs.Ways.{Way, around, end_of}
use Rattle.ystore_tree.specs.declared.swapping.Change.{Change}
use Rattle.ystore_tree.specs.declared.swapping.Change.TheVariants.{Add, Put, Take, Move}
use Rattle.ystore_tree.proofs.HangingLemmas.{weigh_join, weigh_around}
use Rattle.ylive_facts.specs.Keys.{Key, key_at}
use Rattle.ylive_retell.specs.Assigned.{Assignment, has_at, key_in}
use Rattle.ylive_retell.specs.Each.{Each, beside_way, on_way}
use Rattle.ylive_retell.specs.Keyed.{HasKeys}
use Rattle.ylive_retell.specs.Standing.{Standing, Every, standing, on_the_way, keys_held}
use Rattle.ylive_retell.specs.Unlike.{Unlike, slot_in}
use Rattle.ylive_retell.proofs.EachLemmas.{every_first, every_second, every_join, each_join, each_first, each_second, each_there, each_around, each_again, each_other, each_standing, standing_each, way_each, each_way, around_again}
use Rattle.ylive_retell.proofs.KeyLemmas.{not_in, all_found}
use Rattle.ylive_retell.proofs.UnlikeLemmas.{not_in-append, not_standing, all_in, parts_way, not_on_way, unlike_both, has_none, none_has}

-- ---- rows

module _ (Q : Row → Numbered → Branches → Type 0) where
  pub each_put : (above : Row) (place : ℕ) (n : Numbered) (below f : Branches) → Q above n below → Each Q (Below n.id) below → Each Q above f
      → Each Q above (put_at place n below f)
  each_put above zero n below f here under all = (here, under, all)
  each_put above (suc place) n below end here under all = (here, under, tt)
  each_put above (suc place) n below (node m b after) here under all = (all.0, all.1, each_put above place n below after here under all.2)

-- a row that comes of a swap
module _ (Q R : Row → Numbered → Branches → Type 0) (above : Row) (f loose g left : Branches)
    (so : (r : Row) (n : Numbered) (below : Branches) → 0 < times n.id.0 f → times n.id.0 left ≡ 0 → Q r n below → R r n below)
    (once : (k : ℕ) → times k f ≤ 1) (all : Each Q above f) (new : Each R above loose) where
  without : (before : Branches) (from : Numbered) (under after : Branches) → f ≡ join before (node from under after) → left ≡ node from under end → Each R above (join before after)
  without before from under after was goes =
      let parted = subst (λ (h : Branches). Each Q above h) was all in
      each_join R above before after
      (each_other Q R above before (λ r n b more. let c = counts n.id.0 in so r n b (omega (arith, c, more)) (omega (arith, c, more)))
      (each_first Q above before (node from under after) parted))
      (each_other Q R above after (λ r n b more. let c = counts n.id.0 in so r n b (omega (arith, c, more)) (omega (arith, c, more)))
      (each_second Q above before (node from under after) parted).2)
    where
      counts : (k : ℕ) → (times k f ≡ times k before + (times k left + times k after)) × (times k f ≤ 1)
      counts k = (
        (let whole = weigh_join (is_number k) before (node from under after) in
            let is = ap (times k) was in
            let out = ap (times k) goes in
            omega (arith, whole, is, out)),
        once k,
      )

  pub each_swapped : (schema : SchemaId) (change : Change) → Swaps schema change f loose g left → Each R above g
  each_swapped schema (Add id) a =
      let fresh = subst (λ (h : Branches). Each R above h) a.beside new in
      subst (λ (h : Branches). Each R above h) (sym a.row)
      (each_put R above (rows.end_place a.label.schema (children_of f)) a.label a.below f fresh.0 fresh.1
      (each_other Q R above f (λ r n b more. so r n b more (ap (times n.id.0) a.none)) all))
  each_swapped schema (Put old id) p =
      let fresh = subst (λ (h : Branches). Each R above h) p.beside new in
      let others = without p.before p.from p.under p.after p.was p.goes in
      subst (λ (h : Branches). Each R above h) (sym p.row)
      (each_join R above p.before (node p.to p.below p.after) (each_first R above p.before p.after others)
      (fresh.0, fresh.1, each_second R above p.before p.after others))
  each_swapped schema (Take old place) t =
      subst (λ (h : Branches). Each R above h) (sym t.row) (without t.before t.from t.under t.after t.was t.goes)
  each_swapped schema (Move id from to) m =
      let whole = join m.before m.after in
      let same = subst (λ (h : Branches). Each R above h) m.was (each_other Q R above f (λ r n b more. so r n b more (ap (times n.id.0) m.none_left)) all) in
      let there = each_second R above m.before (node m.label m.under m.after) same in
      subst (λ (h : Branches). Each R above h) (sym m.row)
      (each_put R above (rows.first_place m.label.schema (children_of whole) + min to (length (rows.of_schema m.label.schema (children_of whole)))) m.label m.under whole there.0 there.1
      (each_join R above m.before m.after (each_first R above m.before (node m.label m.under m.after) same) there.2))

-- ---- keys

or_none : (o : Option Key) → option_or o None ≡ o
or_none None = refl
or_none (Some key) = refl

module _ (schema : Schema) (held now : Assignment Key) (way : Way) (f loose g left : Branches)
    (once : (k : ℕ) → times k (around way f) + times k loose ≤ 1) (once_new : (k : ℕ) → times k (around way g) + times k left ≤ 1)
    (same : (k : ℕ) → times k g + times k left ≡ times k f + times k loose)
    (outsiders : (k slot : ℕ) → times k (around way f) ≡ 0 → held k slot ≡ None)
    (keyed : Each (HasKeys schema held) Top (around way f)) (part : (k : ℕ) → times k left ≤ times k f) where
  abbrev pub above : Row
  above = end_of Top way

  abbrev pub gone : List Standing
  gone = standing above left ++ on_the_way Top way f

  abbrev pub come : List Standing
  come = standing above loose ++ on_the_way Top way g

  module _ (is : (k slot : ℕ) → now k slot ≡ option_or (key_in slot_in (flat_map (keys_held schema) come) k slot)
      (cond (has_at slot_in (flat_map (keys_held schema) gone) k slot) None (held k slot))) where
    whole : (k : ℕ) → times k (around way f) ≡ (beside_way k way + on_way k way) + times k f
    whole k = let all = weigh_around (is_number k) way f in let parts = parts_way k way in omega (arith, all, parts)

    whole_new : (k : ℕ) → times k (around way g) ≡ (beside_way k way + on_way k way) + times k g
    whole_new k = let all = weigh_around (is_number k) way g in let parts = parts_way k way in omega (arith, all, parts)

    pub unlike_gone : Unlike gone
    unlike_gone = unlike_both above way f left
        (λ k. let most = once k in let all = weigh_around (is_number k) way f in let p = part k in omega (arith, most, all, p))
        (λ k. let most = once k in omega (arith, most))

    pub unlike_come : Unlike come
    unlike_come = unlike_both above way g loose
        (λ k. let most = once k in let all = weigh_around (is_number k) way f in omega (arith, most, all))
        (λ k. let most = once_new k in omega (arith, most))

    -- nodes that neither go nor come nor stand on the way keep theirs
    others : (k slot : ℕ) → on_way k way ≡ 0 → times k left ≡ 0 → times k loose ≡ 0 → now k slot ≡ held k slot
    others k slot off out new =
        is k slot
        ∙ ap₂ (λ (o : Option Key) (b : Bool). option_or o (cond b None (held k slot)))
        (not_in schema come k slot (not_in-append k (standing above loose) (on_the_way Top way g) (not_standing k above loose new) (not_on_way k Top way g off)))
        (has_none (flat_map (keys_held schema) gone) k slot
        (not_in schema gone k slot (not_in-append k (standing above left) (on_the_way Top way f) (not_standing k above left out) (not_on_way k Top way f off))))

    abbrev pub Free : Standing → Type 0
    Free s = (slot : ℕ) → cond (has_at slot_in (flat_map (keys_held schema) gone) s.label.id.0 slot) None (held s.label.id.0 slot) ≡ None

    -- those on the way have left what they held
    left_keys : (s : Standing) → ((slot : ℕ) → key_in slot_in (flat_map (keys_held schema) gone) s.label.id.0 slot ≡ key_at schema s.row (stored_of s.label) (tree_of s.below) slot)
        → HasKeys schema held s.row s.label s.below → Free s
    left_keys s found has slot = by (has_at slot_in (flat_map (keys_held schema) gone) s.label.id.0 slot) refl
      where
        by : (b : Bool) → has_at slot_in (flat_map (keys_held schema) gone) s.label.id.0 slot ≡ b → cond b None (held s.label.id.0 slot) ≡ None
        by true e = refl
        by false e = has slot ∙ (sym (found slot) ∙ none_has (flat_map (keys_held schema) gone) s.label.id.0 slot e)

    all_left : (ss : List Standing)
        → Every (λ s. (slot : ℕ) → key_in slot_in (flat_map (keys_held schema) gone) s.label.id.0 slot ≡ key_at schema s.row (stored_of s.label) (tree_of s.below) slot) ss
        → Every (λ s. HasKeys schema held s.row s.label s.below) ss → Every Free ss
    all_left [] found has = tt
    all_left (s ∷ ss) found has = (left_keys s found.0 has.0, all_left ss found.1 has.1)

    -- the same nodes stand on the way before and after
    same_way : (r : Row) (w : Way) → Every Free (on_the_way r w f) → Every Free (on_the_way r w g)
    same_way r [] free = tt
    same_way r (frame ∷ w) free =
        every_join Free (on_the_way (Below frame.label.id) w g) (record { row = r; label = frame.label; below = around w g } ∷ [])
        (same_way (Below frame.label.id) w (every_first Free (on_the_way (Below frame.label.id) w f) (record { row = r; label = frame.label; below = around w f } ∷ []) free))
        (every_second Free (on_the_way (Below frame.label.id) w f) (record { row = r; label = frame.label; below = around w f } ∷ []) free)

    way_free : Every Free (on_the_way Top way g)
    way_free =
        same_way Top way
        (all_left (on_the_way Top way f)
        (every_second _ (standing above left) (on_the_way Top way f) (all_found schema gone unlike_gone))
        (each_way (HasKeys schema held) Top way f (each_around (HasKeys schema held) Top way f keyed)))

    new_free : (ss : List Standing) → Every (λ s. 1 ≤ times s.label.id.0 loose) ss → Every Free ss
    new_free [] new = tt
    new_free (s ∷ ss) new = (
      λ slot. by slot (has_at slot_in (flat_map (keys_held schema) gone) s.label.id.0 slot),
      new_free ss new.1,
    )
      where
        by : (slot : ℕ) (b : Bool) → cond b None (held s.label.id.0 slot) ≡ None
        by slot true = refl
        by slot false = outsiders s.label.id.0 slot (let most = once s.label.id.0 in let here = new.0 in omega (arith, most, here))

    keyed_now : (ss : List Standing)
        → Every (λ s. (slot : ℕ) → key_in slot_in (flat_map (keys_held schema) come) s.label.id.0 slot ≡ key_at schema s.row (stored_of s.label) (tree_of s.below) slot) ss
        → Every Free ss → Every (λ s. HasKeys schema now s.row s.label s.below) ss
    keyed_now [] found free = tt
    keyed_now (s ∷ ss) found free = (
      λ slot.
          is s.label.id.0 slot
          ∙ (ap₂ (λ (o p : Option Key). option_or o p) (found.0 slot) (free.0 slot) ∙ or_none (key_at schema s.row (stored_of s.label) (tree_of s.below) slot)),
      keyed_now ss found.1 free.1,
    )

    -- what comes and what stands on the way has no keys, once those that go and those on the way have left theirs
    pub all_free : Every Free come
    all_free = every_join Free (standing above loose) (on_the_way Top way g) (new_free (standing above loose) (all_in above loose)) way_free

    -- nor has what goes
    pub gone_free : Each (HasKeys schema held) above left → Every Free (standing above left)
    gone_free there =
        all_left (standing above left) (every_first _ (standing above left) (on_the_way Top way f) (all_found schema gone unlike_gone))
        (standing_each (HasKeys schema held) above left there)

    pub keys_kept : (schema_id : SchemaId) (change : Change) → Swaps schema_id change f loose g left → Each (HasKeys schema now) Top (around way g)
    keys_kept schema_id change swaps =
        let found = all_found schema come unlike_come in
        each_again (HasKeys schema now) Top way g
        (around_again (HasKeys schema held) (HasKeys schema now) Top way f g
        (λ r n below more has slot.
        let most = once n.id.0 in
        let all = whole n.id.0 in
        let p = part n.id.0 in
        others n.id.0 slot (omega (arith, most, all, more)) (omega (arith, most, all, more, p)) (omega (arith, most, all, more)) ∙ has slot)
        (each_around (HasKeys schema held) Top way f keyed)
        (way_each (HasKeys schema now) Top way g
        (keyed_now (on_the_way Top way g) (every_second _ (standing above loose) (on_the_way Top way g) found) way_free)))
        (each_swapped (HasKeys schema held) (HasKeys schema now) above f loose g left
        (λ r n below more out has slot.
        let most = once n.id.0 in
        let all = whole n.id.0 in
        others n.id.0 slot (omega (arith, most, all, more)) out (omega (arith, most, all, more)) ∙ has slot)
        (λ k. let most = once k in let all = whole k in omega (arith, most, all))
        (each_there (HasKeys schema held) Top way f keyed)
        (each_standing (HasKeys schema now) above loose
        (keyed_now (standing above loose) (every_first _ (standing above loose) (on_the_way Top way g) found) (new_free (standing above loose) (all_in above loose))))
        schema_id change swaps)
