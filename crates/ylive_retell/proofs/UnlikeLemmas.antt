-- Nodes that hang in a store have numbers of their own, so their keys are distinct.
use Rattle.std.proofs.Common.{◌≡◌, ℕ, zero, suc, ◌+◌, ◌≤◌, Bool, true, false, ◌||◌, List, [], ◌∷◌, ◌++◌, Option, Some, None, refl, sym, ap, ap₂, ◌∙◌, arith, cond, eqb}
use Rattle.std.specs.Prelude.{option_to_list}
use Rattle.std.specs.List.{flat_map}
use Rattle.std.proofs.lemmas.Bool.{ne_eqb, eq-eqb, false≢true}
use Rattle.std.proofs.lemmas.Option.{none-some}
use Rattle.yspec.specs.Forest.{end, node}
use Rattle.yspec.specs.schema.Schema.{Schema}
use Rattle.ystore_rows.specs.declared.row.NodeId.{NodeId}
use Rattle.ystore_rows.specs.declared.row.Row.{Row}
use Rattle.ystore_rows.specs.declared.row.Row.TheVariants.{Top, Below}
use Rattle.ystore_tree.specs.Hanging.{Numbered, Branches, stored_of, tree_of, is_number, times}
use Rattle.ystore_tree.specs.Ways.{Way, around}
use Rattle.ystore_tree.proofs.HangingLemmas.{weigh_join, outside, is_itself}
use Rattle.ylive_facts.specs.Keys.{Key, Holding, held_with, keys_from, key_at, slots_of}
use Rattle.ylive_retell.specs.Assigned.{is_at, has_at, key_in, AreDistinct}
use Rattle.ylive_retell.specs.Each.{beside_way, on_way}
use Rattle.ylive_retell.specs.Standing.{Standing, Every, standing, on_the_way, keys_held}
use Rattle.ylive_retell.specs.Unlike.{NotIn, Unlike, slot_in}
use Rattle.ylive_retell.proofs.EachLemmas.{every_join}
use Rattle.ylive_retell.proofs.KeyLemmas.{slot_is, below_first, not_in}

-- ---- lists

pub every_map : {A : Type 0} (P Q : A → Type 0) → ((x : A) → P x → Q x) → (xs : List A) → Every P xs → Every Q xs
every_map P Q so [] all = tt
every_map P Q so (x ∷ xs) all = (so x all.0, every_map P Q so xs all.1)

pub not_in-append : (number : ℕ) (xs ys : List Standing) → NotIn number xs → NotIn number ys → NotIn number (xs ++ ys)
not_in-append number [] ys first second = second
not_in-append number (x ∷ xs) ys first second = (first.0, not_in-append number xs ys first.1 second)

pub unlike-append : (xs ys : List Standing) → Unlike xs → Unlike ys → Every (λ s. NotIn s.label.id.0 ys) xs → Unlike (xs ++ ys)
unlike-append [] ys first second apart = second
unlike-append (x ∷ xs) ys first second apart =
    (not_in-append x.label.id.0 xs ys first.0 apart.0, unlike-append xs ys first.1 second apart.1)

differs : (k : ℕ) (n : Numbered) → is_number k n ≡ 0 → eqb k n.id.0 ≡ false
differs k n none = ne_eqb k n.id.0 other
  where
    other : k ≡ n.id.0 → ⊥
    other same = let here : is_number k n ≡ 1 = ap (λ b. cond b 1 0) (eq-eqb n.id.0 k (sym same)) in omega (arith, none, here)

-- ---- what hangs on a row

pub not_standing : (k : ℕ) (above : Row) (f : Branches) → times k f ≡ 0 → NotIn k (standing above f)
not_standing k above end none = tt
not_standing k above (node n below after) none = (
  differs k n (omega (arith, none)),
  not_in-append k (standing (Below n.id) below) (standing above after) (not_standing k (Below n.id) below (omega (arith, none))) (not_standing k above after (omega (arith, none))),
)

abbrev In : Branches → Standing → Type 0
In f s = 1 ≤ times s.label.id.0 f

pub all_in : (above : Row) (f : Branches) → Every (In f) (standing above f)
all_in above end = tt
all_in above (node n below after) = (
  (let here = is_itself n in omega (arith, here)),
  every_join (In (node n below after)) (standing (Below n.id) below) (standing above after)
      (every_map (In below) (In (node n below after)) (λ s more. omega (arith, more)) (standing (Below n.id) below) (all_in (Below n.id) below))
      (every_map (In after) (In (node n below after)) (λ s more. omega (arith, more)) (standing above after) (all_in above after)),
)

pub unlike_standing : (above : Row) (f : Branches) → ((k : ℕ) → times k f ≤ 1) → Unlike (standing above f)
unlike_standing above end once = tt
unlike_standing above (node n below after) once = (
  not_in-append n.id.0 (standing (Below n.id) below) (standing above after)
      (not_standing n.id.0 (Below n.id) below (let most = once n.id.0 in let here = is_itself n in omega (arith, most, here)))
      (not_standing n.id.0 above after (let most = once n.id.0 in let here = is_itself n in omega (arith, most, here))),
  unlike-append (standing (Below n.id) below) (standing above after)
      (unlike_standing (Below n.id) below (λ k. let most = once k in omega (arith, most)))
      (unlike_standing above after (λ k. let most = once k in omega (arith, most)))
      (every_map (In below) (λ s. NotIn s.label.id.0 (standing above after))
      (λ s more. not_standing s.label.id.0 above after (let most = once s.label.id.0 in omega (arith, most, more)))
      (standing (Below n.id) below) (all_in (Below n.id) below)),
)

-- ---- the nodes on a way

pub parts_way : (k : ℕ) (way : Way) → outside (is_number k) way ≡ beside_way k way + on_way k way
parts_way k [] = refl
parts_way k (frame ∷ way) = let rest = parts_way k way in omega (arith, rest)

pub not_on_way : (k : ℕ) (above : Row) (way : Way) (f : Branches) → on_way k way ≡ 0 → NotIn k (on_the_way above way f)
not_on_way k above [] f none = tt
not_on_way k above (frame ∷ way) f none =
    not_in-append k (on_the_way (Below frame.label.id) way f) (record { row = above; label = frame.label; below = around way f } ∷ [])
    (not_on_way k (Below frame.label.id) way f (omega (arith, none))) (differs k frame.label (omega (arith, none)), tt)

all_on : (above : Row) (way : Way) (f : Branches) → Every (In (around way f)) (on_the_way above way f)
all_on above [] f = tt
all_on above (frame ∷ way) f =
    every_join (In (around (frame ∷ way) f)) (on_the_way (Below frame.label.id) way f) (record { row = above; label = frame.label; below = around way f } ∷ [])
    (every_map (In (around way f)) (In (around (frame ∷ way) f))
    (λ s more. let whole = weigh_join (is_number s.label.id.0) frame.before (node frame.label (around way f) frame.after) in omega (arith, whole, more))
    (on_the_way (Below frame.label.id) way f) (all_on (Below frame.label.id) way f)) (
      (let whole = weigh_join (is_number frame.label.id.0) frame.before (node frame.label (around way f) frame.after) in
          let here = is_itself frame.label in omega (arith, whole, here)),
      tt,
    )

pub unlike_way : (above : Row) (way : Way) (f : Branches) → ((k : ℕ) → times k (around way f) ≤ 1) → Unlike (on_the_way above way f)
unlike_way above [] f once = tt
unlike_way above (frame ∷ way) f once =
    unlike-append (on_the_way (Below frame.label.id) way f) (record { row = above; label = frame.label; below = around way f } ∷ [])
    (unlike_way (Below frame.label.id) way f
    (λ k. let most = once k in let whole = weigh_join (is_number k) frame.before (node frame.label (around way f) frame.after) in omega (arith, most, whole)))
    (tt, tt)
    (every_map (In (around way f)) (λ s. NotIn s.label.id.0 (record { row = above; label = frame.label; below = around way f } ∷ []))
    (λ s more. (
      differs s.label.id.0 frame.label
          (let most = once s.label.id.0 in
          let whole = weigh_join (is_number s.label.id.0) frame.before (node frame.label (around way f) frame.after) in
          omega (arith, most, whole, more)),
      tt,
    ))
    (on_the_way (Below frame.label.id) way f) (all_on (Below frame.label.id) way f))

-- nodes that stand beside a way, and those on it
pub unlike_both : (above : Row) (way : Way) (f part : Branches) → ((k : ℕ) → outside (is_number k) way + times k part ≤ 1)
    → ((k : ℕ) → times k (around way f) ≤ 1) → Unlike (standing above part ++ on_the_way Top way f)
unlike_both above way f part once all =
    unlike-append (standing above part) (on_the_way Top way f)
    (unlike_standing above part (λ k. let most = once k in omega (arith, most))) (unlike_way Top way f all)
    (every_map (In part) (λ s. NotIn s.label.id.0 (on_the_way Top way f))
    (λ s more. not_on_way s.label.id.0 Top way f (let most = once s.label.id.0 in let whole = parts_way s.label.id.0 way in omega (arith, most, more, whole)))
    (standing above part) (all_in above part))

-- ---- their keys

pub has_none : (ps : List Holding) (number slot : ℕ) → key_in slot_in ps number slot ≡ None → has_at slot_in ps number slot ≡ false
has_none [] number slot none = refl
has_none (p ∷ ps) number slot none = by (λ e. has_none ps number slot e) (is_at slot_in number slot p) none
  where
    by : (key_in slot_in ps number slot ≡ None → has_at slot_in ps number slot ≡ false)
        → (b : Bool) → cond b (Some p.0) (key_in slot_in ps number slot) ≡ None → (b || has_at slot_in ps number slot) ≡ false
    by rest true e = absurd (none-some p.0 (sym e))
    by rest false e = rest e

pub none_has : (ps : List Holding) (number slot : ℕ) → has_at slot_in ps number slot ≡ false → key_in slot_in ps number slot ≡ None
none_has [] number slot none = refl
none_has (p ∷ ps) number slot none = by (λ e. none_has ps number slot e) (is_at slot_in number slot p) none
  where
    by : (has_at slot_in ps number slot ≡ false → key_in slot_in ps number slot ≡ None)
        → (b : Bool) → (b || has_at slot_in ps number slot) ≡ false → cond b (Some p.0) (key_in slot_in ps number slot) ≡ None
    by rest true e = absurd (false≢true (sym e))
    by rest false e = rest e

has_at-append : (xs ys : List Holding) (number slot : ℕ) → has_at slot_in (xs ++ ys) number slot ≡ (has_at slot_in xs number slot || has_at slot_in ys number slot)
has_at-append [] ys number slot = refl
has_at-append (x ∷ xs) ys number slot = ap (λ b. is_at slot_in number slot x || b) (has_at-append xs ys number slot) ∙ assoc (is_at slot_in number slot x) (has_at slot_in xs number slot) (has_at slot_in ys number slot)
  where
    assoc : (a b c : Bool) → (a || (b || c)) ≡ ((a || b) || c)
    assoc true b c = refl
    assoc false b c = refl

distinct-append : (xs ys : List Holding) → AreDistinct slot_in xs → AreDistinct slot_in ys
    → Every (λ p. has_at slot_in ys p.1.0 (slot_in p.0) ≡ false) xs → AreDistinct slot_in (xs ++ ys)
distinct-append [] ys first second apart = second
distinct-append (x ∷ xs) ys first second apart = (
  has_at-append xs ys x.1.0 (slot_in x.0) ∙ ap₂ (λ (a b : Bool). a || b) first.0 apart.0,
  distinct-append xs ys first.1 second apart.1,
)

module _ (id : NodeId) (at : ℕ → Option Key) (stands : (slot : ℕ) (key : Key) → at slot ≡ Some key → slot_in key ≡ slot) where
  distinct_node : (first more : ℕ) → AreDistinct slot_in (held_with id (keys_from at first more))
  distinct_node first zero = tt
  distinct_node first (suc more) = by (distinct_node (first + 1) more) (at first) refl
    where
      by : AreDistinct slot_in (held_with id (keys_from at (first + 1) more))
          → (o : Option Key) → at first ≡ o → AreDistinct slot_in (held_with id (option_to_list o ++ keys_from at (first + 1) more))
      by rest None is = rest
      by rest (Some key) is = (
        has_none (held_with id (keys_from at (first + 1) more)) id.0 (slot_in key)
            (below_first id at stands (first + 1) more id.0 (slot_in key) (let same = stands first key is in omega (arith, same))),
        rest,
      )

  apart_from : (ys : List Holding) → ((slot : ℕ) → key_in slot_in ys id.0 slot ≡ None) → (first more : ℕ)
      → Every (λ p. has_at slot_in ys p.1.0 (slot_in p.0) ≡ false) (held_with id (keys_from at first more))
  apart_from ys none first zero = tt
  apart_from ys none first (suc more) = by (apart_from ys none (first + 1) more) (at first)
    where
      by : Every (λ p. has_at slot_in ys p.1.0 (slot_in p.0) ≡ false) (held_with id (keys_from at (first + 1) more))
          → (o : Option Key) → Every (λ p. has_at slot_in ys p.1.0 (slot_in p.0) ≡ false) (held_with id (option_to_list o ++ keys_from at (first + 1) more))
      by rest None = rest
      by rest (Some key) = (has_none ys id.0 (slot_in key) (none (slot_in key)), rest)

pub distinct : (schema : Schema) (ss : List Standing) → Unlike ss → AreDistinct slot_in (flat_map (keys_held schema) ss)
distinct schema [] unlike = tt
distinct schema (s ∷ ss) unlike =
    let at = key_at schema s.row (stored_of s.label) (tree_of s.below) in
    let stands = slot_is schema s.row (stored_of s.label) (tree_of s.below) in
    distinct-append (keys_held schema s) (flat_map (keys_held schema) ss)
    (distinct_node s.label.id at stands 0 (slots_of schema s.label.schema.0)) (distinct schema ss unlike.1)
    (apart_from s.label.id at stands (flat_map (keys_held schema) ss) (λ slot. not_in schema ss s.label.id.0 slot unlike.0) 0 (slots_of schema s.label.schema.0))
