-- A node can hold the keys that it has by its label and its row: it has a flag for each that sets one, and where it refers to
-- a value, its type takes its own.
use Rattle.std.proofs.Common.{◌≡◌, ℕ, zero, suc, ◌+◌, ◌<◌, ◌≤◌, Bool, List, [], ◌∷◌, ◌++◌, Option, Some, None, option_map, refl, sym, ap, ◌∙◌, arith, subst}
use Rattle.std.specs.Prelude.{option_and_then, option_to_list}
use Rattle.std.specs.Option.{option_map_or}
use Rattle.std.specs.List.{flat_map}
use Rattle.std.proofs.lemmas.Option.{none-some}
use Rattle.yspec.specs.text.Text.{Text}
use Rattle.yspec.specs.types.Types.{Raw, Val, taken, app_tag_of}
use Rattle.yspec.specs.schema.Schema.{Schema, SchemaNode, Kind, LeafType, container, leaf, leaf_list, list, choice, case, type_in, node_at}
use Rattle.yspec.specs.document.Document.{Stored, Tree}
use Rattle.yspec.specs.document.Instances.{kind_value, value_of}
use Rattle.ystore_rows.specs.declared.row.NodeId.{NodeId}
use Rattle.ystore_rows.specs.declared.row.Row.{Row}
use Rattle.ystore_rows.specs.declared.row.Row.TheVariants.{Below}
use Rattle.ystore.specs.declared.key.Key as rust
use Rattle.ystore.specs.declared.key.Key.TheVariants as variants
use Rattle.ystore.specs.declared.nodes.Nodes.{Nodes}
use Rattle.ystore_tree.specs.Growing as shape
use Rattle.ystore_tree.specs.Hanging.{Branches, stored_of, tree_of}
use Rattle.ylive_facts.specs.Judging.{right, wrong, kind_judged, value_judged}
use Rattle.ylive_facts.specs.Keys.{Key, Holding, key_view, holdings, held_with, leaf_key, first_key, key_at, keys_from, kind_flags, flags_of, slots_of}
use Rattle.ylive_marks.specs.Keys.{Own, own_at, flag_of}
use Rattle.ylive_marks.specs.Totals.{StandsIn}
use Rattle.ylive_retell.specs.IsTold.{TellsOwn, wrong_in}
use Rattle.ylive_retell.specs.Joins.{fits_flag, HasOwn, CanHoldAll}
use Rattle.ylive_retell.specs.Standing.{Standing, Every, keys_held}
use Rattle.ylive_retell.specs.Unlike.{slot_in}
use Rattle.ylive_retell.proofs.EachLemmas.{every_join}
use Rattle.ylive_retell.proofs.KeyLemmas.{slot_is}

-- ---- how many flags

kinds_same : (distinct : Bool) (kind : Kind) → shape.kind_flags kind distinct ≡ kind_flags distinct kind
kinds_same distinct (container presence) = refl
kinds_same distinct (leaf type absence) = refl
kinds_same distinct (leaf_list type defaults amount) = refl
kinds_same distinct (list tuples amount) = omega arith
kinds_same distinct (choice default_case is_mandatory) = refl
kinds_same distinct case = refl

-- so many flags has a node
pub counts_same : (schema : Schema) (number : ℕ) → shape.flag_count schema number ≡ flags_of schema number
counts_same schema number = by (node_at schema number)
  where
    by : (n : Option SchemaNode) → option_map_or (λ (n : SchemaNode). shape.kind_flags n.kind n.distinct_items) n 0 ≡ option_map_or (λ (n : SchemaNode). kind_flags n.distinct_items n.kind) n 0
    by None = refl
    by (Some n) = kinds_same n.distinct_items n.kind

-- ---- a node that refers to a value has one that its type takes

module _ (key : Key) (type : LeafType) where
  took : (o : Option Val) (tag : Option Text) → option_and_then (leaf_key type) o ≡ Some key → option_map_or (λ (v : Val). right) o (wrong tag) ≡ right
  took None tag e = absurd (none-some key e)
  took (Some v) tag e = refl

  valued : (value : Option Raw) → option_and_then (leaf_key type) (option_and_then (taken type.type) value) ≡ Some key → kind_judged (Some type.type) value ≡ right
  valued None e = absurd (none-some key e)
  valued (Some raw) e = took (taken type.type raw) (app_tag_of type.type raw) e

-- a node that holds a key at its first slot has no value, or a right one
module _ (schema : Schema) (above : Row) (s : Stored) (below : Tree) (key : Key) where
  first_kind : (kind : Kind) → value_of schema s ≡ option_and_then (kind_value kind) s.value → first_key schema kind above s below ≡ Some key
      → kind_judged (option_map (λ type. type.type) (type_in kind)) s.value ≡ right
  first_kind (leaf type absence) same e = valued key type s.value (sym (ap (option_and_then (leaf_key type)) same) ∙ e)
  first_kind (leaf_list type defaults amount) same e = valued key type s.value (sym (ap (option_and_then (leaf_key type)) same) ∙ e)
  first_kind (container presence) same e = refl
  first_kind (list tuples amount) same e = refl
  first_kind (choice default_case is_mandatory) same e = refl
  first_kind case same e = refl

  first_right : key_at schema above s below 0 ≡ Some key → value_judged schema s ≡ right
  first_right is = by (node_at schema s.schema_number) refl is
    where
      by : (o : Option SchemaNode) → node_at schema s.schema_number ≡ o
          → option_and_then (λ (n : SchemaNode). first_key schema n.kind above s below) o ≡ Some key
          → option_map_or (λ (n : SchemaNode). kind_judged (option_map (λ type. type.type) (type_in n.kind)) s.value) o right ≡ right
      by None found e = refl
      by (Some n) found e =
          first_kind n.kind (ap (λ (o : Option SchemaNode). option_and_then (λ (m : SchemaNode). option_and_then (kind_value m.kind) s.value) o) found) e

-- ---- by slots

-- a node can hold a key at a slot
abbrev pub fits_slot : ℕ → Own → Type 0
fits_slot zero own = own.wrong ≡ None
fits_slot (suc u) own = u < own.flags

fit_same : (k : rust.Key) (own : Own) → fits_slot (slot_in (key_view k)) own → fits_flag (flag_of k) own
fit_same (variants.Value schema v) own fits = fits
fit_same (variants.Item row schema v) own fits = fits
fit_same (variants.Tuple row schema u vs) own fits = fits
fit_same (variants.Texts row schema texts) own fits = fits

has_same : (k : rust.Key) (o : Option Own) → HasOwn o (fits_slot (slot_in (key_view k))) → HasOwn o (fits_flag (flag_of k))
has_same k None has = has
has_same k (Some own) has = fit_same k own has

module _ (nodes : Nodes) (f : Branches) where
  abbrev pub CanHoldAt : Holding → Type 0
  CanHoldAt h = StandsIn (Below h.1) f × HasOwn (own_at nodes (Below h.1)) (fits_slot (slot_in h.0))

  hold_views : (pairs : List (rust.Key × NodeId)) → Every CanHoldAt (holdings pairs) → CanHoldAll nodes f pairs
  hold_views [] all = tt
  hold_views (p ∷ ps) all = ((all.0.0, has_same p.0 (own_at nodes (Below p.1)) all.0.1), hold_views ps all.1)

  -- the keys at slots below a bound
  hold_from : (id : NodeId) (at : ℕ → Option Key) (bound : ℕ) → ((slot : ℕ) (key : Key) → at slot ≡ Some key → slot < bound → CanHoldAt (key, id))
      → (first more : ℕ) → first + more ≤ bound → Every CanHoldAt (held_with id (keys_from at first more))
  hold_from id at bound can first zero within = tt
  hold_from id at bound can first (suc more) within = by (at first) refl (hold_from id at bound can (first + 1) more (omega (arith, within)))
    where
      by : (o : Option Key) → at first ≡ o → Every CanHoldAt (held_with id (keys_from at (first + 1) more))
          → Every CanHoldAt (held_with id (option_to_list o ++ keys_from at (first + 1) more))
      by None is rest = rest
      by (Some key) is rest = (can first key is (omega (arith, within)), rest)

  module _ (schema : Schema) where
    fits : (s : Standing) (tells : TellsOwn schema nodes s.row s.label s.below) (slot : ℕ) (key : Key)
        → key_at schema s.row (stored_of s.label) (tree_of s.below) slot ≡ Some key → slot < slots_of schema s.label.schema.0 → fits_slot slot tells.own
    fits s tells zero key is less = tells.is_wrong ∙ ap wrong_in (first_right schema s.row (stored_of s.label) (tree_of s.below) key is)
    fits s tells (suc u) key is less = let flags = tells.are_flags ∙ counts_same schema s.label.schema.0 in omega (arith, flags, less)

    holds_at : (s : Standing) → StandsIn (Below s.label.id) f → TellsOwn schema nodes s.row s.label s.below → (slot : ℕ) (key : Key)
        → key_at schema s.row (stored_of s.label) (tree_of s.below) slot ≡ Some key → slot < slots_of schema s.label.schema.0 → CanHoldAt (key, s.label.id)
    holds_at s stands tells slot key is less = (
      stands,
      subst (λ o. HasOwn o (fits_slot (slot_in key))) (sym tells.held)
          (subst (λ k. fits_slot k tells.own) (sym (slot_is schema s.row (stored_of s.label) (tree_of s.below) slot key is)) (fits s tells slot key is less)),
    )

    hold_held : (ss : List Standing) → Every (λ s. StandsIn (Below s.label.id) f × TellsOwn schema nodes s.row s.label s.below) ss
        → Every CanHoldAt (flat_map (keys_held schema) ss)
    hold_held [] all = tt
    hold_held (s ∷ ss) all =
        every_join CanHoldAt (keys_held schema s) (flat_map (keys_held schema) ss)
        (hold_from s.label.id (key_at schema s.row (stored_of s.label) (tree_of s.below)) (slots_of schema s.label.schema.0)
        (holds_at s all.0.0 all.0.1) 0 (slots_of schema s.label.schema.0) (omega arith))
        (hold_held ss all.1)

pub can_hold_all : (schema : Schema) (nodes : Nodes) (f : Branches) (ss : List Standing) (pairs : List (rust.Key × NodeId))
    → ((P : Holding → Type 0) → Every P (flat_map (keys_held schema) ss) → Every P (holdings pairs))
    → Every (λ s. StandsIn (Below s.label.id) f × TellsOwn schema nodes s.row s.label s.below) ss → CanHoldAll nodes f pairs
can_hold_all schema nodes f ss pairs part all =
    hold_views nodes f pairs (part (CanHoldAt nodes f) (hold_held nodes f schema ss all))
