-- At which slots nodes have keys, and how many have one.
use Rattle.std.proofs.Common.{◌≡◌, ℕ, zero, suc, ◌+◌, ◌≤◌, Bool, true, false, cond, eqb, List, [], ◌∷◌, length, Option, Some, None, refl, sym, ap, ap₂, ◌∙◌, ◌&&◌, arith}
use Rattle.std.specs.Prelude.{option_map, option_and_then, unwrap_or}
use Rattle.std.specs.Option.{option_map_or}
use Rattle.std.proofs.lemmas.Bool.{eqb-true, eq-eqb, false≢true}
use Rattle.std.proofs.lemmas.Bool.Decides.{nat_tests}
use Rattle.std.proofs.lemmas.Option.{same_Some, none-some, slice_get_past}
use Rattle.yspec.specs.Forest.{end, node}
use Rattle.yspec.specs.text.Text.{Text}
use Rattle.yspec.specs.types.Types.{Val}
use Rattle.yspec.specs.types.Order.{same_value}
use Rattle.yspec.specs.schema.Schema.{Schema, SchemaNode, Kind, container, leaf, leaf_list, list, choice, case, Tuples, LeafPath, node_at}
use Rattle.yspec.specs.document.Document.{Stored, Tree}
use Rattle.yspec.specs.document.Instances.{Tuple, value_of, is_value, is_tuple, same_tuple, kind_tuple, tuple_of_paths, paths_of, tuples_in, items_in}
use Rattle.ystore_rows.specs.declared.row.Row.{Row}
use Rattle.ylive_facts.specs.Keys.{Key, value_key, item_key, tuple_key, texts_key, slot_of, is_held, times_held, texts_in, entry_key, first_key, kind_reference, reference_key, key_at, kind_key, item_key_at, kind_flags, slots_of, is_item, is_kind_item}
use Rattle.ylive_facts.proofs.ReferringLemmas.{refers_as}
use Rattle.ylive_facts.proofs.SameLemmas.{row_itself}

-- ---- slots

made_slot : {A : Type 0} (make : A → Key) (slot : ℕ) (o : Option A) (key : Key) → ((a : A) → slot_of (make a) ≡ Some slot) → option_map make o ≡ Some key → slot_of key ≡ Some slot
made_slot make slot None key each is = absurd (none-some key is)
made_slot make slot (Some a) key each is = ap slot_of (sym (same_Some (make a) key is)) ∙ each a

abbrev is_of_value : Key → Bool
is_of_value (value_key target v) = true
is_of_value (item_key row number v) = false
is_of_value (tuple_key row number u vs) = false
is_of_value (texts_key row number texts) = false

module _ (schema : Schema) (above : Row) (s : Stored) (below : Tree) where
  entry_slot : (numbers : List ℕ) (key : Key) → entry_key schema numbers above s below ≡ Some key → slot_of key ≡ Some 0
  entry_slot [] key is = absurd (none-some key is)
  entry_slot (number ∷ numbers) key is = made_slot (texts_key above s.schema_number) 0 (texts_in schema (number ∷ numbers) below) key (λ texts. refl) is

  referred_slot : (kind : Kind) (key : Key) → kind_reference schema kind s ≡ Some key → slot_of key ≡ Some 0
  referred_slot kind key is = refers_as (λ held. held ≡ Some key → slot_of key ≡ Some 0) (λ e. absurd (none-some key e))
      (λ target v e. sym (ap slot_of (same_Some (value_key target v) key e))) schema kind s is

  first_slot : (kind : Kind) (key : Key) → first_key schema kind above s below ≡ Some key → slot_of key ≡ Some 0
  first_slot (container presence) key is = referred_slot (container presence) key is
  first_slot (leaf type absence) key is = referred_slot (leaf type absence) key is
  first_slot (leaf_list type defaults amount) key is = referred_slot (leaf_list type defaults amount) key is
  first_slot (list tuples amount) key is = entry_slot tuples.keys key is
  first_slot (choice default_case is_mandatory) key is = referred_slot (choice default_case is_mandatory) key is
  first_slot case key is = referred_slot case key is

  node_slot : (n : Option SchemaNode) (key : Key) → option_and_then (λ (m : SchemaNode). first_key schema m.kind above s below) n ≡ Some key → slot_of key ≡ Some 0
  node_slot None key is = absurd (none-some key is)
  node_slot (Some n) key is = first_slot n.kind key is

  item_slot : (distinct : Bool) (u : ℕ) (key : Key) → item_key_at schema distinct above s u ≡ Some key → slot_of key ≡ Some (suc u)
  item_slot true zero key is = made_slot (item_key above s.schema_number) 1 (value_of schema s) key (λ v. refl) is
  item_slot false zero key is = absurd (none-some key is)
  item_slot distinct (suc u) key is = absurd (none-some key is)

  kind_slot : (distinct : Bool) (kind : Kind) (u : ℕ) (key : Key) → kind_key schema distinct kind above s below u ≡ Some key → slot_of key ≡ Some (suc u)
  kind_slot distinct (container presence) u key is = absurd (none-some key is)
  kind_slot distinct (leaf type absence) u key is = absurd (none-some key is)
  kind_slot distinct (leaf_list type defaults amount) u key is = item_slot distinct u key is
  kind_slot distinct (list tuples amount) u key is = made_slot (tuple_key above s.schema_number u) (suc u) (tuple_of_paths schema below (paths_of tuples u)) key (λ vs. refl) is
  kind_slot distinct (choice default_case is_mandatory) u key is = absurd (none-some key is)
  kind_slot distinct case u key is = absurd (none-some key is)

  flagged_slot : (n : Option SchemaNode) (u : ℕ) (key : Key) → option_and_then (λ (m : SchemaNode). kind_key schema m.distinct_items m.kind above s below u) n ≡ Some key → slot_of key ≡ Some (suc u)
  flagged_slot None u key is = absurd (none-some key is)
  flagged_slot (Some n) u key is = kind_slot n.distinct_items n.kind u key is

  pub held_slot : (slot : ℕ) (key : Key) → key_at schema above s below slot ≡ Some key → slot_of key ≡ Some slot
  held_slot zero key is = node_slot (node_at schema s.schema_number) key is
  held_slot (suc u) key is = flagged_slot (node_at schema s.schema_number) u key is

  -- ---- what a node refers to

  -- an entry refers to nothing
  kind_refers : (kind : Kind) (key : Key) → kind_reference schema kind s ≡ Some key → first_key schema kind above s below ≡ Some key
  kind_refers (container presence) key is = is
  kind_refers (leaf type absence) key is = is
  kind_refers (leaf_list type defaults amount) key is = is
  kind_refers (list tuples amount) key is = absurd (none-some key is)
  kind_refers (choice default_case is_mandatory) key is = is
  kind_refers case key is = is

  pub refers_first : (key : Key) → reference_key schema s ≡ Some key → key_at schema above s below 0 ≡ Some key
  refers_first key is = by (node_at schema s.schema_number) is
    where
      by : (n : Option SchemaNode) → option_and_then (λ (m : SchemaNode). kind_reference schema m.kind s) n ≡ Some key
          → option_and_then (λ (m : SchemaNode). first_key schema m.kind above s below) n ≡ Some key
      by None e = absurd (none-some key e)
      by (Some n) e = kind_refers n.kind key e

  no_texts : (texts : Option (List Text)) (target : ℕ) (v : Val) → option_map (texts_key above s.schema_number) texts ≡ Some (value_key target v) → ⊥
  no_texts None target v is = none-some (value_key target v) is
  no_texts (Some texts) target v is = false≢true (ap (λ o. option_map_or is_of_value o false) is)

  not_by_texts : (numbers : List ℕ) (target : ℕ) (v : Val) → entry_key schema numbers above s below ≡ Some (value_key target v) → ⊥
  not_by_texts [] target v is = none-some (value_key target v) is
  not_by_texts (number ∷ numbers) target v is = no_texts (texts_in schema (number ∷ numbers) below) target v is

  kind_value_first : (kind : Kind) (target : ℕ) (v : Val) → first_key schema kind above s below ≡ Some (value_key target v) → kind_reference schema kind s ≡ Some (value_key target v)
  kind_value_first (container presence) target v is = is
  kind_value_first (leaf type absence) target v is = is
  kind_value_first (leaf_list type defaults amount) target v is = is
  kind_value_first (list tuples amount) target v is = absurd (not_by_texts tuples.keys target v is)
  kind_value_first (choice default_case is_mandatory) target v is = is
  kind_value_first case target v is = is

  pub value_first : (target : ℕ) (v : Val) → key_at schema above s below 0 ≡ Some (value_key target v) → reference_key schema s ≡ Some (value_key target v)
  value_first target v is = by (node_at schema s.schema_number) is
    where
      by : (n : Option SchemaNode) → option_and_then (λ (m : SchemaNode). first_key schema m.kind above s below) n ≡ Some (value_key target v)
          → option_and_then (λ (m : SchemaNode). kind_reference schema m.kind s) n ≡ Some (value_key target v)
      by None e = absurd (none-some (value_key target v) e)
      by (Some n) e = kind_value_first n.kind target v e

  -- ---- none behind the flags

  tuple_past : (tuples : Tuples) (u : ℕ) → 1 + length tuples.uniques ≤ u → None ≡ tuple_of_paths schema below (paths_of tuples u)
  tuple_past tuples zero past = absurd (omega (arith, past))
  tuple_past tuples (suc u) past = sym (ap (λ (o : Option (List LeafPath)). tuple_of_paths schema below (unwrap_or o [])) (slice_get_past tuples.uniques u (omega (arith, past))))

  item_past : (distinct : Bool) (u : ℕ) → cond distinct 1 0 ≤ u → item_key_at schema distinct above s u ≡ None
  item_past true zero past = absurd (omega (arith, past))
  item_past false zero past = refl
  item_past distinct (suc u) past = refl

  kind_past : (distinct : Bool) (kind : Kind) (u : ℕ) → kind_flags distinct kind ≤ u → kind_key schema distinct kind above s below u ≡ None
  kind_past distinct (container presence) u past = refl
  kind_past distinct (leaf type absence) u past = refl
  kind_past distinct (leaf_list type defaults amount) u past = item_past distinct u past
  kind_past distinct (list tuples amount) u past = ap (option_map (tuple_key above s.schema_number u)) (sym (tuple_past tuples u past))
  kind_past distinct (choice default_case is_mandatory) u past = refl
  kind_past distinct case u past = refl

  node_past : (n : Option SchemaNode) (u : ℕ) → option_map_or (λ (m : SchemaNode). kind_flags m.distinct_items m.kind) n 0 ≤ u
      → option_and_then (λ (m : SchemaNode). kind_key schema m.distinct_items m.kind above s below u) n ≡ None
  node_past None u past = refl
  node_past (Some n) u past = kind_past n.distinct_items n.kind u past

  pub held_past : (slot : ℕ) → slots_of schema s.schema_number ≤ slot → key_at schema above s below slot ≡ None
  held_past zero past = absurd (omega (arith, past))
  held_past (suc u) past = node_past (node_at schema s.schema_number) u (omega (arith, past))

-- ---- how many nodes have a key

abbrev worth : Bool → ℕ
worth b = cond b 1 0

turned : (a b : ℕ) → eqb a b ≡ eqb b a
turned a b = grind (arith, nat_tests)

nothing : (b : Bool) → worth false ≡ cond b 0 0
nothing true = refl
nothing false = refl

parts : (b c : Bool) → worth (b && c) ≡ cond b (worth c) 0
parts true c = refl
parts false c = refl

module _ (schema : Schema) (above : Row) (number : ℕ) where
  module _ (u : ℕ) (vs : Tuple) (s : Stored) (below : Tree) where
    one_tuple : (o : Option Tuple) → worth (is_held (tuple_key above number u vs) (option_map (tuple_key above s.schema_number u) o))
        ≡ cond (eqb s.schema_number number) (worth (is_tuple vs o)) 0
    one_tuple None = nothing (eqb s.schema_number number)
    one_tuple (Some ws) =
        ap (λ b. worth (b && (eqb number s.schema_number && (eqb u u && same_tuple vs ws)))) (row_itself above)
        ∙ (ap₂ (λ b c. worth (b && (c && same_tuple vs ws))) (turned number s.schema_number) (eq-eqb u u refl)
        ∙ parts (eqb s.schema_number number) (same_tuple vs ws))

    item_none : (distinct : Bool) (u : ℕ) → worth (is_held (tuple_key above number u vs) (item_key_at schema distinct above s u)) ≡ worth false
    item_none true zero = by (value_of schema s)
      where
        by : (o : Option Val) → worth (is_held (tuple_key above number 0 vs) (option_map (item_key above s.schema_number) o)) ≡ worth false
        by None = refl
        by (Some v) = refl
    item_none false zero = refl
    item_none distinct (suc u) = refl

    kind_tuples : (distinct : Bool) (kind : Kind) → worth (is_held (tuple_key above number u vs) (kind_key schema distinct kind above s below u))
        ≡ cond (eqb s.schema_number number) (worth (is_tuple vs (kind_tuple schema kind below u))) 0
    kind_tuples distinct (container presence) = nothing (eqb s.schema_number number)
    kind_tuples distinct (leaf type absence) = nothing (eqb s.schema_number number)
    kind_tuples distinct (leaf_list type defaults amount) = item_none distinct u ∙ nothing (eqb s.schema_number number)
    kind_tuples distinct (list tuples amount) = one_tuple (tuple_of_paths schema below (paths_of tuples u))
    kind_tuples distinct (choice default_case is_mandatory) = nothing (eqb s.schema_number number)
    kind_tuples distinct case = nothing (eqb s.schema_number number)

    node_tuples : (n : Option SchemaNode) → worth (is_held (tuple_key above number u vs) (option_and_then (λ (m : SchemaNode). kind_key schema m.distinct_items m.kind above s below u) n))
        ≡ cond (eqb s.schema_number number) (worth (is_tuple vs (option_and_then (λ (m : SchemaNode). kind_tuple schema m.kind below u) n))) 0
    node_tuples None = nothing (eqb s.schema_number number)
    node_tuples (Some n) = kind_tuples n.distinct_items n.kind

  pub tuples_held : (t : Tree) (u : ℕ) (vs : Tuple) → times_held schema above t (suc u) (tuple_key above number u vs) ≡ tuples_in schema t number u vs
  tuples_held end u vs = refl
  tuples_held (node s below after) u vs = ap₂ ◌+◌ (node_tuples u vs s below (node_at schema s.schema_number)) (tuples_held after u vs)

  module _ (v : Val) (s : Stored) (below : Tree) where
    one_item : (o : Option Val) → worth (is_held (item_key above number v) (option_map (item_key above s.schema_number) o))
        ≡ cond (eqb s.schema_number number) (worth (is_value v o)) 0
    one_item None = nothing (eqb s.schema_number number)
    one_item (Some w) =
        ap (λ b. worth (b && (eqb number s.schema_number && same_value v w))) (row_itself above)
        ∙ (ap (λ b. worth (b && same_value v w)) (turned number s.schema_number)
        ∙ parts (eqb s.schema_number number) (same_value v w))

    tuple_none : (o : Option Tuple) → worth (is_held (item_key above number v) (option_map (tuple_key above s.schema_number 0) o)) ≡ worth false
    tuple_none None = refl
    tuple_none (Some ws) = refl

    -- of an item of configuration, and of a node of another number
    config_items : (distinct : Bool) (kind : Kind) → is_kind_item distinct kind ≡ true → worth (is_held (item_key above number v) (kind_key schema distinct kind above s below 0))
        ≡ cond (eqb s.schema_number number) (worth (is_value v (value_of schema s))) 0
    config_items distinct (container presence) is = absurd (false≢true is)
    config_items distinct (leaf type absence) is = absurd (false≢true is)
    config_items true (leaf_list type defaults amount) is = one_item (value_of schema s)
    config_items false (leaf_list type defaults amount) is = absurd (false≢true is)
    config_items distinct (list tuples amount) is = absurd (false≢true is)
    config_items distinct (choice default_case is_mandatory) is = absurd (false≢true is)
    config_items distinct case is = absurd (false≢true is)

    other_items : (distinct : Bool) (kind : Kind) → eqb s.schema_number number ≡ false → worth (is_held (item_key above number v) (kind_key schema distinct kind above s below 0)) ≡ worth false
    other_items distinct (container presence) other = refl
    other_items distinct (leaf type absence) other = refl
    other_items true (leaf_list type defaults amount) other = one_item (value_of schema s) ∙ ap (λ b. cond b (worth (is_value v (value_of schema s))) 0) other
    other_items false (leaf_list type defaults amount) other = refl
    other_items distinct (list tuples amount) other = tuple_none (tuple_of_paths schema below (paths_of tuples 0))
    other_items distinct (choice default_case is_mandatory) other = refl
    other_items distinct case other = refl

    node_items : (n : Option SchemaNode) (b : Bool) → eqb s.schema_number number ≡ b → (b ≡ true → option_map_or (λ (m : SchemaNode). is_kind_item m.distinct_items m.kind) n false ≡ true)
        → worth (is_held (item_key above number v) (option_and_then (λ (m : SchemaNode). kind_key schema m.distinct_items m.kind above s below 0) n))
        ≡ cond (eqb s.schema_number number) (worth (is_value v (value_of schema s))) 0
    node_items None true e item = absurd (false≢true (item refl))
    node_items None false e item = ap (λ c. cond c (worth (is_value v (value_of schema s))) 0) (sym e)
    node_items (Some n) true e item = config_items n.distinct_items n.kind (item refl)
    node_items (Some n) false e item = other_items n.distinct_items n.kind e ∙ ap (λ c. cond c (worth (is_value v (value_of schema s))) 0) (sym e)

  pub items_held : (t : Tree) (v : Val) → is_item schema number ≡ true → times_held schema above t 1 (item_key above number v) ≡ items_in schema t number v
  items_held end v item = refl
  items_held (node s below after) v item = ap₂ ◌+◌
      (node_items v s below (node_at schema s.schema_number) (eqb s.schema_number number) refl (λ e. ap (is_item schema) (eqb-true s.schema_number number e) ∙ item))
      (items_held after v item)
