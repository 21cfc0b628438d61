-- As many nodes hold a key of a row as have a tuple, or an item's value, in the row.
use Rattle.std.proofs.Common.{◌≡◌, ℕ, zero, suc, ◌+◌, ◌≤◌, Bool, true, false, cond, ltb, [], ◌∷◌, length, Option, Some, None, refl, sym, ap, ap₂, ◌∙◌, arith, subst}
use Rattle.std.specs.Prelude.{option_map, option_and_then}
use Rattle.std.specs.Option.{option_map_or}
use Rattle.std.proofs.lemmas.Bool.{false≢true}
use Rattle.std.proofs.lemmas.Option.{none-some, same_Some}
use Rattle.yspec.specs.Forest.{end, node, weigh}
use Rattle.yspec.specs.types.Types.{Val}
use Rattle.yspec.specs.schema.Schema.{Schema, SchemaNode, Kind, container, leaf, leaf_list, list, choice, case, node_at}
use Rattle.yspec.specs.document.Document.{Stored, Tree}
use Rattle.yspec.specs.document.Instances.{Tuple, value_of, tuple_of_paths, paths_of}
use Rattle.yspec.specs.document.Faults.{Times, row_times}
use Rattle.ystore.specs.Store.{holders_at, same_row, same_key}
use Rattle.ystore_rows.specs.declared.row.Row.{Row}
use Rattle.ystore_rows.specs.declared.row.Row.TheVariants.{Top, Below}
use Rattle.ystore.specs.declared.key.Key as rust
use Rattle.ystore.specs.declared.nodes.Nodes.{Nodes}
use Rattle.ystore_tree.specs.Hanging.{Numbered, Branches, is_number, times, stored_of, tree_of}
use Rattle.ystore_tree.specs.Ways.{Way, around, end_of}
use Rattle.ystore_tree.proofs.HangingLemmas.{weigh_join, is_itself}
use Rattle.ylive_facts.specs.Keys.{Key, value_key, item_key, tuple_key, texts_key, key_view, same, key_at, kind_key, flagged_key, item_key_at, is_held, times_held, is_item, is_kind_item}
use Rattle.ylive_facts.specs.Telling as telling
use Rattle.ylive_facts.specs.Telling.{times_of}
use Rattle.ylive_facts.proofs.SameLemmas.{same_views, same_is, row_itself}
use Rattle.ylive_facts.proofs.HeldLemmas.{tuples_held, items_held}
use Rattle.ylive_marks.specs.Keys.{Agrees, Keys, has_key, is_shared, slot_of}
use Rattle.ylive_marks.proofs.AgreeLemmas.{holders_counted}
use Rattle.ylive_retell.specs.Each.{Each, weigh_at, weigh_beside}
use Rattle.ylive_retell.specs.Keyed.{HasKeys}
use Rattle.ylive_retell.proofs.RowLemmas.{above_in, led, beside}

-- ---- the row of a key

-- of an entry's tuple and an item's value
abbrev pub row_of : Key → Option Row
row_of (value_key target v) = None
row_of (item_key row number v) = Some row
row_of (tuple_key row number u vs) = Some row
row_of (texts_key row number texts) = None

made_row : {A : Type 0} (make : A → Key) (r : Row) (o : Option A) (key : Key) → ((a : A) → row_of (make a) ≡ Some r) → option_map make o ≡ Some key → row_of key ≡ Some r
made_row make r None key each is = absurd (none-some key is)
made_row make r (Some a) key each is = ap row_of (sym (same_Some (make a) key is)) ∙ each a

module _ (schema : Schema) (r : Row) (s : Stored) (below : Tree) where
  item_row : (distinct : Bool) (u : ℕ) (key : Key) → item_key_at schema distinct r s u ≡ Some key → row_of key ≡ Some r
  item_row true zero key is = made_row (item_key r s.schema_number) r (value_of schema s) key (λ v. refl) is
  item_row false zero key is = absurd (none-some key is)
  item_row distinct (suc u) key is = absurd (none-some key is)

  kind_row : (distinct : Bool) (kind : Kind) (u : ℕ) (key : Key) → kind_key schema distinct kind r s below u ≡ Some key → row_of key ≡ Some r
  kind_row distinct (container presence) u key is = absurd (none-some key is)
  kind_row distinct (leaf type absence) u key is = absurd (none-some key is)
  kind_row distinct (leaf_list type defaults amount) u key is = item_row distinct u key is
  kind_row distinct (list tuples amount) u key is = made_row (tuple_key r s.schema_number u) r (tuple_of_paths schema below (paths_of tuples u)) key (λ vs. refl) is
  kind_row distinct (choice default_case is_mandatory) u key is = absurd (none-some key is)
  kind_row distinct case u key is = absurd (none-some key is)

  flagged_row : (n : Option SchemaNode) (u : ℕ) (key : Key) → option_and_then (λ (m : SchemaNode). kind_key schema m.distinct_items m.kind r s below u) n ≡ Some key → row_of key ≡ Some r
  flagged_row None u key is = absurd (none-some key is)
  flagged_row (Some n) u key is = kind_row n.distinct_items n.kind u key is

-- no node of another row has it
elsewhere : (schema : Schema) (here : Row) (key : Key) → row_of key ≡ Some here → (r : Row) (s : Stored) (below : Tree) (u : ℕ) → same_row here r ≡ false
    → is_held key (flagged_key schema r s below u) ≡ false
elsewhere schema here key of r s below u other = by (flagged_key schema r s below u) refl
  where
    on : (l : Key) → row_of l ≡ Some r → (b : Bool) → same key l ≡ b → same key l ≡ false
    on l is true e =
        let rows : here ≡ r = same_Some here r (sym of ∙ (ap row_of (same_is key l e) ∙ is)) in
        absurd (false≢true (sym other ∙ subst (λ x. same_row here x ≡ true) rows (row_itself here)))
    on l is false e = e

    by : (o : Option Key) → flagged_key schema r s below u ≡ o → is_held key o ≡ false
    by None e = refl
    by (Some l) e = on l (flagged_row schema r s below (node_at schema s.schema_number) u l e) (same key l) refl

-- ---- what holds a key weighs

-- a node of a row that holds it at a slot
abbrev worth : Schema → Key → ℕ → Row → Numbered → Branches → ℕ
worth schema key slot r n below = cond (is_held key (key_at schema r (stored_of n) (tree_of below) slot)) 1 0

abbrev views : Keys → ℕ → ℕ → Option Key
views held number slot = option_map key_view (held number slot)

module _ (schema : Schema) (held : Keys) (key : rust.Key) where
  viewed : (o : Option rust.Key) → option_map_or (same_key key) o false ≡ is_held (key_view key) (option_map key_view o)
  viewed None = refl
  viewed (Some l) = same_views key l

  weighs : (above : Row) (f : Branches) → Each (HasKeys schema (views held)) above f
      → weigh (λ n. cond (has_key held n.id.0 key) 1 0) f ≡ weigh_at (worth schema (key_view key) (slot_of key)) above f
  weighs above end keyed = refl
  weighs above (node n below after) keyed =
      ap₂ ◌+◌ (ap (λ b. cond b 1 0) (viewed (held n.id.0 (slot_of key)) ∙ ap (is_held (key_view key)) (keyed.0 (slot_of key))))
      (ap₂ ◌+◌ (weighs (Below n.id) below keyed.1) (weighs above after keyed.2))

row_worth : (schema : Schema) (here : Row) (key : Key) (slot : ℕ) (g : Branches) → weigh_beside (worth schema key slot) here g ≡ times_held schema here (tree_of g) slot key
row_worth schema here key slot end = refl
row_worth schema here key slot (node n below after) = ap (λ k. worth schema key slot here n below + k) (row_worth schema here key slot after)

-- the node above a row doesn't stand in it
apart : (above : Row) (way : Way) (g : Branches) → ((k : ℕ) → times k (around way g) ≤ 1) → above_in above (around way g) ≡ 0 → above_in (end_of above way) g ≡ 0
apart above [] g once none = none
apart above (frame ∷ way) g once none =
    apart (Below frame.label.id) way g
    (λ k. let most = once k in let all = weigh_join (is_number k) frame.before (node frame.label (around way g) frame.after) in omega (arith, most, all))
    (let most = once frame.label.id.0 in
    let all = weigh_join (is_number frame.label.id.0) frame.before (node frame.label (around way g) frame.after) in
    let one = is_itself frame.label in
    omega (arith, most, all, one))

-- ---- a row at the end of a way

module _ (schema : Schema) (nodes : Nodes) (held : Keys) (way : Way) (g : Branches) (agrees : Agrees nodes held (around way g))
    (once : (number : ℕ) → times number (around way g) ≤ 1) (keyed : Each (HasKeys schema (views held)) Top (around way g)) where
  abbrev here : Row
  here = end_of Top way

  holders_are : (key : rust.Key) (u : ℕ) → slot_of key ≡ suc u → row_of (key_view key) ≡ Some here
      → length (holders_at nodes key) ≡ times_held schema here (tree_of g) (suc u) (key_view key)
  holders_are key u slot of =
      let w = worth schema (key_view key) (suc u) in
      let alone : (r : Row) (n : Numbered) (below : Branches) → same_row here r ≡ false → w r n below ≡ 0 =
      (λ r n below other. ap (λ b. cond b 1 0) (elsewhere schema here (key_view key) of r (stored_of n) (tree_of below) u other)) in
      holders_counted nodes held (around way g) key agrees once
      ∙ (weighs schema held key Top (around way g) keyed
      ∙ (ap (λ k. weigh_at (worth schema (key_view key) k) Top (around way g)) slot
      ∙ (led w Top way g alone once refl
      ∙ (beside w here alone g (apart Top way g once refl)
      ∙ row_worth schema here (key_view key) (suc u) g))))

  -- of the key of a node of the row
  module _ (times : Times) (s : Stored) (below : Tree) where
    abbrev Counts : ℕ → Key → Type 0
    Counts u key = times_held schema here (tree_of g) (suc u) key ≡ times_of times (row_times schema (tree_of g)) key

    made_tuple : (u : ℕ) (o : Option Tuple) (key : Key) → option_map (tuple_key here s.schema_number u) o ≡ Some key → Counts u key
    made_tuple u None key is = absurd (none-some key is)
    made_tuple u (Some vs) key is = subst (Counts u) (same_Some (tuple_key here s.schema_number u vs) key is) (tuples_held schema here s.schema_number (tree_of g) u vs)

    made_item : is_item schema s.schema_number ≡ true → (o : Option Val) (key : Key) → option_map (item_key here s.schema_number) o ≡ Some key → Counts 0 key
    made_item item None key is = absurd (none-some key is)
    made_item item (Some v) key is = subst (Counts 0) (same_Some (item_key here s.schema_number v) key is) (items_held schema here s.schema_number (tree_of g) v item)

    item_counts : (distinct : Bool) (u : ℕ) (key : Key) → is_item schema s.schema_number ≡ distinct → item_key_at schema distinct here s u ≡ Some key → Counts u key
    item_counts true zero key item is = made_item item (value_of schema s) key is
    item_counts false zero key item is = absurd (none-some key is)
    item_counts distinct (suc u) key item is = absurd (none-some key is)

    kind_counts : (distinct : Bool) (kind : Kind) (u : ℕ) (key : Key) → is_item schema s.schema_number ≡ is_kind_item distinct kind
        → kind_key schema distinct kind here s below u ≡ Some key → Counts u key
    kind_counts distinct (container presence) u key item is = absurd (none-some key is)
    kind_counts distinct (leaf type absence) u key item is = absurd (none-some key is)
    kind_counts distinct (leaf_list type defaults amount) u key item is = item_counts distinct u key item is
    kind_counts distinct (list tuples amount) u key item is = made_tuple u (tuple_of_paths schema below (paths_of tuples u)) key is
    kind_counts distinct (choice default_case is_mandatory) u key item is = absurd (none-some key is)
    kind_counts distinct case u key item is = absurd (none-some key is)

    flagged_counts : (n : Option SchemaNode) (u : ℕ) (key : Key) → node_at schema s.schema_number ≡ n
        → option_and_then (λ (m : SchemaNode). kind_key schema m.distinct_items m.kind here s below u) n ≡ Some key → Counts u key
    flagged_counts None u key found is = absurd (none-some key is)
    flagged_counts (Some n) u key found is =
        kind_counts n.distinct_items n.kind u key (ap (λ o. option_map_or (λ (m : SchemaNode). is_kind_item m.distinct_items m.kind) o false) found) is

    -- others have it in the store where they have it in the document
    pub shared_is : (u : ℕ) (o : Option rust.Key) → ((key : rust.Key) → o ≡ Some key → slot_of key ≡ suc u) → option_map key_view o ≡ flagged_key schema here s below u
        → is_shared nodes o ≡ telling.is_shared (times_of times (row_times schema (tree_of g))) (flagged_key schema here s below u)
    shared_is u None slot key = ap (telling.is_shared (times_of times (row_times schema (tree_of g)))) key
    shared_is u (Some k) slot key =
        ap (λ c. ltb 1 c)
        (holders_are k u (slot k refl) (flagged_row schema here s below (node_at schema s.schema_number) u (key_view k) (sym key))
        ∙ flagged_counts (node_at schema s.schema_number) u (key_view k) refl (sym key))
        ∙ ap (telling.is_shared (times_of times (row_times schema (tree_of g)))) key
