-- As many nodes hold the key of the texts of a path as entries of the row fit the keys that it says.
use Rattle.std.proofs.Common.{◌≡◌, ℕ, ◌+◌, ◌<◌, ◌≤◌, Bool, true, false, cond, eqb, List, [], ◌∷◌, length, map, Option, Some, None, refl, sym, ap, ap₂, ◌∙◌, arith}
use Rattle.std.specs.Prelude.{option_map, option_and_then}
use Rattle.std.specs.Option.{option_map_or}
use Rattle.std.proofs.lemmas.Bool.{eqb-true, false≢true}
use Rattle.yspec.specs.Forest.{end, node, weigh}
use Rattle.yspec.specs.text.Text.{Text}
use Rattle.yspec.specs.types.Types.{Val}
use Rattle.yspec.specs.schema.Schema.{Schema, SchemaNode, Kind, container, leaf, leaf_list, list, choice, case, node_at, keys_in}
use Rattle.yspec.specs.document.Document.{Stored, Tree, Step}
use Rattle.yspec.specs.document.Instances.{value_of}
use Rattle.yspec.specs.edit.EditText as edit
use Rattle.yspec.specs.edit.Editing.{key_text, fits_keys, positions_where, the_one, refused}
use Rattle.yschema_model.specs.Layout.{numbers_of}
use Rattle.yschema_model.specs.declared.node.SchemaId.{SchemaId}
use Rattle.yinst_path.specs.Binding.{node_of}
use Rattle.ystore.specs.Entries.{Entry}
use Rattle.ystore.specs.Store.{holders_at, same_row, same_key}
use Rattle.ystore_rows.specs.declared.row.Row.{Row}
use Rattle.ystore_rows.specs.declared.row.Row.TheVariants.{Top, Below}
use Rattle.ystore.specs.declared.key.Key as rust
use Rattle.ystore.specs.declared.key.Key.TheVariants.{Value, Item, Tuple as TupleKey, Texts}
use Rattle.ystore.specs.declared.nodes.Nodes.{Nodes}
use Rattle.ystore_tree.specs.Hanging.{Numbered, Branches, is_number, times, stored_of, tree_of}
use Rattle.ystore_tree.specs.Parts.{OnlyReads}
use Rattle.ystore_tree.specs.Ways.{Way, around, end_of}
use Rattle.ystore_tree.proofs.HangingLemmas.{weigh_join, is_itself}
use Rattle.ylive_facts.specs.Keys.{Key, value_key, item_key, tuple_key, texts_key, key_view, key_at, first_key, kind_reference, entry_key, texts_in, is_held, times_held}
use Rattle.ylive_facts.proofs.SameLemmas.{same_views}
use Rattle.ylive_facts.proofs.EntryLemmas.{found_in}
use Rattle.ylive_facts.proofs.ReferringLemmas.{refers_as}
use Rattle.ylive_marks.specs.Keys.{Agrees, Keys, has_key, slot_of}
use Rattle.ylive_marks.proofs.AgreeLemmas.{holders_counted}
use Rattle.ylive_retell.specs.Each.{Each, weigh_at, weigh_beside}
use Rattle.ylive_retell.specs.Keyed.{HasKeys}
use Rattle.ylive_retell.proofs.RowLemmas.{above_in, led, beside}
use Rattle.ylive_edit.specs.Places.{IsAt}

-- ---- the row of a key

-- no node of another row holds a key of texts
module _ (schema : Schema) (here : Row) (number : ℕ) (texts : List Text) (r : Row) (s : Stored) (below : Tree) (other : same_row here r ≡ false) where
  aimed : (kind : Kind) → is_held (texts_key here number texts) (kind_reference schema kind s) ≡ false
  aimed kind = refers_as (λ held. is_held (texts_key here number texts) held ≡ false) refl (λ target v. refl) schema kind s

  told : (o : Option (List Text)) → is_held (texts_key here number texts) (option_map (texts_key r s.schema_number) o) ≡ false
  told None = refl
  told (Some others) = rw other refl

  entered : (keys : List ℕ) → is_held (texts_key here number texts) (entry_key schema keys r s below) ≡ false
  entered [] = refl
  entered (key ∷ keys) = told (texts_in schema (key ∷ keys) below)

  first : (kind : Kind) → is_held (texts_key here number texts) (first_key schema kind r s below) ≡ false
  first (container presence) = aimed (container presence)
  first (leaf type absence) = aimed (leaf type absence)
  first (leaf_list type defaults amount) = aimed (leaf_list type defaults amount)
  first (list tuples amount) = entered tuples.keys
  first (choice default_case is_mandatory) = aimed (choice default_case is_mandatory)
  first case = aimed case

  by_node : (n : Option SchemaNode) → is_held (texts_key here number texts) (option_and_then (λ (m : SchemaNode). first_key schema m.kind r s below) n) ≡ false
  by_node None = refl
  by_node (Some n) = first n.kind

  pub elsewhere : is_held (texts_key here number texts) (key_at schema r s below 0) ≡ false
  elsewhere = by_node (node_at schema s.schema_number)

-- a key of texts is held at the first slot
abbrev is_texts : Key → Bool
is_texts (value_key target v) = false
is_texts (item_key row number v) = false
is_texts (tuple_key row number u vs) = false
is_texts (texts_key row number texts) = true

pub texts_slot : (key : rust.Key) (here : Row) (number : ℕ) (texts : List Text) → key_view key ≡ texts_key here number texts → slot_of key ≡ 0
texts_slot (Value target v) here number texts is = refl
texts_slot (Item row of v) here number texts is = absurd (false≢true (ap is_texts is))
texts_slot (TupleKey row of u vs) here number texts is = absurd (false≢true (ap is_texts is))
texts_slot (Texts row of others) here number texts is = refl

-- ---- what holds a key weighs

abbrev pub worth : Schema → Key → ℕ → Row → Numbered → Branches → ℕ
worth schema key slot r n below = cond (is_held key (key_at schema r (stored_of n) (tree_of below) slot)) 1 0

abbrev pub views : Keys → ℕ → ℕ → Option Key
views held number slot = option_map key_view (held number slot)

module _ (schema : Schema) (held : Keys) (key : rust.Key) where
  pub viewed : (o : Option rust.Key) → option_map_or (same_key key) o false ≡ is_held (key_view key) (option_map key_view o)
  viewed None = refl
  viewed (Some l) = same_views key l

  weighs : (above : Row) (f : Branches) → Each (HasKeys schema (views held)) above f
      → weigh (λ n. cond (has_key held n.id.0 key) 1 0) f ≡ weigh_at (worth schema (key_view key) (slot_of key)) above f
  weighs above end keyed = refl
  weighs above (node n below after) keyed =
      ap₂ ◌+◌ (ap (λ b. cond b 1 0) (viewed (held n.id.0 (slot_of key)) ∙ ap (is_held (key_view key)) (keyed.0 (slot_of key))))
      (ap₂ ◌+◌ (weighs (Below n.id) below keyed.1) (weighs above after keyed.2))

row_worth : (schema : Schema) (here : Row) (key : Key) (slot : ℕ) (g : Branches) → weigh_beside (worth schema key slot) here g ≡ times_held schema here (tree_of g) slot key
row_worth schema here key slot end = refl
row_worth schema here key slot (node n below after) = ap (λ k. worth schema key slot here n below + k) (row_worth schema here key slot after)

-- the node above a row doesn't stand in it
pub apart : (above : Row) (way : Way) (g : Branches) → ((k : ℕ) → times k (around way g) ≤ 1) → above_in above (around way g) ≡ 0 → above_in (end_of above way) g ≡ 0
apart above [] g once none = none
apart above (frame ∷ way) g once none =
    apart (Below frame.label.id) way g
    (λ k. let most = once k in let all = weigh_join (is_number k) frame.before (node frame.label (around way g) frame.after) in omega (arith, most, all))
    (let most = once frame.label.id.0 in
    let all = weigh_join (is_number frame.label.id.0) frame.before (node frame.label (around way g) frame.after) in
    let one = is_itself frame.label in
    omega (arith, most, all, one))

-- ---- a row at the end of a way

pub texts_held : (schema : Schema) (nodes : Nodes) (held : Keys) (way : Way) (g : Branches) → Agrees nodes held (around way g)
    → ((number : ℕ) → times number (around way g) ≤ 1) → Each (HasKeys schema (views held)) Top (around way g)
    → (key : rust.Key) (number : ℕ) (texts : List Text) → key_view key ≡ texts_key (end_of Top way) number texts
    → length (holders_at nodes key) ≡ times_held schema (end_of Top way) (tree_of g) 0 (texts_key (end_of Top way) number texts)
texts_held schema nodes held way g agrees once keyed key number texts is =
    let here = end_of Top way in
    let w = worth schema (texts_key here number texts) 0 in
    let alone : (r : Row) (n : Numbered) (below : Branches) → same_row here r ≡ false → w r n below ≡ 0 =
    (λ r n below other. ap (λ b. cond b 1 0) (elsewhere schema here number texts r (stored_of n) (tree_of below) other)) in
    holders_counted nodes held (around way g) key agrees once
    ∙ (weighs schema held key Top (around way g) keyed
    ∙ (ap₂ (λ k slot. weigh_at (worth schema k slot) Top (around way g)) is (texts_slot key here number texts is)
    ∙ (led w Top way g alone once refl
    ∙ (beside w here alone g (apart Top way g once refl)
    ∙ row_worth schema here (texts_key here number texts) 0 g))))

-- ---- the entries that fit

-- a list with keys is a node of the schema
pub listed : (s : Schema) (number : ℕ) (o : Option SchemaNode) → node_at s number ≡ o → 0 < length (keys_in (node_of s number).kind) → node_at s number ≡ Some (node_of s number)
listed s number None none some = absurd (let no : length (keys_in (node_of s number).kind) ≡ 0 = rw none refl in omega (arith, no, some))
listed s number (Some n) is some = rw is refl

-- as many nodes hold the key of the texts that a path says as there are positions of entries that fit
pub holders_fit : (s : Schema) (nodes : Nodes) (tree : Tree) (steps : List Step) (above : Row) (f : Branches) → IsAt s nodes tree steps above f
    → (number : ℕ) (keys : List edit.Key) (key : rust.Key) → 0 < length (keys_in (node_of s number).kind)
    → key_view key ≡ texts_key above number (map (key_text keys s) (keys_in (node_of s number).kind))
    → length (holders_at nodes key) ≡ length (positions_where number (fits_keys s (keys_in (node_of s number).kind) keys) 1 (tree_of f))
holders_fit s nodes tree steps above f at number keys key some is =
    let kind = (node_of s number).kind in
    let texts = map (key_text keys s) (keys_in kind) in
    let once : (k : ℕ) → times k (around at.way f) ≤ 1 = (λ k. let most = at.keeps.once k in omega (arith, most)) in
    texts_held s nodes at.told.held at.way f at.told.agrees once at.told.keyed key number texts (is ∙ ap (λ r. texts_key r number texts) (sym at.ends))
    ∙ (ap (λ r. times_held s r (tree_of f) 0 (texts_key r number texts)) at.ends
    ∙ sym (found_in s above keys number (node_of s number) (listed s number (node_at s number) refl some) some (tree_of f) 1))

-- ---- answers

pub holders_read : (before after : Nodes) (key : rust.Key) → OnlyReads before after → holders_at after key ≡ holders_at before key
holders_read before after key only = ap (λ (o : Option Entry). option_map_or (λ e. e.nodes) o []) (only.entries key)

pub some_keys : (ids : List SchemaId) → false ≡ eqb (length ids) 0 → 0 < length (numbers_of ids)
some_keys [] e = absurd (false≢true e)
some_keys (id ∷ ids) e = omega arith

pub no_keys : (ids : List SchemaId) → true ≡ eqb (length ids) 0 → numbers_of ids ≡ []
no_keys [] e = refl
no_keys (id ∷ ids) e = absurd (let none = eqb-true (length (id ∷ ids)) 0 (sym e) in omega (arith, none))

pub several : (missing number : ℕ) (ps : List ℕ) → 1 < length ps → the_one missing number ps ≡ refused 6
several missing number [] less = absurd (omega (arith, less))
several missing number (p ∷ []) less = absurd (omega (arith, less))
several missing number (p ∷ q ∷ ps) less = refl

pub nowhere : (missing number : ℕ) (ps : List ℕ) → length ps ≡ 0 → the_one missing number ps ≡ refused missing
nowhere missing number [] none = refl
nowhere missing number (p ∷ ps) none = absurd (omega (arith, none))
