-- The node that holds the key of the texts of a path is an entry of the row, and fits the keys.
use Rattle.std.proofs.Common.{◌≡◌, ℕ, zero, suc, ◌+◌, ◌-◌, ◌<◌, ◌≤◌, Bool, true, false, cond, eqb, List, [], ◌∷◌, ◌++◌, length, map, slice_get, Some, refl, sym, ap, ap₂, ◌∙◌, arith, subst}
use Rattle.std.specs.Option.{option_map_or}
use Rattle.std.proofs.lemmas.Bool.{eqb-true, false≢true}
use Rattle.yspec.specs.Forest.{end, node}
use Rattle.yspec.specs.text.Text.{Text}
use Rattle.yspec.specs.schema.Schema.{Schema, node_at, keys_in}
use Rattle.yspec.specs.document.Document.{Tree, Step}
use Rattle.yspec.specs.edit.EditText as edit
use Rattle.yspec.specs.edit.Editing.{key_text, fits_keys, positions_where}
use Rattle.yschema_model.specs.declared.node.SchemaId.{SchemaId}
use Rattle.yinst_path.specs.Binding.{node_of}
use Rattle.ystore_rows.specs.Rows.{of_schema}
use Rattle.ystore.specs.Store.{holders_at, same_row}
use Rattle.ystore_rows.specs.declared.row.NodeId.{NodeId}
use Rattle.ystore_rows.specs.declared.row.Row.{Row}
use Rattle.ystore_rows.specs.declared.row.Row.TheVariants.{Top, Below}
use Rattle.ystore.specs.declared.key.Key as rust
use Rattle.ystore.specs.declared.nodes.Nodes.{Nodes}
use Rattle.ystore_tree.specs.Hanging.{Numbered, Branches, child_of, children_of, times, stored_of, tree_of}
use Rattle.ystore_tree.specs.Ways.{Found, around, end_of}
use Rattle.ystore_tree.proofs.FoundLemmas.{found_at, of_schema-cons}
use Rattle.ylive_facts.specs.Keys.{Key, texts_key, key_view, key_at, is_held}
use Rattle.ylive_facts.proofs.EntryLemmas.{found_by, not_held}
use Rattle.ylive_marks.specs.Keys.{has_key, slot_of}
use Rattle.ylive_marks.proofs.IndexLemmas.{first_among, holds, key_stands}
use Rattle.ylive_retell.specs.Each.{Each, weigh_at, weigh_beside}
use Rattle.ylive_retell.specs.Keyed.{HasKeys}
use Rattle.ylive_retell.proofs.EachLemmas.{each_second, each_there}
use Rattle.ylive_retell.proofs.RowLemmas.{led, beside}
use Rattle.ylive_edit.specs.Instances.{rows_of}
use Rattle.ylive_edit.specs.Places.{IsAt}
use Rattle.ylive_edit.proofs.InstanceLemmas.{passing, positions, row_found}
use Rattle.ylive_edit.proofs.LocatingLemmas.{hangs_at}
use Rattle.ylive_edit.proofs.TextLemmas.{views, viewed, worth, texts_slot, elsewhere, apart, listed}

-- ---- one of the positions that pass a test

-- the position of a row that passes is one of those of all
one_passes : (test : Tree → Bool) (rows : List Tree) (k p : ℕ) → option_map_or test (slice_get rows k) false ≡ true → 1 ≤ length (passing test p rows)
one_passes test [] k p e = absurd (false≢true e)
one_passes test (row ∷ rows) zero p e = by (test row) e
  where
    by : (b : Bool) → b ≡ true → 1 ≤ length (cond b (p ∷ []) [] ++ passing test (p + 1) rows)
    by true e = omega arith
    by false e = absurd (false≢true e)
one_passes test (row ∷ rows) (suc k) p e = by (test row) (one_passes test rows k (p + 1) e)
  where
    by : (b : Bool) → 1 ≤ length (passing test (p + 1) rows) → 1 ≤ length (cond b (p ∷ []) [] ++ passing test (p + 1) rows)
    by true more = omega arith
    by false more = more

-- and if there is no other, it is they
only_one : (test : Tree → Bool) (rows : List Tree) (k p : ℕ) → option_map_or test (slice_get rows k) false ≡ true → length (passing test p rows) ≤ 1
    → passing test p rows ≡ (p + k) ∷ []
only_one test [] k p e few = absurd (false≢true e)
only_one test (row ∷ rows) zero p e few = by (test row) e few
  where
    empty : (ps : List ℕ) → length (p ∷ ps) ≤ 1 → p ∷ ps ≡ (p + 0) ∷ []
    empty [] few = let same : p ≡ p + 0 = omega arith in ap (λ q. q ∷ []) same
    empty (q ∷ ps) few = absurd (omega (arith, few))

    by : (b : Bool) → b ≡ true → length (cond b (p ∷ []) [] ++ passing test (p + 1) rows) ≤ 1
        → cond b (p ∷ []) [] ++ passing test (p + 1) rows ≡ (p + 0) ∷ []
    by true e few = empty (passing test (p + 1) rows) few
    by false e few = absurd (false≢true e)
only_one test (row ∷ rows) (suc k) p e few = by (test row) (one_passes test rows k (p + 1) e) (only_one test rows k (p + 1) e) few
  where
    by : (b : Bool) → 1 ≤ length (passing test (p + 1) rows) → (length (passing test (p + 1) rows) ≤ 1 → passing test (p + 1) rows ≡ (p + 1 + k) ∷ [])
        → length (cond b (p ∷ []) [] ++ passing test (p + 1) rows) ≤ 1 → cond b (p ∷ []) [] ++ passing test (p + 1) rows ≡ (p + suc k) ∷ []
    by true some rest few = absurd (omega (arith, some, few))
    by false some rest few = let same : p + 1 + k ≡ p + suc k = omega arith in rest few ∙ ap (λ q. q ∷ []) same

-- ---- the first node that holds the key of the texts of a path

module _ (s : Schema) (nodes : Nodes) (tree : Tree) (steps : List Step) (above : Row) (f : Branches) (at : IsAt s nodes tree steps above f)
    (id : SchemaId) (keys : List edit.Key) (key : rust.Key) (some : 0 < length (keys_in (node_of s id.0).kind))
    (is : key_view key ≡ texts_key above id.0 (map (key_text keys s) (keys_in (node_of s id.0).kind)))
    (holder : NodeId) (first : slice_get (holders_at nodes key) 0 ≡ Some holder) where
  abbrev texts : List Text
  texts = map (key_text keys s) (keys_in (node_of s id.0).kind)

  abbrev test : Tree → Bool
  test = fits_keys s (keys_in (node_of s id.0).kind) keys

  abbrev Keyed : Row → Numbered → Branches → Type 0
  Keyed = HasKeys s (views at.told.held)

  has : has_key at.told.held holder.0 key ≡ true
  has = holds nodes at.told.held (around at.way f) at.told.agrees.index key holder.0 (first_among (holders_at nodes key) holder first)

  -- wherever it stands, that is its key
  own_key : (r : Row) (n : Numbered) (below : Branches) → n.id.0 ≡ holder.0 → Keyed r n below
      → is_held (texts_key above id.0 texts) (key_at s r (stored_of n) (tree_of below) 0) ≡ true
  own_key r n below same keyed =
      let slot = slot_of key in
      sym (ap₂ (λ k j. is_held k (key_at s r (stored_of n) (tree_of below) j)) is (texts_slot key above id.0 texts is))
      ∙ (sym (ap (is_held (key_view key)) (keyed slot))
      ∙ (sym (viewed s at.told.held key (at.told.held n.id.0 slot))
      ∙ (ap (λ number. has_key at.told.held number key) same ∙ has)))

  -- an entry that has it fits
  fits : (n : Numbered) (below : Branches) → n.schema.0 ≡ id.0 → is_held (texts_key above id.0 texts) (key_at s above (stored_of n) (tree_of below) 0) ≡ true
      → test (tree_of below) ≡ true
  fits n below same held =
      let kind = (node_of s id.0).kind in
      found_by s above keys (stored_of n) (tree_of below) (node_of s id.0) (ap (node_at s) same ∙ listed s id.0 (node_at s id.0) refl some) some
      ∙ (ap (λ number. is_held (texts_key above number texts) (key_at s above (stored_of n) (tree_of below) 0)) same ∙ held)

  keyed_here : Each Keyed above f
  keyed_here = subst (λ r. Each Keyed r f) at.ends (each_there Keyed Top at.way f at.told.keyed)

  holder_fits : (place : ℕ) → Found id place holder f → option_map_or test (slice_get (rows_of id.0 (tree_of f)) place) false ≡ true
  holder_fits place found =
      let all = subst (λ g. Each Keyed above g) found.is_row keyed_here in
      let keyed = (each_second Keyed above found.frame.before (node found.frame.label found.below found.frame.after) all).0 in
      let of = ap (λ (i : SchemaId). i.0) found.is_schema in
      let number = ap (λ (i : NodeId). i.0) found.is_id in
      ap (λ o. option_map_or test o false) (row_found f id place holder found)
      ∙ fits found.frame.label found.below of (own_key above found.frame.label found.below number keyed)

  -- ---- where it stands

  abbrev weight : Row → Numbered → Branches → ℕ
  weight r n below = cond (eqb n.id.0 holder.0) (worth s (texts_key above id.0 texts) 0 r n below) 0

  as_times : (r : Row) (g : Branches) → Each Keyed r g → weigh_at weight r g ≡ times holder.0 g
  as_times r end keyed = refl
  as_times r (node n below after) keyed =
      ap₂ ◌+◌ (by (eqb n.id.0 holder.0) refl) (ap₂ ◌+◌ (as_times (Below n.id) below keyed.1) (as_times r after keyed.2))
    where
      by : (b : Bool) → eqb n.id.0 holder.0 ≡ b → cond b (worth s (texts_key above id.0 texts) 0 r n below) 0 ≡ cond b 1 0
      by true e = ap (λ c. cond c 1 0) (own_key r n below (eqb-true n.id.0 holder.0 e) keyed.0)
      by false e = refl

  alone : (r : Row) (n : Numbered) (below : Branches) → same_row (end_of Top at.way) r ≡ false → weight r n below ≡ 0
  alone r n below other = by (eqb n.id.0 holder.0)
    where
      none : worth s (texts_key above id.0 texts) 0 r n below ≡ 0
      none = ap (λ c. cond c 1 0) (elsewhere s above id.0 texts r (stored_of n) (tree_of below) (sym (ap (λ h. same_row h r) at.ends) ∙ other))

      by : (b : Bool) → cond b (worth s (texts_key above id.0 texts) 0 r n below) 0 ≡ 0
      by true = none
      by false = refl

  stands : 1 ≤ weigh_beside weight above f
  stands =
      let once : (k : ℕ) → times k (around at.way f) ≤ 1 = (λ k. let most = at.keeps.once k in omega (arith, most)) in
      let there = key_stands nodes at.told.held (around at.way f) at.told.agrees.index holder.0 key has in
      let all = as_times Top (around at.way f) at.told.keyed in
      let row = led weight Top at.way f alone once refl in
      let row_alone = beside weight (end_of Top at.way) alone f (apart Top at.way f once refl) in
      let here = ap (λ r. weigh_beside weight r f) at.ends in
      omega (arith, there, all, row, row_alone, here)

  placed : (g : Branches) → 1 ≤ weigh_beside weight above g → (place : ℕ) × (slice_get (of_schema id (children_of g)) place ≡ Some holder)
  placed end more = absurd (omega (arith, more))
  placed (node n below after) more =
      by (placed after) (eqb n.id.0 holder.0) refl (is_held (texts_key above id.0 texts) (key_at s above (stored_of n) (tree_of below) 0)) refl more
    where
      later : (b : Bool) → eqb n.schema.0 id.0 ≡ b → (place : ℕ) × (slice_get (of_schema id (children_of after)) place ≡ Some holder)
          → (place : ℕ) × (slice_get (of_schema id (children_of (node n below after))) place ≡ Some holder)
      later true e rest =
          (suc rest.0, ap (λ (ids : List NodeId). slice_get ids (suc rest.0)) (of_schema-cons id (child_of n) (children_of after) true e) ∙ rest.1)
      later false e rest =
          (rest.0, ap (λ (ids : List NodeId). slice_get ids rest.0) (of_schema-cons id (child_of n) (children_of after) false e) ∙ rest.1)

      here : (b : Bool) → eqb n.schema.0 id.0 ≡ b → eqb n.id.0 holder.0 ≡ true
          → is_held (texts_key above id.0 texts) (key_at s above (stored_of n) (tree_of below) 0) ≡ true
          → (place : ℕ) × (slice_get (of_schema id (children_of (node n below after))) place ≡ Some holder)
      here true e same held =
          let it : n.id ≡ holder = ap (λ (k : ℕ). let i : NodeId = record { 0 = k } in i) (eqb-true n.id.0 holder.0 same) in
          (0, ap (λ (ids : List NodeId). slice_get ids 0) (of_schema-cons id (child_of n) (children_of after) true e) ∙ ap Some it)
      here false e same held = absurd (false≢true (sym (not_held s above id.0 texts (stored_of n) (tree_of below) e) ∙ held))

      by : (1 ≤ weigh_beside weight above after → (place : ℕ) × (slice_get (of_schema id (children_of after)) place ≡ Some holder))
          → (b : Bool) → eqb n.id.0 holder.0 ≡ b → (c : Bool) → is_held (texts_key above id.0 texts) (key_at s above (stored_of n) (tree_of below) 0) ≡ c
          → 1 ≤ cond b (cond c 1 0) 0 + weigh_beside weight above after
          → (place : ℕ) × (slice_get (of_schema id (children_of (node n below after))) place ≡ Some holder)
      by rest true e true held more = here (eqb n.schema.0 id.0) refl e held
      by rest true e false held more = later (eqb n.schema.0 id.0) refl (rest (omega (arith, more)))
      by rest false e c held more = later (eqb n.schema.0 id.0) refl (rest (omega (arith, more)))

  -- it is one of the entries, and if no other holds the key, its position is the one that the path means
  pub holder_found : length (positions_where id.0 test 1 (tree_of f)) ≤ 1
      → (place : ℕ) × (positions_where id.0 test 1 (tree_of f) ≡ (1 + place) ∷ []) × Found id place holder f
  holder_found few =
      let hangs = hangs_at s nodes tree steps above f at in
      let there = placed f stands in
      let place = there.0 in
      let found = found_at nodes above f id place holder hangs (ap (λ cs. slice_get (of_schema id cs) place) hangs.listed ∙ there.1) in
      let same = positions id.0 test 1 (tree_of f) in (
        place,
        same ∙ only_one test (rows_of id.0 (tree_of f)) place 1 (holder_fits place found) (let count = ap length same in omega (arith, few, count)),
        found,
      )
