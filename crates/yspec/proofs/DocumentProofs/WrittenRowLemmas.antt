-- What is written of a stored row denotes that row again.
use Rattle.std.proofs.Common.{◌≡◌, ◌≢◌, ℕ, suc, Bool, true, false, cond, Option, Some, None, refl, sym, ap, ap₂, ◌∙◌}
use Rattle.serde_json.specs.Data.{Data, array, object, Members, no_members, put}
use Rattle.serde_json.specs.Find.{get_member}
use Rattle.serde_json.proofs.Views.{get_member-put, get_member-put_other}
use Rattle.yspec.specs.Forest.{Forest, end, node, join}
use Rattle.yspec.specs.text.Text.{Text}
use Rattle.yspec.specs.types.Types.{Raw}
use Rattle.yspec.specs.schema.Schema.{Schema, SchemaNode, Kind, JsonForm, is_data, is_many, has_value, form_in, written_name}
use Rattle.yspec.specs.document.Document.{Stored, Tree}
use Rattle.yspec.specs.document.Reading.{raw_by, members_of, items_of, stored_node, item_row, instance_row, stored_rows}
use Rattle.yspec.specs.document.Fitting.{IsBare, FitsBy}
use Rattle.yspec.specs.document.Writing.{leaf_data, written_node, written_items, with_instances, row_members, IsNew, RowDiffers, HasText, HasTextIf, HasForm}
use Rattle.yspec.proofs.DocumentProofs.DataRowWritingLemmas.{Rises, Each, OfData}
use Rattle.yspec.proofs.DocumentProofs.AlongLemmas.{AreOf, MayBe, Along}
use Rattle.yspec.proofs.DocumentProofs.WrittenAlongLemmas.{inner_members, first_written}

-- ---- values

-- of a leaf or an item, and of another node
pub leaf_back : (form : JsonForm) (value : Option Raw) → HasText form value → raw_by form (leaf_data form value) ≡ value
leaf_back form (Some raw) h = h
leaf_back form None h = absurd h

value_back : (b : Bool) (form : JsonForm) (value : Option Raw) (inner : Members) → HasTextIf b form value
    → cond b (raw_by form (cond b (leaf_data form value) (object inner))) None ≡ value
value_back true form value inner held = leaf_back form value held
value_back false form value inner held = sym held

-- ---- names

-- none of a row's names is among the members
abbrev AreAbsent : Schema → Option ℕ → Forest SchemaNode → Members → Type 0
AreAbsent s parent end ms = Unit {0}
AreAbsent s parent (node n below after) ms = (get_member (written_name s parent n) ms ≡ None) × AreAbsent s parent after ms

pub absent_of_none : (s : Schema) (parent : Option ℕ) (f : Forest SchemaNode) → AreAbsent s parent f no_members
absent_of_none s parent end = tt
absent_of_none s parent (node n below after) = (refl, absent_of_none s parent after)

absent_still : (s : Schema) (parent : Option ℕ) (f : Forest SchemaNode) (name : Text) (d : Data) (ms : Members) → IsNew s parent name f → AreAbsent s parent f ms → AreAbsent s parent f (put name d ms)
absent_still s parent end name d ms new absent = tt
absent_still s parent (node n below after) name d ms new absent =
    (get_member-put_other (written_name s parent n) name d ms (λ e. new.0 (sym e)) ∙ absent.0, absent_still s parent after name d ms new.1 absent.1)

absent_behind : (s : Schema) (parent : Option ℕ) (f : Forest SchemaNode) (name : Text) (kind : Kind) (inner : Tree → Members) (front : Tree) (ms : Members)
    → IsNew s parent name f → AreAbsent s parent f ms → AreAbsent s parent f (with_instances name kind inner front ms)
absent_behind s parent f name kind inner end ms new absent = absent
absent_behind s parent f name kind inner (node st b a) ms new absent = absent_still s parent f name _ ms new absent

-- ---- rows

-- the value of the member of instances, where there are any
abbrev front_data : Kind → (Tree → Members) → Tree → Option Data
front_data kind inner end = None
front_data kind inner (node st b a) =
    Some (cond (is_many kind) (array (written_items kind inner (node st b a))) (written_node kind st.value (inner b)))

front_found : (name : Text) (kind : Kind) (inner : Tree → Members) (front : Tree) (ms : Members) → get_member name ms ≡ None
    → get_member name (with_instances name kind inner front ms) ≡ front_data kind inner front
front_found name kind inner end ms absent = absent
front_found name kind inner (node st b a) ms absent = get_member-put name _ ms

front_kept : (name other : Text) (kind : Kind) (inner : Tree → Members) (front : Tree) (ms : Members) → name ≢ other
    → get_member name (with_instances other kind inner front ms) ≡ get_member name ms
front_kept name other kind inner end ms differ = refl
front_kept name other kind inner (node st b a) ms differ = get_member-put_other name other _ ms differ

module _ (s : Schema) where
  -- a node with whose children what is written of a row is read as that row
  abbrev pub ComesBack : SchemaNode → Forest SchemaNode → Type 0
  ComesBack n below = IsBare n.kind below × ((t : Tree) → FitsBy HasForm below 0 t → stored_rows s (Some n.module_number) below (inner_members s n below t) ≡ t)

  rows_at_end : (parent : Option ℕ) (ms : Members) → stored_rows s parent end ms ≡ end
  unfolding stored_rows
  rows_at_end parent ms = refl

  -- members of other names stay
  others_kept : (P : SchemaNode → Forest SchemaNode → Type 0) (parent : Option ℕ) (f : Forest SchemaNode) (low high : ℕ) (t : Tree) (found : Members) (name : Text)
      → Rises low high f → Each (OfData P) f → Along HasForm f t → IsNew s parent name f
      → get_member name (row_members s parent f t found) ≡ get_member name found
  unfolding row_members
  others_kept P parent end low high t found name rises each along new = refl
  others_kept P parent (node n below after) low high t found name rises each along new =
      ap (get_member name) (first_written s HasForm P parent n below after low high t found rises each along)
      ∙ (others_kept P parent after (suc n.number) high along.1 _ name rises.1 each.1 along.5 new.1
      ∙ front_kept name (written_name s parent n) n.kind (inner_members s n below) along.0 found new.0)

  -- what stands below a node that is read
  rows_below : SchemaNode → Forest SchemaNode → Data → Tree
  rows_below n below d = stored_rows s (Some n.module_number) below (members_of d)

  bare_row : (n : SchemaNode) (below : Forest SchemaNode) (b : Tree) (d : Data) → below ≡ end → FitsBy HasForm below 0 b → rows_below n below d ≡ b
  unfolding rows_below
  bare_row n end end d bare fits = rows_at_end (Some n.module_number) (members_of d)
  bare_row n end (node st b a) d bare fits = absurd (let none = fits.1 in cc)
  bare_row n (node m inner after) b d bare fits = absurd cc

  below_at : (c : Bool) (n : SchemaNode) (below : Forest SchemaNode) (value : Option Raw) (b : Tree) → has_value n.kind ≡ c → ComesBack n below → FitsBy HasForm below 0 b
      → rows_below n below (cond c (leaf_data (form_in n.kind) value) (object (inner_members s n below b))) ≡ b
  unfolding rows_below
  below_at true n below value b is back fits = bare_row n below b (leaf_data (form_in n.kind) value) (back.0 is) fits
  below_at false n below value b is back fits = back.1 b fits

  below_back : (n : SchemaNode) (below : Forest SchemaNode) (value : Option Raw) (b : Tree) → ComesBack n below → FitsBy HasForm below 0 b
      → rows_below n below (written_node n.kind value (inner_members s n below b)) ≡ b
  below_back n below value b back fits = below_at (has_value n.kind) n below value b refl back fits

  -- one instance
  instance_back : (n : SchemaNode) (below : Forest SchemaNode) (st : Stored) (b rest : Tree) → ComesBack n below → st.schema_number ≡ n.number → HasForm n st.value → FitsBy HasForm below 0 b
      → node (stored_node n (written_node n.kind st.value (inner_members s n below b))) (rows_below n below (written_node n.kind st.value (inner_members s n below b))) rest ≡ node st b rest
  instance_back n below st b rest back same held fits =
      let labelled : ℕ → Option Raw → Stored = λ i v. record { schema_number = i; value = v } in
      ap₂ (λ l (x : Tree). node l x rest) (ap₂ labelled (sym same) (value_back (has_value n.kind) (form_in n.kind) st.value (inner_members s n below b) held)) (below_back n below st.value b back fits)

  items_back : (n : SchemaNode) (below : Forest SchemaNode) (front : Tree) → ComesBack n below → AreOf HasForm n below front
      → item_row n (rows_below n below) (written_items n.kind (inner_members s n below) front) ≡ front
  items_back n below end back are = refl
  items_back n below (node st b a) back are =
      instance_back n below st b _ back are.0 are.1 are.2 ∙ ap (node st b) (items_back n below a back are.3)

  front_at : (many : Bool) (n : SchemaNode) (below : Forest SchemaNode) (st : Stored) (b a : Tree) → ComesBack n below → AreOf HasForm n below (node st b a) → MayBe many (node st b a)
      → (let d = cond many (array (written_items n.kind (inner_members s n below) (node st b a))) (written_node n.kind st.value (inner_members s n below b)) in
      cond many (item_row n (rows_below n below) (items_of d)) (node (stored_node n d) (rows_below n below d) end)) ≡ node st b a
  front_at true n below st b a back are few = items_back n below (node st b a) back are
  front_at false n below st b a back are few = instance_back n below st b end back are.0 are.1 are.2 ∙ ap (node st b) (sym (few refl))

  front_back : (n : SchemaNode) (below : Forest SchemaNode) (front : Tree) → ComesBack n below → AreOf HasForm n below front → MayBe (is_many n.kind) front
      → instance_row n (rows_below n below) (front_data n.kind (inner_members s n below) front) ≡ front
  front_back n below end back are few = refl
  front_back n below (node st b a) back are few = front_at (is_many n.kind) n below st b a back are few

  rows_first : (parent : Option ℕ) (n : SchemaNode) (below after : Forest SchemaNode) (ms : Members) → is_data n.kind ≡ true
      → stored_rows s parent (node n below after) ms ≡ join (instance_row n (rows_below n below) (get_member (written_name s parent n) ms)) (stored_rows s parent after ms)
  unfolding stored_rows rows_below
  rows_first parent n below after ms is =
      ap (λ c. join (cond c (instance_row n (λ d. stored_rows s (Some n.module_number) below (members_of d)) (get_member (written_name s parent n) ms)) (stored_rows s parent below ms)) (stored_rows s parent after ms)) is

  pub rows_back : (parent : Option ℕ) (f : Forest SchemaNode) (low high : ℕ) (t : Tree) (found : Members)
      → RowDiffers s parent f → Rises low high f → Each (OfData ComesBack) f → Along HasForm f t → AreAbsent s parent f found
      → stored_rows s parent f (row_members s parent f t found) ≡ t
  rows_back parent end low high t found differ rises each along absent = rows_at_end parent _ ∙ sym along
  rows_back parent (node n below after) low high t found differ rises each along absent =
      let name = written_name s parent n in
      let inner = inner_members s n below in
      let here = with_instances name n.kind inner along.0 found in
      let ms = row_members s parent after along.1 here in
      ap (stored_rows s parent (node n below after)) (first_written s HasForm ComesBack parent n below after low high t found rises each along)
      ∙ (rows_first parent n below after ms each.0.0
      ∙ (ap₂ join
      (ap (instance_row n (rows_below n below)) (others_kept ComesBack parent after (suc n.number) high along.1 here name rises.1 each.1 along.5 differ.0 ∙ front_found name n.kind inner along.0 found absent.0)
      ∙ front_back n below along.0 each.0.1 along.3 along.4)
      (rows_back parent after (suc n.number) high along.1 here differ.1 rises.1 each.1 along.5 (absent_behind s parent after name n.kind inner along.0 found differ.0 absent.1))
      ∙ sym along.2))
