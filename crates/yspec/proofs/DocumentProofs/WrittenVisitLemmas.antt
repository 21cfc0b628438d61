-- What is written of a stored row that fits is right, and has no more right nodes than are stored.
use Rattle.std.proofs.Common.{◌≡◌, ℕ, suc, zero-add, ◌+◌, ◌-◌, ◌≤◌, Bool, true, false, cond, List, [], ◌∷◌, ◌++◌, Option, Some, None, Ordering, Less, Equal, Greater, nat_cmp, is_eq, refl, sym, ap, ◌∙◌, subst, arith}
use Rattle.std.proofs.lemmas.Map.Text.{is_eq-slice_cmp}
use Rattle.std.proofs.lemmas.Slice.Eq.{bytes_eq-Decides}
use Rattle.std.specs.Cmp.Lexicographic.{slice_cmp}
use Rattle.std.specs.Prelude.{unwrap_or}
use Rattle.std.specs.Option.{option_map_or}
use Rattle.std.specs.Ordering.{match_ordering}
use Rattle.serde_json.specs.Data.{Data, array, object, Items, no_items, item, Members, no_members, member, put}
use Rattle.yspec.specs.Forest.{Forest, end, node, size, join}
use Rattle.yspec.specs.text.Text.{Text}
use Rattle.yspec.specs.types.Types.{Raw, empty}
use Rattle.yspec.specs.schema.Schema.{Schema, SchemaNode, JsonForm, is_many, has_value, form_in, data_row, written_name}
use Rattle.yspec.specs.document.Document.{Stored, Tree, Step, below_place, instance_place}
use Rattle.yspec.specs.document.Reading.{Visit, right, wrong, refused_by, child, named, at_named, leaf_visit, value_visit, member_visits, node_visits, item_visits, instance_visits, first_wrong, right_nodes, first_refusal}
use Rattle.yspec.specs.document.Fitting.{FitsBy}
use Rattle.yspec.specs.document.Writing.{leaf_data, written_node, written_items, with_instances, row_members, HasText, HasTextIf, HasForm}
use Rattle.yspec.proofs.DocumentProofs.FittingLemmas.{eqb_other}
use Rattle.yspec.proofs.DocumentProofs.VisitLemmas.{first_part, one_visited, leaf_visited, AreMeant}
use Rattle.yspec.proofs.DocumentProofs.DataRowWritingLemmas.{Rises, Each, OfData}
use Rattle.yspec.proofs.DocumentProofs.AlongLemmas.{AreOf, Along}
use Rattle.yspec.proofs.DocumentProofs.WrittenAlongLemmas.{inner_members, first_written}
use Rattle.yspec.proofs.DocumentProofs.WrittenRowLemmas.{leaf_back}

-- ---- visits

-- none is wrong, and so many at most are right
abbrev pub AreFine : List Visit → ℕ → Type 0
AreFine vs n = (first_wrong vs ≡ None) × (right_nodes vs ≤ n)

wrong_append : (vs ws : List Visit) → first_wrong vs ≡ None → first_wrong (vs ++ ws) ≡ first_wrong ws
wrong_append [] ws none = refl
wrong_append (right place ∷ vs) ws none = wrong_append vs ws none
wrong_append (wrong code place ∷ vs) ws none = absurd cc

right_append : (vs ws : List Visit) → right_nodes (vs ++ ws) ≡ right_nodes vs + right_nodes ws
right_append [] ws = sym (zero-add (right_nodes ws))
right_append (right place ∷ vs) ws = let later = right_append vs ws in omega (arith, later)
right_append (wrong code place ∷ vs) ws = right_append vs ws

fine_append : (vs ws : List Visit) (n m : ℕ) → AreFine vs n → AreFine ws m → AreFine (vs ++ ws) (n + m)
fine_append vs ws n m first second =
    (wrong_append vs ws first.0 ∙ second.0, let both = right_append vs ws in let one = first.1 in let other = second.1 in omega (arith, both, one, other))

fine_more : (vs : List Visit) (n m : ℕ) → n ≤ m → AreFine vs n → AreFine vs m
fine_more vs n m less fine = (fine.0, omega (arith, less, fine.1))

pub room_left : (vs : List Visit) (room : ℕ) → AreFine vs room → first_refusal room vs ≡ None
room_left [] room fine = refl
room_left (right place ∷ vs) room fine =
    let few = fine.1 in
    ap (λ b. cond b (Some (record { code = 7; place = [] })) (first_refusal (room - 1) vs)) (eqb_other room 0 (λ e. absurd (omega (arith, few, e))))
    ∙ room_left vs (room - 1) (fine.0, omega (arith, few))
room_left (wrong code place ∷ vs) room fine = absurd (let no = fine.0 in cc)

-- ---- members

module _ (s : Schema) (parent : Option ℕ) (children : Forest SchemaNode) (place : List Step) where
  abbrev visits_of : Text → Data → List Visit
  visits_of name d = at_named (named s parent name children) place (λ n below. node_visits s n below place d)

  abbrev all_visits : Members → List Visit
  all_visits ms = member_visits s parent children place ms

  one_more : (name : Text) (d : Data) (ms : Members) → all_visits (member name d ms) ≡ visits_of name d ++ all_visits ms
  unfolding member_visits
  one_more name d ms = refl

  pub none_fine : AreFine (all_visits no_members) 0
  unfolding member_visits
  none_fine = (refl, omega arith)

  one_fine : (name : Text) (d : Data) (ms : Members) (n m : ℕ) → AreFine (visits_of name d) n → AreFine (all_visits ms) m → AreFine (all_visits (member name d ms)) (n + m)
  one_fine name d ms n m this these = subst (λ vs. AreFine vs (n + m)) (sym (one_more name d ms)) (fine_append (visits_of name d) (all_visits ms) n m this these)

  -- of the first member of some, and of the others
  first_fine : (name : Text) (d : Data) (ms : Members) (n : ℕ) → AreFine (all_visits (member name d ms)) n
      → AreFine (visits_of name d) (right_nodes (visits_of name d)) × AreFine (all_visits ms) (right_nodes (all_visits ms)) × (right_nodes (visits_of name d) + right_nodes (all_visits ms) ≤ n)
  first_fine name d ms n fine =
      let whole : first_wrong (visits_of name d ++ all_visits ms) ≡ None = ap first_wrong (sym (one_more name d ms)) ∙ fine.0 in
      let first = first_part (visits_of name d) (all_visits ms) whole in
      let both = ap right_nodes (one_more name d ms) ∙ right_append (visits_of name d) (all_visits ms) in
      ((first, omega arith), (sym (wrong_append (visits_of name d) (all_visits ms) first) ∙ whole, omega arith), omega (arith, both, fine.1))

  put_fine_at : (o : Ordering) (name other : Text) (d e : Data) (ms : Members) (n m : ℕ) → slice_cmp nat_cmp name other ≡ o → AreFine (visits_of name d) n
      → AreFine (all_visits (member other e ms)) m → ((k : ℕ) → AreFine (all_visits ms) k → AreFine (all_visits (put name d ms)) (n + k))
      → AreFine (all_visits (match_ordering o (member name d (member other e ms)) (member other d ms) (member other e (put name d ms)))) (n + m)
  put_fine_at Less name other d e ms n m is this these later = one_fine name d (member other e ms) n m this these
  put_fine_at Equal name other d e ms n m is this these later =
      let same : name ≡ other = (bytes_eq-Decides name other).0 (sym (is_eq-slice_cmp name other) ∙ ap is_eq is) in
      let parts = first_fine other e ms m these in
      let few = parts.2 in
      fine_more (all_visits (member other d ms)) (n + right_nodes (all_visits ms)) (n + m) (omega (arith, few))
      (one_fine other d ms n (right_nodes (all_visits ms)) (subst (λ (x : Text). AreFine (visits_of x d) n) same this) parts.1)
  put_fine_at Greater name other d e ms n m is this these later =
      let parts = first_fine other e ms m these in
      let few = parts.2 in
      let here = right_nodes (visits_of other e) in
      let there = right_nodes (all_visits ms) in
      fine_more (all_visits (member other e (put name d ms))) (here + (n + there)) (n + m) (omega (arith, few)) (one_fine other e (put name d ms) here (n + there) parts.0 (later there parts.1))

  put_fine : (name : Text) (d : Data) (ms : Members) (n m : ℕ) → AreFine (visits_of name d) n → AreFine (all_visits ms) m → AreFine (all_visits (put name d ms)) (n + m)
  put_fine name d no_members n m this these = one_fine name d no_members n m this these
  put_fine name d (member other e ms) n m this these =
      put_fine_at (slice_cmp nat_cmp name other) name other d e ms n m refl this these (λ k others. put_fine name d ms n k this others)

-- ---- nodes

module _ (s : Schema) where
  object_value : (n : SchemaNode) (below : Forest SchemaNode) (place : List Step) (inner : Members) → has_value n.kind ≡ false
      → instance_visits s n below place (object inner) ≡ right place ∷ member_visits s (Some n.module_number) below place inner
  unfolding instance_visits
  object_value n below place inner is =
      ap (λ c. cond c (leaf_visit (form_in n.kind) place (object inner)) (right place ∷ member_visits s (Some n.module_number) below place inner)) is

  many_visits : (n : SchemaNode) (below : Forest SchemaNode) (place : List Step) (ds : Items) → is_many n.kind ≡ true
      → node_visits s n below place (array ds) ≡ item_visits s n below place 1 ds
  unfolding node_visits
  many_visits n below place ds is = ap (λ c. cond c (item_visits s n below place 1 ds) (value_visit n.kind (below_place place n) (array ds))) is

  first_item : (n : SchemaNode) (below : Forest SchemaNode) (place : List Step) (k : ℕ) (d : Data) (ds : Items)
      → item_visits s n below place k (item d ds) ≡ instance_visits s n below (instance_place place n k) d ++ item_visits s n below place (k + 1) ds
  unfolding item_visits
  first_item n below place k d ds = refl

  no_item : (n : SchemaNode) (below : Forest SchemaNode) (place : List Step) (k : ℕ) → AreFine (item_visits s n below place k no_items) 0
  unfolding item_visits
  no_item n below place k = (refl, omega arith)

  -- a node below which what is written of a row is right
  abbrev pub IsRight : SchemaNode → Forest SchemaNode → Type 0
  IsRight n below = (place : List Step) (t : Tree) → FitsBy HasForm below 0 t → AreFine (member_visits s (Some n.module_number) below place (inner_members s n below t)) (size t)

  leaf_fine : (n : SchemaNode) (below : Forest SchemaNode) (place : List Step) (value : Option Raw) (b : Tree) → has_value n.kind ≡ true → HasText (form_in n.kind) value
      → AreFine (instance_visits s n below place (leaf_data (form_in n.kind) value)) (suc (size b))
  leaf_fine n below place value b is held =
      subst (λ vs. AreFine vs (suc (size b)))
      (sym (leaf_visited s n below place d is
      ∙ (ap (λ c. cond c (leaf_visit form place d) (wrong 5 place ∷ [])) is
      ∙ ap (λ (o : Option Raw). option_map_or (λ _. right place ∷ []) o (wrong (refused_by form d) place ∷ [])) (leaf_back form value held ∙ known value held))))
      (refl, omega arith)
    where
      form : JsonForm
      form = form_in n.kind

      d : Data
      d = leaf_data form value

      known : (value : Option Raw) → (held : HasText form value) → value ≡ Some (unwrap_or value empty)
      known (Some raw) held = refl
      known None held = absurd held

  object_fine : (n : SchemaNode) (below : Forest SchemaNode) (place : List Step) (b : Tree) → has_value n.kind ≡ false → IsRight n below → FitsBy HasForm below 0 b
      → AreFine (instance_visits s n below place (object (inner_members s n below b))) (suc (size b))
  object_fine n below place b is inner fits =
      let these = inner place b fits in
      let few = these.1 in
      subst (λ vs. AreFine vs (suc (size b))) (sym (object_value n below place (inner_members s n below b) is)) (these.0, omega (arith, few))

  instance_fine : (n : SchemaNode) (below : Forest SchemaNode) (place : List Step) (value : Option Raw) (b : Tree) → IsRight n below → HasForm n value → FitsBy HasForm below 0 b
      → AreFine (instance_visits s n below place (written_node n.kind value (inner_members s n below b))) (suc (size b))
  instance_fine n below place value b inner held fits = by (has_value n.kind) refl held
    where
      by : (c : Bool) → has_value n.kind ≡ c → HasTextIf c (form_in n.kind) value → AreFine (instance_visits s n below place (cond c (leaf_data (form_in n.kind) value) (object (inner_members s n below b)))) (suc (size b))
      by true is held = leaf_fine n below place value b is held
      by false is held = object_fine n below place b is inner fits

  items_fine : (n : SchemaNode) (below : Forest SchemaNode) (place : List Step) (k : ℕ) (front : Tree) → IsRight n below → AreOf HasForm n below front
      → AreFine (item_visits s n below place k (written_items n.kind (inner_members s n below) front)) (size front)
  items_fine n below place k end inner are = no_item n below place k
  items_fine n below place k (node st b a) inner are =
      let d = written_node n.kind st.value (inner_members s n below b) in
      let ds = written_items n.kind (inner_members s n below) a in
      let first = instance_visits s n below (instance_place place n k) d in
      let others = item_visits s n below place (k + 1) ds in
      subst (λ vs. AreFine vs (suc (size b + size a))) (sym (first_item n below place k d ds))
      (fine_more (first ++ others) (suc (size b) + size a) (suc (size b + size a)) (omega arith)
      (fine_append first others (suc (size b)) (size a) (instance_fine n below (instance_place place n k) st.value b inner are.1 are.2) (items_fine n below place (k + 1) a inner are.3)))

  front_fine : (many : Bool) (n : SchemaNode) (below : Forest SchemaNode) (place : List Step) (st : Stored) (b a : Tree) → is_many n.kind ≡ many → IsRight n below → AreOf HasForm n below (node st b a)
      → AreFine (node_visits s n below place (cond many (array (written_items n.kind (inner_members s n below) (node st b a))) (written_node n.kind st.value (inner_members s n below b)))) (size (node st b a))
  front_fine true n below place st b a is inner are =
      subst (λ vs. AreFine vs (size (node st b a))) (sym (many_visits n below place (written_items n.kind (inner_members s n below) (node st b a)) is))
      (items_fine n below place 1 (node st b a) inner are)
  front_fine false n below place st b a is inner are =
      subst (λ vs. AreFine vs (size (node st b a))) (sym (one_visited s n below place (written_node n.kind st.value (inner_members s n below b)) is))
      (fine_more (instance_visits s n below (below_place place n) (written_node n.kind st.value (inner_members s n below b))) (suc (size b)) (size (node st b a)) (omega arith) (instance_fine n below (below_place place n) st.value b inner are.1 are.2))

  -- ---- rows

  with_fine : (parent : Option ℕ) (children : Forest SchemaNode) (place : List Step) (n : SchemaNode) (below : Forest SchemaNode) (front : Tree) (found : Members) (k : ℕ)
      → named s parent (written_name s parent n) children ≡ child n below → IsRight n below → AreOf HasForm n below front → AreFine (member_visits s parent children place found) k
      → AreFine (member_visits s parent children place (with_instances (written_name s parent n) n.kind (inner_members s n below) front found)) (size front + k)
  with_fine parent children place n below end found k meant inner are these = fine_more (member_visits s parent children place found) k (0 + k) (omega arith) these
  with_fine parent children place n below (node st b a) found k meant inner are these =
      let d = cond (is_many n.kind) (array (written_items n.kind (inner_members s n below) (node st b a))) (written_node n.kind st.value (inner_members s n below b)) in
      put_fine s parent children place (written_name s parent n) d found (size (node st b a)) k
      (subst (λ x. AreFine (at_named x place (λ m inner. node_visits s m inner place d)) (size (node st b a))) (sym meant) (front_fine (is_many n.kind) n below place st b a refl inner are)) these

  size_join : (t u : Tree) → size (join t u) ≡ size t + size u
  size_join end u = sym (zero-add (size u))
  size_join (node st b a) u = let later = size_join a u in omega (arith, later)

  members_at_end : (parent : Option ℕ) (t : Tree) (found : Members) → row_members s parent end t found ≡ found
  unfolding row_members
  members_at_end parent t found = refl

  pub rows_fine : (parent : Option ℕ) (children f : Forest SchemaNode) (low high : ℕ) (t : Tree) (place : List Step) (found : Members) (k : ℕ)
      → AreMeant s parent (data_row children) f → Rises low high f → Each (OfData IsRight) f → Along HasForm f t → AreFine (member_visits s parent children place found) k
      → AreFine (member_visits s parent children place (row_members s parent f t found)) (size t + k)
  rows_fine parent children end low high t place found k meant rises each along these =
      fine_more (member_visits s parent children place (row_members s parent end t found)) k (size t + k) (omega arith) (subst (λ ms. AreFine (member_visits s parent children place ms) k) (sym (members_at_end parent t found)) these)
  rows_fine parent children (node n below after) low high t place found k meant rises each along these =
      let here = with_instances (written_name s parent n) n.kind (inner_members s n below) along.0 found in
      let whole : size t ≡ size along.0 + size along.1 = ap size along.2 ∙ size_join along.0 along.1 in
      subst (λ ms. AreFine (member_visits s parent children place ms) (size t + k)) (sym (first_written s HasForm IsRight parent n below after low high t found rises each along))
      (fine_more (member_visits s parent children place (row_members s parent after along.1 here)) (size along.1 + (size along.0 + k)) (size t + k) (omega (arith, whole))
      (rows_fine parent children after (suc n.number) high along.1 place here (size along.0 + k) meant.1 rises.1 each.1 along.5
      (with_fine parent children place n below along.0 found k meant.0 each.0.1 along.3 these)))
