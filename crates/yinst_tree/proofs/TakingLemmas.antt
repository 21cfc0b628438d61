-- Members that are taken out of an object denote the same row as if they stayed, as no two nodes of a row are written with one name.
use Rattle.std.proofs.Common.{◌≡◌, ◌≢◌, ℕ, Bool, true, false, cond, List, [], ◌∷◌, Option, Some, None, String, Global, nat_cmp, is_eq, option_map, string_bytes, refl, sym, ap, ap₂, ◌∙◌}
use Rattle.std.proofs.lemmas.Map.Text.{is_eq-slice_cmp}
use Rattle.std.proofs.lemmas.Slice.Eq.{bytes_eq-Decides}
use Rattle.std.specs.BTreeMap.{is_at}
use Rattle.std.specs.Cmp.Lexicographic.{slice_cmp}
use Rattle.std.specs.Map.{remove_entry}
use Rattle.std.specs.Ordering.{match_ordering}
use Rattle.serde_json.specs.Data.{Data, Items, no_items, item, Members, no_members, member}
use Rattle.serde_json.specs.Find.{get_member}
use Rattle.serde_json.specs.View as json
use Rattle.serde_json.proofs.Views.{Entry}
use Rattle.yspec.specs.Forest.{Forest, end, node, join}
use Rattle.yspec.specs.text.Text.{Text}
use Rattle.yspec.specs.types.Types.{Raw}
use Rattle.yspec.specs.schema.Schema.{Schema, SchemaNode, is_data, is_many, data_row, written_name, node_at, children_of}
use Rattle.yspec.specs.document.Document as spec
use Rattle.yspec.specs.document.Document.{Tree}
use Rattle.yspec.specs.document.Reading.{stored_node, raw_in, members_of, items_of, item_row, instance_row, stored_rows}
use Rattle.yspec.specs.document.Writing.{IsNew, RowDiffers}
use Rattle.yspec.proofs.DocumentProofs.MemberLemmas.{other_member}
use Rattle.yspec.proofs.ForestLemmas.{join_end, join_assoc}
use Rattle.yinst_tree.specs.View.{Labelled, view}
use Rattle.yinst_tree.specs.Told.{denoted_at}
use Rattle.yinst_tree.specs.Taking.{without, Taken, taken, taken_in}
use Rattle.yinst_tree.specs.declared.tree.Stored.{Stored}
use Rattle.yinst_tree.proofs.ApartLemmas.{AreNew, AllApart, new_parts, all_new_parts, differ_parts, below_apart}

-- ---- members

pub without_entry : (name : List ℕ) (es : List Entry)
    → json.members_view (remove_entry (is_at (λ k. slice_cmp nat_cmp name (string_bytes k))) es) ≡ without name (json.members_view es)
without_entry name [] = refl
without_entry name (e ∷ es) = by (is_eq (slice_cmp nat_cmp name (string_bytes e.0))) (without_entry name es)
  where
    by : (b : Bool) → json.members_view (remove_entry (is_at (λ (k : String Global). slice_cmp nat_cmp name (string_bytes k))) es) ≡ without name (json.members_view es)
        → json.members_view (cond b es (e ∷ remove_entry (is_at (λ (k : String Global). slice_cmp nat_cmp name (string_bytes k))) es))
        ≡ cond b (json.members_view es) (member (string_bytes e.0) (json.view e.1) (without name (json.members_view es)))
    by true h = refl
    by false h = ap (member (string_bytes e.0) (json.view e.1)) h

-- the other names keep their values
other_kept : (k name : Text) (ms : Members) → k ≢ name → get_member k (without name ms) ≡ get_member k ms
other_kept k name no_members other = refl
other_kept k name (member l e ms) other = by (is_eq (slice_cmp nat_cmp name l)) refl (other_kept k name ms other)
  where
    by : (b : Bool) → is_eq (slice_cmp nat_cmp name l) ≡ b → get_member k (without name ms) ≡ get_member k ms
        → get_member k (cond b ms (member l e (without name ms))) ≡ get_member k (member l e ms)
    by true is later =
        let same : name ≡ l = (bytes_eq-Decides name l).0 (sym (is_eq-slice_cmp name l) ∙ is) in
        sym (other_member k l e ms (λ (h : k ≡ l). other (h ∙ sym same)))
    by false is later = ap (λ r. match_ordering (slice_cmp nat_cmp k l) r (Some e) r) later

-- ---- a walk over a row

first_taken : (s : Schema) (parent : Option ℕ) (n : SchemaNode) (below after : Forest SchemaNode) (so_far : Taken)
    → taken s parent (node n below after) so_far ≡ taken s parent after (taken s parent (node n below end) so_far)
unfolding taken
first_taken s parent n below after so_far = refl

pub next_taken : (s : Schema) (parent : Option ℕ) (before : Forest SchemaNode) (n : SchemaNode) (below after : Forest SchemaNode) (so_far next whole : Taken)
    → before ≡ node n below after → taken s parent (node n below end) so_far ≡ next → taken s parent before so_far ≡ whole → taken s parent after next ≡ whole
next_taken s parent before n below after so_far next whole is first so =
    sym (ap (taken s parent after) first) ∙ (sym (first_taken s parent n below after so_far) ∙ (sym (ap (λ f. taken s parent f so_far) is) ∙ so))

pub all_taken : (s : Schema) (parent : Option ℕ) (f : Forest SchemaNode) (so_far : Taken) → f ≡ end → taken s parent f so_far ≡ so_far
unfolding taken
all_taken s parent f so_far is = ap (λ g. taken s parent g so_far) is

pub data_taken : (s : Schema) (parent : Option ℕ) (n : SchemaNode) (below : Forest SchemaNode) (ms left : Members) (found : Option Data) (done later : Tree)
    → is_data n.kind ≡ true → found ≡ get_member (written_name s parent n) ms → left ≡ without (written_name s parent n) ms
    → later ≡ join done (instance_row n (taken_in s n below) found) → taken s parent (node n below end) (done, ms) ≡ (later, left)
unfolding taken
data_taken s parent n below ms left found done later stands here others put =
    let there : Tree → Members → Taken = λ t rest. (t, rest) in
    ap (λ (b : Bool). cond b (there (join done (instance_row n (taken_in s n below) (get_member (written_name s parent n) ms))) (without (written_name s parent n) ms))
    (taken s parent below (done, ms))) stands
    ∙ sym (ap₂ there (put ∙ ap (λ o. join done (instance_row n (taken_in s n below) o)) here) others)

pub none_taken : (s : Schema) (parent : Option ℕ) (n : SchemaNode) (below : Forest SchemaNode) (ms left : Members) (found : Option Data) (done : Tree)
    → is_data n.kind ≡ true → found ≡ get_member (written_name s parent n) ms → found ≡ None → left ≡ without (written_name s parent n) ms
    → taken s parent (node n below end) (done, ms) ≡ (done, left)
none_taken s parent n below ms left found done stands here none others =
    data_taken s parent n below ms left found done done stands here others
    (sym (join_end done) ∙ ap (λ o. join done (instance_row n (taken_in s n below) o)) (sym none))

pub inside_taken : (s : Schema) (parent : Option ℕ) (n : SchemaNode) (below f : Forest SchemaNode) (so_far next : Taken)
    → is_data n.kind ≡ false → f ≡ below → taken s parent f so_far ≡ next → taken s parent (node n below end) so_far ≡ next
unfolding taken
inside_taken s parent n below f so_far next is same so =
    ap (λ (b : Bool). cond b (join so_far.0 (instance_row n (taken_in s n below) (get_member (written_name s parent n) so_far.1)), without (written_name s parent n) so_far.1)
    (taken s parent below so_far)) is ∙ (sym (ap (λ g. taken s parent g so_far) same) ∙ so)

-- ---- one instance

pub node_taken : (s : Schema) (n : SchemaNode) (f : Forest SchemaNode) (d : Data) (seen : Stored) (ms left : Members) (start row : Tree) (v : Option Raw)
    → (view seen).0 ≡ record { schema_number = n.number; value = v } → v ≡ raw_in n.kind d → (view seen).1 ≡ row → ms ≡ members_of d → start ≡ end
    → taken s (Some n.module_number) f (start, ms) ≡ (row, left) → view seen ≡ (stored_node n d, taken_in s n f d)
node_taken s n f d seen ms left start row v label held below are empty so =
    let pair : spec.Stored → Tree → Labelled = λ l t. (l, t) in
    let labelled : Option Raw → spec.Stored = λ v. record { schema_number = n.number; value = v } in
    ap₂ pair (label ∙ ap labelled held)
    (below ∙ (sym (ap (λ (t : Taken). t.0) so) ∙ ap₂ (λ t (rest : Members). (taken s (Some n.module_number) f (t, rest)).0) empty are))

-- ---- what is taken is what stands

-- a member that no node of a row is written as
row_kept : (s : Schema) (parent : Option ℕ) (name : Text) (f : Forest SchemaNode) (ms : Members) → IsNew s parent name (data_row f)
    → stored_rows s parent f (without name ms) ≡ stored_rows s parent f ms
unfolding stored_rows
row_kept s parent name end ms new = refl
row_kept s parent name (node n below after) ms new = by (is_data n.kind) new (row_kept s parent name below ms) (row_kept s parent name after ms)
  where
    row : Members → Tree
    row rest = instance_row n (λ d. stored_rows s (Some n.module_number) below (members_of d)) (get_member (written_name s parent n) rest)

    by : (b : Bool) → IsNew s parent name (cond b (node n below (data_row after)) (join (data_row below) (data_row after)))
        → (IsNew s parent name (data_row below) → stored_rows s parent below (without name ms) ≡ stored_rows s parent below ms)
        → (IsNew s parent name (data_row after) → stored_rows s parent after (without name ms) ≡ stored_rows s parent after ms)
        → join (cond b (row (without name ms)) (stored_rows s parent below (without name ms))) (stored_rows s parent after (without name ms))
        ≡ join (cond b (row ms) (stored_rows s parent below ms)) (stored_rows s parent after ms)
    by true new inner rest =
        ap₂ (λ o t. join (instance_row n (λ d. stored_rows s (Some n.module_number) below (members_of d)) o) t)
        (other_kept (written_name s parent n) name ms (λ h. new.0 (sym h))) (rest new.1)
    by false new inner rest =
        let parts = new_parts s parent name (data_row below) (data_row after) new in ap₂ join (inner parts.0) (rest parts.1)

-- those that are taken for one row, of another
others_kept : (s : Schema) (parent : Option ℕ) (f g : Forest SchemaNode) (so_far : Taken) → AreNew s parent (data_row f) (data_row g)
    → stored_rows s parent g (taken s parent f so_far).1 ≡ stored_rows s parent g so_far.1
unfolding taken
others_kept s parent end g so_far new = refl
others_kept s parent (node n below after) g so_far new =
    by (is_data n.kind) new (others_kept s parent below g so_far) (λ next. others_kept s parent after g next)
  where
    first : Taken
    first = (join so_far.0 (instance_row n (taken_in s n below) (get_member (written_name s parent n) so_far.1)), without (written_name s parent n) so_far.1)

    by : (b : Bool) → AreNew s parent (cond b (node n below (data_row after)) (join (data_row below) (data_row after))) (data_row g)
        → (AreNew s parent (data_row below) (data_row g) → stored_rows s parent g (taken s parent below so_far).1 ≡ stored_rows s parent g so_far.1)
        → ((next : Taken) → AreNew s parent (data_row after) (data_row g) → stored_rows s parent g (taken s parent after next).1 ≡ stored_rows s parent g next.1)
        → stored_rows s parent g (taken s parent after (cond b first (taken s parent below so_far))).1 ≡ stored_rows s parent g so_far.1
    by true new inner rest = rest first new.1 ∙ row_kept s parent (written_name s parent n) g so_far.1 new.0
    by false new inner rest =
        let parts = all_new_parts s parent (data_row below) (data_row after) (data_row g) new in
        rest (taken s parent below so_far) parts.1 ∙ inner parts.0

module _ (n : SchemaNode) (inner other : Data → Tree) (same : (d : Data) → inner d ≡ other d) where
  items_same : (ds : Items) → item_row n inner ds ≡ item_row n other ds
  items_same no_items = refl
  items_same (item d ds) = ap₂ (node (stored_node n d)) (same d) (items_same ds)

  instance_same : (o : Option Data) → instance_row n inner o ≡ instance_row n other o
  instance_same None = refl
  instance_same (Some d) = ap₂ (λ ts t. cond (is_many n.kind) ts (node (stored_node n d) t end)) (items_same (items_of d)) (same d)

pub taken_is : (s : Schema) (parent : Option ℕ) (f : Forest SchemaNode) (done : Tree) (ms : Members) → RowDiffers s parent (data_row f) → AllApart s f
    → (taken s parent f (done, ms)).0 ≡ join done (stored_rows s parent f ms)
unfolding taken stored_rows
taken_is s parent end done ms differ apart = sym (join_end done)
taken_is s parent (node n below after) done ms differ apart =
    by (is_data n.kind) differ
    (taken_is s parent below done ms (apart.0 parent) apart.1)
    (λ d. taken_is s (Some n.module_number) below end (members_of d) (apart.0 (Some n.module_number)) apart.1)
    (λ t rest own. taken_is s parent after t rest own apart.2)
  where
    name : Text
    name = written_name s parent n

    inside : Data → Tree
    inside d = stored_rows s (Some n.module_number) below (members_of d)

    by : (b : Bool) → RowDiffers s parent (cond b (node n below (data_row after)) (join (data_row below) (data_row after)))
        → (taken s parent below (done, ms)).0 ≡ join done (stored_rows s parent below ms)
        → ((d : Data) → taken_in s n below d ≡ inside d)
        → ((t : Tree) (rest : Members) → RowDiffers s parent (data_row after) → (taken s parent after (t, rest)).0 ≡ join t (stored_rows s parent after rest))
        → (taken s parent after (cond b (join done (instance_row n (taken_in s n below) (get_member name ms)), without name ms) (taken s parent below (done, ms)))).0
        ≡ join done (join (cond b (instance_row n inside (get_member name ms)) (stored_rows s parent below ms)) (stored_rows s parent after ms))
    by true differ passed same rest =
        rest (join done (instance_row n (taken_in s n below) (get_member name ms))) (without name ms) differ.1
        ∙ (ap₂ (λ t u. join (join done t) u) (instance_same n (taken_in s n below) inside same (get_member name ms)) (row_kept s parent name after ms differ.0)
        ∙ join_assoc done (instance_row n inside (get_member name ms)) (stored_rows s parent after ms))
    by false differ passed same rest =
        let parts = differ_parts s parent (data_row below) (data_row after) differ in
        let next = taken s parent below (done, ms) in
        rest next.0 next.1 parts.1
        ∙ (ap₂ join passed (others_kept s parent below after (done, ms) parts.2)
        ∙ join_assoc done (stored_rows s parent below ms) (stored_rows s parent after ms))

-- of an instance of the node of a number
pub denoted_by : (s : Schema) (number : ℕ) (o : Option SchemaNode) (n : SchemaNode) (f : Forest SchemaNode) (d : Data) (seen : Labelled) → AllApart s s.nodes → o ≡ Some n → o ≡ node_at s number
    → f ≡ children_of s number → seen ≡ (stored_node n d, taken_in s n f d) → Some seen ≡ denoted_at s number d
denoted_by s number o n f d seen apart is here row so =
    let below = below_apart s number apart in
    let denotes : Tree → Option Labelled = λ t. Some (stored_node n d, t) in
    ap Some so
    ∙ (ap (λ (g : Forest SchemaNode). denotes (taken_in s n g d)) row
    ∙ (ap denotes (taken_is s (Some n.module_number) (children_of s number) end (members_of d) (below.0 (Some n.module_number)) below.1)
    ∙ ap (option_map (λ (m : SchemaNode). (stored_node m d, stored_rows s (Some m.module_number) (children_of s number) (members_of d)))) (sym is ∙ here)))
