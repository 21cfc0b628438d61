-- What is found of members, of items, and of one value.
use Rattle.std.proofs.Common.{◌≡◌, ℕ, ◌+◌, ◌≤◌, ◌<◌, Bool, true, false, cond, List, [], ◌∷◌, ◌++◌, length, drop, get_or, Option, Some, None, Result, Ok, Err, OnOk, rules, refl, sym, ap, subst, ◌∙◌}
use Rattle.std.specs.Option.{option_map_or}
use Rattle.std.proofs.lemmas.List.{append_assoc, append-nil, at_drop_more, at_drop_all}
use Rattle.serde_json.specs.Data.{Data, null, boolean, number, string, array, object, Items, no_items, item, Members, no_members, member}
use Rattle.serde_json.specs.View as json
use Rattle.serde_json.specs.declared.value.Value.{Value, Array, Object, the_lemmas}
use Rattle.yspec.specs.text.Text.{Text}
use Rattle.yspec.specs.schema.Schema.{Schema, SchemaNode, is_many, has_value, node_at, module_at, row_at, form_in}
use Rattle.yspec.specs.document.Document.{Step, step_to, step_at, below_place}
use Rattle.yspec.specs.document.Reading.{named}
use Rattle.yspec.proofs.SchemaProofs.NumberLemmas.{number_at}
use Rattle.ysay_refusals.specs.Remarks.{Remark, of_value, name_remarks, leaf_remarks, plain_remarks, member_remarks, node_remarks, item_remarks, instance_remarks}

-- what is added of the front of what is left
pub added_front : (seen after front left rest whole : List Remark) → left ≡ front ++ rest → after ≡ seen ++ front → seen ++ left ≡ whole → after ++ rest ≡ whole
added_front seen after front left rest whole is added so =
    ap (λ (r : List Remark). r ++ rest) added ∙ (append_assoc seen front rest ∙ (ap (λ (r : List Remark). seen ++ r) (sym is) ∙ so))

pub added_all : (seen left whole : List Remark) → left ≡ [] → seen ++ left ≡ whole → seen ≡ whole
added_all seen left whole is so = sym (append-nil seen) ∙ (ap (λ (r : List Remark). seen ++ r) (sym is) ∙ so)

pub added_same : {X E : Type 0} (r : Result X E) (after seen here there : List Remark) → here ≡ there → OnOk r (after ≡ seen ++ here) → OnOk r (after ≡ seen ++ there)
added_same r after seen here there is = subst (λ (x : List Remark). OnOk r (after ≡ seen ++ x)) is

pub as_before : {X E A : Type 0} (r : Result X E) (x : A) → OnOk r (x ≡ x)
as_before (Ok y) x = refl
as_before (Err e) x = tt

-- ---- members

pub member_first : (s : Schema) (parent : Option ℕ) (place here : List Step) (name shown : Text) (d : Data) (left rest : Members)
    → left ≡ member name d rest → shown ≡ name → here ≡ place
    → member_remarks s parent place left
    ≡ name_remarks here shown (λ n. node_remarks s n here d) (named s (module_at s parent) shown (row_at s parent)) ++ member_remarks s parent place rest
unfolding member_remarks
member_first s parent place here name shown d left rest is named_so placed_so =
    let m = module_at s parent in
    let row = row_at s parent in
    ap (λ (ms : Members). member_remarks s parent place ms) is
    ∙ (ap (λ (t : Text). name_remarks place t (λ n. node_remarks s n place d) (named s m t row) ++ member_remarks s parent place rest) (sym named_so)
    ∙ ap (λ (p : List Step). name_remarks p shown (λ n. node_remarks s n p d) (named s m shown row) ++ member_remarks s parent place rest) (sym placed_so))

pub no_member : (s : Schema) (parent : Option ℕ) (place : List Step) (left : Members) → left ≡ no_members → member_remarks s parent place left ≡ []
unfolding member_remarks
no_member s parent place left is = ap (λ (ms : Members). member_remarks s parent place ms) is

-- ---- the node of a number

abbrev pub remarks_at : Schema → ℕ → (SchemaNode → List Remark) → List Remark
remarks_at s i remarks = option_map_or remarks (node_at s i) []

remarks_some : (s : Schema) (i : ℕ) (n : SchemaNode) (remarks : SchemaNode → List Remark) → node_at s i ≡ Some n → remarks_at s i remarks ≡ remarks n
remarks_some s i n remarks is = ap (λ (o : Option SchemaNode). option_map_or remarks o []) is

-- ---- the value of a member

one_remarked : (s : Schema) (n : SchemaNode) (place : List Step) (d : Data) → is_many n.kind ≡ false
    → node_remarks s n place d ≡ instance_remarks s n (below_place place n) d
unfolding node_remarks
one_remarked s n place null one = ap (λ b. cond b (of_value 5 (below_place place n) null ∷ []) (plain_remarks n.kind (below_place place n) null)) one
one_remarked s n place (boolean x) one = ap (λ b. cond b (of_value 5 (below_place place n) (boolean x) ∷ []) (plain_remarks n.kind (below_place place n) (boolean x))) one
one_remarked s n place (number x) one = ap (λ b. cond b (of_value 5 (below_place place n) (number x) ∷ []) (plain_remarks n.kind (below_place place n) (number x))) one
one_remarked s n place (string x) one = ap (λ b. cond b (of_value 5 (below_place place n) (string x) ∷ []) (plain_remarks n.kind (below_place place n) (string x))) one
one_remarked s n place (array ds) one = ap (λ b. cond b (item_remarks s n place 1 ds) (plain_remarks n.kind (below_place place n) (array ds))) one
one_remarked s n place (object ms) one = ap (λ b. cond b (of_value 5 (below_place place n) (object ms) ∷ []) (instance_remarks s n (below_place place n) (object ms))) one

abbrev pub is_array : Data → Bool
is_array (array ds) = true
is_array _ = false

pub no_array : (v : Value) → ((x : _) → v ≡ Array x → ⊥) → is_array (json.view v) ≡ false
no_array v h = search (rules, the_lemmas)

many_wrong : (s : Schema) (n : SchemaNode) (place : List Step) (d : Data) → is_many n.kind ≡ true → is_array d ≡ false
    → node_remarks s n place d ≡ of_value 5 (below_place place n) d ∷ []
unfolding node_remarks
many_wrong s n place null many other = ap (λ b. cond b (of_value 5 (below_place place n) null ∷ []) (plain_remarks n.kind (below_place place n) null)) many
many_wrong s n place (boolean x) many other = ap (λ b. cond b (of_value 5 (below_place place n) (boolean x) ∷ []) (plain_remarks n.kind (below_place place n) (boolean x))) many
many_wrong s n place (number x) many other = ap (λ b. cond b (of_value 5 (below_place place n) (number x) ∷ []) (plain_remarks n.kind (below_place place n) (number x))) many
many_wrong s n place (string x) many other = ap (λ b. cond b (of_value 5 (below_place place n) (string x) ∷ []) (plain_remarks n.kind (below_place place n) (string x))) many
many_wrong s n place (object ms) many other = ap (λ b. cond b (of_value 5 (below_place place n) (object ms) ∷ []) (instance_remarks s n (below_place place n) (object ms))) many
many_wrong s n place (array ds) many other = search rules

pub remarks_one : (s : Schema) (i : ℕ) (n : SchemaNode) (place here : List Step) (d : Data) → node_at s i ≡ Some n → is_many n.kind ≡ false
    → here ≡ place ++ step_to i ∷ []
    → remarks_at s i (λ n. instance_remarks s n here d) ≡ remarks_at s i (λ n. node_remarks s n place d)
remarks_one s i n place here d is one at =
    remarks_some s i n (λ n. instance_remarks s n here d) is
    ∙ (ap (λ (p : List Step). instance_remarks s n p d) at
    ∙ (ap (λ j. instance_remarks s n (place ++ step_to j ∷ []) d) (sym (number_at s.nodes i n is))
    ∙ (sym (one_remarked s n place d one)
    ∙ sym (remarks_some s i n (λ n. node_remarks s n place d) is))))

pub remarks_array : (s : Schema) (i : ℕ) (n : SchemaNode) (place : List Step) (d : Data) (ds : Items) → node_at s i ≡ Some n → is_many n.kind ≡ true → d ≡ array ds
    → remarks_at s i (λ n. item_remarks s n place 1 ds) ≡ remarks_at s i (λ n. node_remarks s n place d)
unfolding node_remarks
remarks_array s i n place d ds is many array_so =
    remarks_some s i n (λ n. item_remarks s n place 1 ds) is
    ∙ (sym (ap (λ (e : Data). node_remarks s n place e) array_so
    ∙ ap (λ b. cond b (item_remarks s n place 1 ds) (plain_remarks n.kind (below_place place n) (array ds))) many)
    ∙ sym (remarks_some s i n (λ n. node_remarks s n place d) is))

pub remarks_no_array : (s : Schema) (i : ℕ) (n : SchemaNode) (place : List Step) (d : Data) → node_at s i ≡ Some n → is_many n.kind ≡ true → is_array d ≡ false
    → of_value 5 (place ++ step_to i ∷ []) d ∷ [] ≡ remarks_at s i (λ n. node_remarks s n place d)
remarks_no_array s i n place d is many other =
    ap (λ j. of_value 5 (place ++ step_to j ∷ []) d ∷ []) (sym (number_at s.nodes i n is))
    ∙ (sym (many_wrong s n place d many other) ∙ sym (remarks_some s i n (λ n. node_remarks s n place d) is))

-- ---- items

first_item : (s : Schema) (i k : ℕ) (place : List Step) (d : Data) (ds : Items)
    → remarks_at s i (λ n. item_remarks s n place k (item d ds))
    ≡ remarks_at s i (λ n. instance_remarks s n (place ++ step_at i k ∷ []) d) ++ remarks_at s i (λ n. item_remarks s n place (k + 1) ds)
unfolding item_remarks
first_item s i k place d ds = of_found (node_at s i) refl where
  of_found : (o : Option SchemaNode) → node_at s i ≡ o
      → option_map_or (λ n. item_remarks s n place k (item d ds)) o []
      ≡ option_map_or (λ n. instance_remarks s n (place ++ step_at i k ∷ []) d) o [] ++ option_map_or (λ n. item_remarks s n place (k + 1) ds) o []
  of_found None is = refl
  of_found (Some n) is = ap (λ j. instance_remarks s n (place ++ step_at j k ∷ []) d ++ item_remarks s n place (k + 1) ds) (number_at s.nodes i n is)

pub item_first : (s : Schema) (i : ℕ) (place here : List Step) (items : List Value) (index : ℕ) (v : Value) → index < length items → v ≡ get_or items index v
    → here ≡ place ++ step_at i (index + 1) ∷ []
    → remarks_at s i (λ n. item_remarks s n place (index + 1) (json.items_view (drop index items)))
    ≡ remarks_at s i (λ n. instance_remarks s n here (json.view v))
    ++ remarks_at s i (λ n. item_remarks s n place (index + 1 + 1) (json.items_view (drop (index + 1) items)))
item_first s i place here items index v within is at =
    at_drop_more (λ vs. remarks_at s i (λ n. item_remarks s n place (index + 1) (json.items_view vs))) items index v within
    ∙ (ap (λ (x : Value). remarks_at s i (λ n. item_remarks s n place (index + 1) (json.items_view (x ∷ drop (index + 1) items)))) (sym is)
    ∙ (first_item s i (index + 1) place (json.view v) (json.items_view (drop (index + 1) items))
    ∙ ap (λ (p : List Step). remarks_at s i (λ n. instance_remarks s n p (json.view v))
    ++ remarks_at s i (λ n. item_remarks s n place (index + 1 + 1) (json.items_view (drop (index + 1) items)))) (sym at)))

none_there : (s : Schema) (i k : ℕ) (place : List Step) → remarks_at s i (λ n. item_remarks s n place k no_items) ≡ []
unfolding item_remarks
none_there s i k place = of_found (node_at s i) where
  of_found : (o : Option SchemaNode) → option_map_or (λ n. item_remarks s n place k no_items) o [] ≡ []
  of_found None = refl
  of_found (Some n) = refl

pub no_item : (s : Schema) (i k : ℕ) (place : List Step) (items : List Value) (index : ℕ) → length items ≤ index
    → remarks_at s i (λ n. item_remarks s n place k (json.items_view (drop index items))) ≡ []
no_item s i k place items index ended =
    at_drop_all (λ vs. remarks_at s i (λ n. item_remarks s n place k (json.items_view vs))) items index ended ∙ none_there s i k place

-- ---- one value

abbrev pub is_object : Data → Bool
is_object (object ms) = true
is_object _ = false

pub no_object : (v : Value) → ((x : _) → v ≡ Object x → ⊥) → is_object (json.view v) ≡ false
no_object v h = search (rules, the_lemmas)

leaf_remarked : (s : Schema) (n : SchemaNode) (place : List Step) (d : Data) → has_value n.kind ≡ true
    → instance_remarks s n place d ≡ leaf_remarks (form_in n.kind) place d
unfolding instance_remarks
leaf_remarked s n place null has = ap (λ b. cond b (leaf_remarks (form_in n.kind) place null) (of_value 5 place null ∷ [])) has
leaf_remarked s n place (boolean x) has = ap (λ b. cond b (leaf_remarks (form_in n.kind) place (boolean x)) (of_value 5 place (boolean x) ∷ [])) has
leaf_remarked s n place (number x) has = ap (λ b. cond b (leaf_remarks (form_in n.kind) place (number x)) (of_value 5 place (number x) ∷ [])) has
leaf_remarked s n place (string x) has = ap (λ b. cond b (leaf_remarks (form_in n.kind) place (string x)) (of_value 5 place (string x) ∷ [])) has
leaf_remarked s n place (array ds) has = ap (λ b. cond b (leaf_remarks (form_in n.kind) place (array ds)) (of_value 5 place (array ds) ∷ [])) has
leaf_remarked s n place (object ms) has = ap (λ b. cond b (leaf_remarks (form_in n.kind) place (object ms)) (member_remarks s (Some n.number) place ms)) has

other_remarked : (s : Schema) (n : SchemaNode) (place : List Step) (d : Data) → has_value n.kind ≡ false → is_object d ≡ false
    → instance_remarks s n place d ≡ of_value 5 place d ∷ []
unfolding instance_remarks
other_remarked s n place null has other = ap (λ b. cond b (leaf_remarks (form_in n.kind) place null) (of_value 5 place null ∷ [])) has
other_remarked s n place (boolean x) has other = ap (λ b. cond b (leaf_remarks (form_in n.kind) place (boolean x)) (of_value 5 place (boolean x) ∷ [])) has
other_remarked s n place (number x) has other = ap (λ b. cond b (leaf_remarks (form_in n.kind) place (number x)) (of_value 5 place (number x) ∷ [])) has
other_remarked s n place (string x) has other = ap (λ b. cond b (leaf_remarks (form_in n.kind) place (string x)) (of_value 5 place (string x) ∷ [])) has
other_remarked s n place (array ds) has other = ap (λ b. cond b (leaf_remarks (form_in n.kind) place (array ds)) (of_value 5 place (array ds) ∷ [])) has
other_remarked s n place (object ms) has other = search rules

pub leaf_at : (s : Schema) (i : ℕ) (n : SchemaNode) (place : List Step) (d : Data) → node_at s i ≡ Some n → has_value n.kind ≡ true
    → leaf_remarks (form_in n.kind) place d ≡ remarks_at s i (λ n. instance_remarks s n place d)
leaf_at s i n place d is has = sym (remarks_some s i n (λ n. instance_remarks s n place d) is ∙ leaf_remarked s n place d has)

pub other_at : (s : Schema) (i : ℕ) (n : SchemaNode) (place : List Step) (v : Value) → node_at s i ≡ Some n → has_value n.kind ≡ false → ((m : _) → v ≡ Object m → ⊥)
    → of_value 5 place (json.view v) ∷ [] ≡ remarks_at s i (λ n. instance_remarks s n place (json.view v))
other_at s i n place v is has h = sym (remarks_some s i n (λ n. instance_remarks s n place (json.view v)) is ∙ other_remarked s n place (json.view v) has (no_object v h))

pub object_inside : (s : Schema) (i : ℕ) (n : SchemaNode) (place : List Step) (d : Data) (ms : Members) → node_at s i ≡ Some n → d ≡ object ms → has_value n.kind ≡ false
    → member_remarks s (Some i) place ms ≡ remarks_at s i (λ n. instance_remarks s n place d)
unfolding instance_remarks
object_inside s i n place d ms is object_so other =
    sym (remarks_some s i n (λ n. instance_remarks s n place d) is
    ∙ (ap (λ (e : Data). instance_remarks s n place e) object_so
    ∙ (ap (λ b. cond b (leaf_remarks (form_in n.kind) place (object ms)) (member_remarks s (Some n.number) place ms)) other
    ∙ ap (λ j. member_remarks s (Some j) place ms) (number_at s.nodes i n is))))
