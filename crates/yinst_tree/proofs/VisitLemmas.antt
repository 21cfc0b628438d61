-- What is told of visits, one after another and within the room for right nodes.
use Rattle.std.proofs.Common.{◌≡◌, ℕ, ◌+◌, ◌≤◌, ◌<◌, Bool, true, false, cond, List, [], ◌∷◌, ◌++◌, length, drop, get_or, Option, Some, None, Result, Ok, Err, OnOk, rules, refl, sym, ap, ◌∙◌, subst}
use Rattle.std.specs.Prelude.{option_and_then}
use Rattle.std.specs.Option.{option_map_or}
use Rattle.std.proofs.lemmas.List.{append_assoc, append-nil, at_drop_more, at_drop_all}
use Rattle.serde_json.specs.Data.{Data, null, boolean, number, string, array, object, Items, item, Members, no_members, member}
use Rattle.serde_json.specs.Find.{as_object}
use Rattle.serde_json.specs.View as json
use Rattle.serde_json.specs.declared.value.Value.{Value, Array, Object, the_lemmas}
use Rattle.yspec.specs.Forest.{Forest}
use Rattle.yspec.specs.text.Text.{Text}
use Rattle.yspec.specs.schema.Schema.{Schema, SchemaNode, Kind, is_many, has_value, node_at, children_of, JsonForm, form_in}
use Rattle.yspec.specs.types.Types.{Raw}
use Rattle.yspec.specs.document.Document.{Step, step_to, step_at, below_place}
use Rattle.yspec.specs.document.Reading.{Refusal, Visit, right, wrong, named, at_named, raw_by, refused_by, leaf_visit, value_visit, object_visit, member_visits, node_visits, item_visits, instance_visits, first_wrong}
use Rattle.yspec.proofs.DocumentProofs.VisitLemmas.{one_visited, leaf_visited, other_visited}
use Rattle.yspec.proofs.SchemaProofs.NumberLemmas.{number_at}
use Rattle.yinst_tree.specs.Told.{Tells, Judges, refusal_by, refused_at, visits_at, told_within, Walks}
use Rattle.yinst_tree.specs.declared.fault.DocFault.{DocFault}

-- ---- walks

pub walks_same : (room : Option ℕ) (vs ws : List Visit) (r : Result (Option ℕ) DocFault) → vs ≡ ws → Walks room ws r → Walks room vs r
walks_same room vs ws r is h = subst (λ (x : List Visit). Walks room x r) (sym is) h

told_same : (f : DocFault) (o told : Option Refusal) → o ≡ told → Tells f told → Tells f o
told_same f o told is h = subst (λ (x : Option Refusal). Tells f x) (sym is) h

wrong_told : (room : Option ℕ) (code : ℕ) (place : List Step) (others : List Visit)
    → told_within room (wrong code place ∷ others) ≡ Some (record { code = code; place = place })
wrong_told None code place others = refl
wrong_told (Some room) code place others = refl

pub walks_wrong : (room : Option ℕ) (vs : List Visit) (code : ℕ) (place : List Step) (f : DocFault) → vs ≡ wrong code place ∷ []
    → Tells f (Some (record { code = code; place = place })) → Walks room vs (Err f)
walks_wrong room vs code place f is told others =
    told_same f (told_within room (vs ++ others)) _ (ap (λ (ws : List Visit). told_within room (ws ++ others)) is ∙ wrong_told room code place others) told

-- a right node, and then others
pub walks_then : (room left : Option ℕ) (place : List Step) (rest : List Visit) (r : Result (Option ℕ) DocFault)
    → Walks room (right place ∷ []) (Ok left) → Walks left rest r → Walks room (right place ∷ rest) r
walks_then room left place rest (Ok after) first later = λ others. first (rest ++ others) ∙ later others
walks_then room left place rest (Err f) first later = λ others. told_same f _ _ (first (rest ++ others)) (later others)

pub walks_stop : (room : Option ℕ) (place : List Step) (rest : List Visit) (f : DocFault)
    → Walks room (right place ∷ []) (Err f) → Walks room (right place ∷ rest) (Err f)
walks_stop room place rest f first others = first (rest ++ others)

-- The front of what is left to visit: `whole` is what is told of all with whatever follows.
pub front_right : (now next : Option ℕ) (front left rest : List Visit) (whole : List Visit → Option Refusal)
    → left ≡ front ++ rest → Walks now front (Ok next)
    → ((others : List Visit) → told_within now (left ++ others) ≡ whole others)
    → (others : List Visit) → told_within next (rest ++ others) ≡ whole others
front_right now next front left rest whole is walked so others =
    sym (walked (rest ++ others))
    ∙ (ap (told_within now) (sym (append_assoc front rest others))
    ∙ (ap (λ (vs : List Visit). told_within now (vs ++ others)) (sym is) ∙ so others))

pub front_wrong : (now : Option ℕ) (front left rest : List Visit) (whole : List Visit → Option Refusal) (f : DocFault)
    → left ≡ front ++ rest → Walks now front (Err f)
    → ((others : List Visit) → told_within now (left ++ others) ≡ whole others)
    → (others : List Visit) → Tells f (whole others)
front_wrong now front left rest whole f is walked so others =
    told_same f (whole others) (told_within now (front ++ (rest ++ others)))
    (sym (ap (told_within now) (sym (append_assoc front rest others))
    ∙ (ap (λ (vs : List Visit). told_within now (vs ++ others)) (sym is) ∙ so others)))
    (walked (rest ++ others))

pub none_left : (now : Option ℕ) (left : List Visit) (whole : List Visit → Option Refusal) → left ≡ []
    → ((others : List Visit) → told_within now (left ++ others) ≡ whole others) → (others : List Visit) → whole others ≡ told_within now others
none_left now left whole is so others = sym (so others) ∙ ap (λ (vs : List Visit). told_within now (vs ++ others)) is

-- what is told where nothing follows
none_told : (left : Option ℕ) → told_within left [] ≡ None
none_told None = refl
none_told (Some n) = refl

pub judged : (room : Option ℕ) (vs : List Visit) (r : Result (Option ℕ) DocFault) → Walks room vs r → Judges r (told_within room vs)
judged room vs (Ok left) walked = ap (told_within room) (sym (append-nil vs)) ∙ (walked [] ∙ none_told left)
judged room vs (Err f) walked = told_same f _ _ (ap (told_within room) (sym (append-nil vs))) (walked [])

-- ---- members

pub member_first : (s : Schema) (parent : Option ℕ) (children : Forest SchemaNode) (place here : List Step) (name shown : Text) (d : Data) (left rest : Members)
    → left ≡ member name d rest → shown ≡ name → here ≡ place
    → member_visits s parent children place left
    ≡ at_named (named s parent shown children) here (λ n below. node_visits s n below here d) ++ member_visits s parent children place rest
unfolding member_visits
member_first s parent children place here name shown d left rest is named_so placed_so =
    ap (λ (ms : Members). member_visits s parent children place ms) is
    ∙ (ap (λ (t : Text). at_named (named s parent t children) place (λ n below. node_visits s n below place d) ++ member_visits s parent children place rest) (sym named_so)
    ∙ ap (λ (p : List Step). at_named (named s parent shown children) p (λ n below. node_visits s n below p d) ++ member_visits s parent children place rest) (sym placed_so))

pub no_member : (s : Schema) (parent : Option ℕ) (children : Forest SchemaNode) (place : List Step) (left : Members) → left ≡ no_members
    → member_visits s parent children place left ≡ []
unfolding member_visits
no_member s parent children place left is = ap (λ (ms : Members). member_visits s parent children place ms) is

-- ---- nodes by their numbers

visits_some : (s : Schema) (i : ℕ) (n : SchemaNode) (visits : SchemaNode → Forest SchemaNode → List Visit) → node_at s i ≡ Some n
    → visits_at s i visits ≡ visits n (children_of s i)
visits_some s i n visits is = ap (λ (o : Option SchemaNode). option_map_or (λ n. visits n (children_of s i)) o []) is

-- what is refused at one instance
refused_one : (s : Schema) (i : ℕ) (place : List Step) (d : Data)
    → refused_at s i place d ≡ told_within None (visits_at s i (λ n below. instance_visits s n below place d))
refused_one s i place d = by (node_at s i)
  where
    by : (o : Option SchemaNode) → option_and_then (λ n. first_wrong (instance_visits s n (children_of s i) place d)) o
        ≡ first_wrong (option_map_or (λ n. instance_visits s n (children_of s i) place d) o [])
    by None = refl
    by (Some n) = refl

pub refused_whole : (s : Schema) (i : ℕ) (place : List Step) (d : Data) (r : Result (Option ℕ) DocFault) → place ≡ []
    → Walks None (visits_at s i (λ n below. instance_visits s n below place d)) r → Judges r (refused_at s i [] d)
refused_whole s i place d r top walked =
    subst (λ (o : Option Refusal). Judges r o) (sym (refused_one s i place d) ∙ ap (λ (p : List Step). refused_at s i p d) top)
    (judged None (visits_at s i (λ n below. instance_visits s n below place d)) r walked)

-- ---- values of nodes

pub visits_one : (s : Schema) (i : ℕ) (n : SchemaNode) (place here : List Step) (d : Data) → node_at s i ≡ Some n → is_many n.kind ≡ false
    → here ≡ place ++ step_to i ∷ []
    → visits_at s i (λ n below. node_visits s n below place d) ≡ visits_at s i (λ n below. instance_visits s n below here d)
visits_one s i n place here d is one at =
    visits_some s i n (λ n below. node_visits s n below place d) is
    ∙ (one_visited s n (children_of s i) place d one
    ∙ (ap (λ j. instance_visits s n (children_of s i) (place ++ step_to j ∷ []) d) (number_at s.nodes i n is)
    ∙ (ap (λ (p : List Step). instance_visits s n (children_of s i) p d) (sym at)
    ∙ sym (visits_some s i n (λ n below. instance_visits s n below here d) is))))

pub visits_array : (s : Schema) (i : ℕ) (n : SchemaNode) (place : List Step) (d : Data) (ds : Items) → node_at s i ≡ Some n → is_many n.kind ≡ true → d ≡ array ds
    → visits_at s i (λ n below. node_visits s n below place d) ≡ visits_at s i (λ n below. item_visits s n below place 1 ds)
unfolding node_visits
visits_array s i n place d ds is many array_so =
    visits_some s i n (λ n below. node_visits s n below place d) is
    ∙ (ap (λ (e : Data). node_visits s n (children_of s i) place e) array_so
    ∙ (ap (λ b. cond b (item_visits s n (children_of s i) place 1 ds) (value_visit n.kind (below_place place n) (array ds))) many
    ∙ sym (visits_some s i n (λ n below. item_visits s n below place 1 ds) is)))

abbrev pub is_array : Data → Bool
is_array (array ds) = true
is_array _ = false

pub no_array : (v : Value) → ((x : _) → v ≡ Array x → ⊥) → is_array (json.view v) ≡ false
no_array v h = search (rules, the_lemmas)

refused_many : (kind : Kind) (place : List Step) (vs : List Visit) → is_many kind ≡ true → cond (is_many kind) (wrong 5 place ∷ []) vs ≡ wrong 5 place ∷ []
refused_many kind place vs many = ap (λ b. cond b (wrong 5 place ∷ []) vs) many

many_wrong : (s : Schema) (n : SchemaNode) (below : Forest SchemaNode) (place : List Step) (d : Data) → is_many n.kind ≡ true → is_array d ≡ false
    → node_visits s n below place d ≡ wrong 5 (below_place place n) ∷ []
unfolding node_visits
many_wrong s n below place null many other = refused_many n.kind (below_place place n) (value_visit n.kind (below_place place n) null) many
many_wrong s n below place (boolean x) many other = refused_many n.kind (below_place place n) (value_visit n.kind (below_place place n) (boolean x)) many
many_wrong s n below place (number x) many other = refused_many n.kind (below_place place n) (value_visit n.kind (below_place place n) (number x)) many
many_wrong s n below place (string x) many other = refused_many n.kind (below_place place n) (value_visit n.kind (below_place place n) (string x)) many
many_wrong s n below place (array ds) many other = absurd cc
many_wrong s n below place (object ms) many other =
    refused_many n.kind (below_place place n) (object_visit n.kind (below_place place n) ms (member_visits s (Some n.module_number) below (below_place place n) ms)) many

pub visits_no_array : (s : Schema) (i : ℕ) (n : SchemaNode) (place here : List Step) (d : Data) → node_at s i ≡ Some n → is_many n.kind ≡ true → is_array d ≡ false
    → here ≡ place ++ step_to i ∷ [] → visits_at s i (λ n below. node_visits s n below place d) ≡ wrong 5 here ∷ []
visits_no_array s i n place here d is many other at =
    visits_some s i n (λ n below. node_visits s n below place d) is
    ∙ (many_wrong s n (children_of s i) place d many other
    ∙ (ap (λ j. wrong 5 (place ++ step_to j ∷ []) ∷ []) (number_at s.nodes i n is) ∙ ap (λ (p : List Step). wrong 5 p ∷ []) (sym at)))

pub leaf_right : (form : JsonForm) (place : List Step) (d : Data) → None ≡ refusal_by form d → leaf_visit form place d ≡ right place ∷ []
leaf_right form place d is = by (raw_by form d) is
  where
    by : (o : Option Raw) → None ≡ option_map_or (λ _. None) o (Some (refused_by form d))
        → option_map_or (λ _. right place ∷ []) o (wrong (refused_by form d) place ∷ []) ≡ right place ∷ []
    by None is = absurd cc
    by (Some raw) is = refl

-- ---- items

visits_item : (s : Schema) (i k : ℕ) (place : List Step) (d : Data) (ds : Items)
    → visits_at s i (λ n below. item_visits s n below place k (item d ds))
    ≡ visits_at s i (λ n below. instance_visits s n below (place ++ step_at i k ∷ []) d) ++ visits_at s i (λ n below. item_visits s n below place (k + 1) ds)
unfolding item_visits
visits_item s i k place d ds = by (node_at s i) refl
  where
    by : (o : Option SchemaNode) → node_at s i ≡ o
        → option_map_or (λ n. item_visits s n (children_of s i) place k (item d ds)) o []
        ≡ option_map_or (λ n. instance_visits s n (children_of s i) (place ++ step_at i k ∷ []) d) o [] ++ option_map_or (λ n. item_visits s n (children_of s i) place (k + 1) ds) o []
    by None is = refl
    by (Some n) is = ap (λ j. instance_visits s n (children_of s i) (place ++ step_at j k ∷ []) d ++ item_visits s n (children_of s i) place (k + 1) ds) (number_at s.nodes i n is)

pub item_first : (s : Schema) (i : ℕ) (place here : List Step) (items : List Value) (index : ℕ) (v : Value) → index < length items → v ≡ get_or items index v
    → here ≡ place ++ step_at i (index + 1) ∷ []
    → visits_at s i (λ n below. item_visits s n below place (index + 1) (json.items_view (drop index items)))
    ≡ visits_at s i (λ n below. instance_visits s n below here (json.view v))
    ++ visits_at s i (λ n below. item_visits s n below place (index + 1 + 1) (json.items_view (drop (index + 1) items)))
item_first s i place here items index v within is at =
    at_drop_more (λ vs. visits_at s i (λ n below. item_visits s n below place (index + 1) (json.items_view vs))) items index v within
    ∙ (ap (λ (x : Value). visits_at s i (λ n below. item_visits s n below place (index + 1) (json.items_view (x ∷ drop (index + 1) items)))) (sym is)
    ∙ (visits_item s i (index + 1) place (json.view v) (json.items_view (drop (index + 1) items))
    ∙ ap (λ (p : List Step). visits_at s i (λ n below. instance_visits s n below p (json.view v))
    ++ visits_at s i (λ n below. item_visits s n below place (index + 1 + 1) (json.items_view (drop (index + 1) items)))) (sym at)))

no_item_at : (s : Schema) (i k : ℕ) (place : List Step) → visits_at s i (λ n below. item_visits s n below place k (json.items_view [])) ≡ []
unfolding item_visits
no_item_at s i k place = by (node_at s i)
  where
    by : (o : Option SchemaNode) → option_map_or (λ n. item_visits s n (children_of s i) place k (json.items_view [])) o [] ≡ []
    by None = refl
    by (Some n) = refl

pub no_item : (s : Schema) (i k : ℕ) (place : List Step) (items : List Value) (index : ℕ) → length items ≤ index
    → visits_at s i (λ n below. item_visits s n below place k (json.items_view (drop index items))) ≡ []
no_item s i k place items index ended =
    at_drop_all (λ vs. visits_at s i (λ n below. item_visits s n below place k (json.items_view vs))) items index ended ∙ no_item_at s i k place

-- ---- instances

pub object_inside : (s : Schema) (i : ℕ) (n : SchemaNode) (place : List Step) (d : Data) (ms : Members) → node_at s i ≡ Some n → d ≡ object ms → has_value n.kind ≡ false
    → visits_at s i (λ n below. instance_visits s n below place d) ≡ right place ∷ member_visits s (Some n.module_number) (children_of s i) place ms
unfolding instance_visits
object_inside s i n place d ms is object_so other =
    visits_some s i n (λ n below. instance_visits s n below place d) is
    ∙ (ap (λ (e : Data). instance_visits s n (children_of s i) place e) object_so
    ∙ ap (λ b. cond b (leaf_visit (form_in n.kind) place (object ms)) (right place ∷ member_visits s (Some n.module_number) (children_of s i) place ms)) other)

no_object : (v : Value) → ((m : _) → v ≡ Object m → ⊥) → as_object (json.view v) ≡ None
no_object v h = search (rules, the_lemmas)

-- at a node that has a value
pub leaf_at : (s : Schema) (i : ℕ) (n : SchemaNode) (place : List Step) (d : Data) → node_at s i ≡ Some n → has_value n.kind ≡ true
    → visits_at s i (λ n below. instance_visits s n below place d) ≡ leaf_visit (form_in n.kind) place d
leaf_at s i n place d is has =
    visits_some s i n (λ n below. instance_visits s n below place d) is
    ∙ (leaf_visited s n (children_of s i) place d has ∙ ap (λ b. cond b (leaf_visit (form_in n.kind) place d) (wrong 5 place ∷ [])) has)

-- no object at another
pub other_at : (s : Schema) (i : ℕ) (n : SchemaNode) (place : List Step) (v : Value) → node_at s i ≡ Some n → has_value n.kind ≡ false → ((m : _) → v ≡ Object m → ⊥)
    → visits_at s i (λ n below. instance_visits s n below place (json.view v)) ≡ wrong 5 place ∷ []
other_at s i n place v is has h =
    visits_some s i n (λ n below. instance_visits s n below place (json.view v)) is
    ∙ (other_visited s n (children_of s i) place (json.view v) (no_object v h)
    ∙ ap (λ b. cond b (leaf_visit (form_in n.kind) place (json.view v)) (wrong 5 place ∷ [])) has)

pub as_before : {X A : Type 0} (r : Result X DocFault) (x : A) → OnOk r (x ≡ x)
as_before (Ok y) x = refl
as_before (Err e) x = tt
