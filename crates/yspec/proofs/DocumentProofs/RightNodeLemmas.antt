-- Where nothing is refused, each node of the document has one right visit.
use Rattle.std.proofs.Common.{◌≡◌, ℕ, suc, ◌+◌, ◌≤◌, Bool, true, false, cond, List, [], ◌∷◌, Option, Some, None, Ok, refl, sym, ap, ap₂, ◌∙◌, subst, arith}
use Rattle.std.specs.Option.{option_map_or}
use Rattle.serde_json.specs.Data.{Data, null, boolean, number, string, array, object, Items, no_items, item, Members, no_members, member}
use Rattle.serde_json.specs.Find.{as_object, get_member}
use Rattle.yspec.specs.Forest.{Forest, end, node, size, join}
use Rattle.yspec.specs.text.Text.{Text, is_text}
use Rattle.yspec.specs.types.Types.{Raw}
use Rattle.yspec.specs.schema.Schema.{Schema, SchemaNode, Kind, is_data, is_many, has_value, form_in, data_row, written_name, other_name}
use Rattle.yspec.specs.document.Document.{Tree, Step, below_place, instance_place, document_limit}
use Rattle.yspec.specs.document.Reading.{Visit, right, wrong, raw_by, refused_by, child, named_in, other_or, at_named, value_visit, object_visit, member_visits, node_visits, item_visits, instance_visits, visits, first_wrong, right_nodes, verdict, members_of, items_of, stored_node, item_row, instance_row, stored_rows, denoted, json_of, document_of}
use Rattle.yspec.specs.document.Fitting.{IsBare, LeafsAreBare}
use Rattle.yspec.specs.document.Writing.{IsNew, RowDiffers, AllDiffer, NamesDiffer}
use Rattle.yspec.proofs.BasicLemmas.{other_text}
use Rattle.yspec.proofs.DocumentProofs.MemberLemmas.{IsRising, ItemsRise, AreRising, json_rising}
use Rattle.yspec.proofs.DocumentProofs.DataRowLemmas.{AreData, data_are_data, rows_of_data}
use Rattle.yspec.proofs.DocumentProofs.FittingReadLemmas.{EachItem, was_read}
use Rattle.yspec.proofs.DocumentProofs.CountLemmas.{rights_joined, EachMember, found_among, weigh_named, weigh_found, weigh_members, weigh_later, weigh_at_end, weigh_first, rights_named}
use Rattle.yspec.proofs.DocumentProofs.VisitLemmas.{first_part, other_part, none_refused, top_right, one_visited, many_visited, other_visited, no_members_of, BelowDiffers, AreVisited, all_visited}

size_joined : (t u : Tree) → size (join t u) ≡ size t + size u
size_joined end u = omega arith
size_joined (node l below after) u = let rest = size_joined after u in omega (arith, rest)

-- a name that no node of a row has weighs nothing there
new_weighs_nothing : (weight : SchemaNode → Forest SchemaNode → Data → ℕ) (s : Schema) (parent : Option ℕ) (name : Text) (f : Forest SchemaNode) (o : Option Data)
    → IsNew s parent name f → weigh_found weight (named_in s parent name f) o ≡ 0
new_weighs_nothing weight s parent name f None new = refl
new_weighs_nothing weight s parent name end (Some d) new = refl
new_weighs_nothing weight s parent name (node n below after) (Some d) new =
    ap (λ b. weigh_named weight (cond b (child n below) (other_or (is_text name (other_name s parent n)) (named_in s parent name after))) d)
    (other_text name (written_name s parent n) new.0)
    ∙ (weigh_later weight (is_text name (other_name s parent n)) (named_in s parent name after) d
    ∙ new_weighs_nothing weight s parent name after (Some d) new.1)

rows_of_none : (s : Schema) (parent : Option ℕ) (f : Forest SchemaNode) → stored_rows s parent f no_members ≡ end
unfolding stored_rows
rows_of_none s parent end = refl
rows_of_none s parent (node n below after) = by (is_data n.kind) (rows_of_none s parent below) (rows_of_none s parent after)
  where
    by : (b : Bool) → stored_rows s parent below no_members ≡ end → stored_rows s parent after no_members ≡ end
        → join (cond b end (stored_rows s parent below no_members)) (stored_rows s parent after no_members) ≡ end
    by true inner rest = rest
    by false inner rest = ap₂ join inner rest

-- ---- what is asked of a value

-- that each node which one instance stores has a right visit
abbrev IsCounted : Schema → Data → Type 0
IsCounted s d = (n : SchemaNode) (below : Forest SchemaNode) (place : List Step) → BelowDiffers s n below
    → first_wrong (instance_visits s n below place d) ≡ None
    → right_nodes (instance_visits s n below place d) ≡ suc (size (stored_rows s (Some n.module_number) below (members_of d)))

-- and so of the value of a member
abbrev IsCountedBy : Schema → Data → Type 0
IsCountedBy s d = (n : SchemaNode) (below : Forest SchemaNode) (place : List Step) → BelowDiffers s n below
    → first_wrong (node_visits s n below place d) ≡ None
    → right_nodes (node_visits s n below place d) ≡ size (instance_row n (λ e. stored_rows s (Some n.module_number) below (members_of e)) (Some d))

-- ---- rows

row_counted : (s : Schema) (parent : Option ℕ) (place : List Step) (ms : Members) (f : Forest SchemaNode) → AreData f → RowDiffers s parent f
    → AreRising ms → EachMember (IsCountedBy s) ms → AreVisited s parent place ms f
    → weigh_members (λ n below d. right_nodes (node_visits s n below place d)) s parent f ms ≡ size (stored_rows s parent f ms)
unfolding stored_rows
row_counted s parent place ms end are_data differ rising each visited =
    weigh_at_end (λ n below d. right_nodes (node_visits s n below place d)) s parent ms
row_counted s parent place ms (node n below after) are_data differ rising each visited =
    let first = weigh_first (λ n below d. right_nodes (node_visits s n below place d)) s parent n below after ms rising in
    let nothing = new_weighs_nothing (λ n below d. right_nodes (node_visits s n below place d)) s parent (written_name s parent n) after
    (get_member (written_name s parent n) ms) differ.0 in
    let rest = row_counted s parent place ms after are_data.1 differ.1 rising each visited.1 in
    let own = found (get_member (written_name s parent n) ms) refl in
    let joined = size_joined (instance_row n (λ d. stored_rows s (Some n.module_number) below (members_of d)) (get_member (written_name s parent n) ms))
    (stored_rows s parent after ms) in
    let these : size (join (cond (is_data n.kind) (instance_row n (λ d. stored_rows s (Some n.module_number) below (members_of d)) (get_member (written_name s parent n) ms))
    (stored_rows s parent below ms)) (stored_rows s parent after ms))
    ≡ size (join (instance_row n (λ d. stored_rows s (Some n.module_number) below (members_of d)) (get_member (written_name s parent n) ms)) (stored_rows s parent after ms))
    = ap (λ b. size (join (cond b (instance_row n (λ d. stored_rows s (Some n.module_number) below (members_of d)) (get_member (written_name s parent n) ms))
    (stored_rows s parent below ms)) (stored_rows s parent after ms))) are_data.0 in
    added _ _ _ _ _ _ _ first nothing rest own joined ∙ sym these
  where
    found : (o : Option Data) → get_member (written_name s parent n) ms ≡ o
        → weigh_found (λ n below d. right_nodes (node_visits s n below place d)) (child n below) o
        ≡ size (instance_row n (λ d. stored_rows s (Some n.module_number) below (members_of d)) o)
    found None is = refl
    found (Some d) is =
        let this = visited.0 d is in found_among (IsCountedBy s) (written_name s parent n) ms d each is n below place this.0 this.1

    added : (whole nothing own rest row others all : ℕ) → whole + nothing ≡ own + rest → nothing ≡ 0 → rest ≡ others → own ≡ row
        → all ≡ row + others → whole ≡ all
    added whole nothing own rest row others all first second third fourth fifth = omega (arith, first, second, third, fourth, fifth)

rights_weighed : (s : Schema) (parent : Option ℕ) (children : Forest SchemaNode) (place : List Step) (ms : Members)
    → right_nodes (member_visits s parent children place ms)
    ≡ weigh_members (λ n below d. right_nodes (node_visits s n below place d)) s parent (data_row children) ms
unfolding member_visits
rights_weighed s parent children place no_members = refl
rights_weighed s parent children place (member name d ms) =
    rights_joined (at_named (named_in s parent name (data_row children)) place (λ n below. node_visits s n below place d)) (member_visits s parent children place ms)
    ∙ ap₂ (λ a b. a + b) (rights_named (named_in s parent name (data_row children)) place d (λ n below e. node_visits s n below place e))
    (rights_weighed s parent children place ms)

members_counted : (s : Schema) (parent : Option ℕ) (children : Forest SchemaNode) (place : List Step) (ms : Members)
    → RowDiffers s parent (data_row children) → AllDiffer s children → LeafsAreBare children → AreRising ms → EachMember (IsCountedBy s) ms
    → first_wrong (member_visits s parent children place ms) ≡ None
    → right_nodes (member_visits s parent children place ms) ≡ size (stored_rows s parent children ms)
members_counted s parent children place ms differ all bare rising each is =
    rights_weighed s parent children place ms
    ∙ (row_counted s parent place ms (data_row children) (data_are_data children) differ rising each (all_visited s parent children place ms differ all bare is)
    ∙ ap size (sym (rows_of_data s parent children ms)))

-- ---- values

one_value : (kind : Kind) (place : List Step) (d : Data) → first_wrong (value_visit kind place d) ≡ None → right_nodes (value_visit kind place d) ≡ 1
one_value kind place d is = by (has_value kind) (raw_by (form_in kind) d) is
  where
    code : ℕ
    code = refused_by (form_in kind) d

    by : (b : Bool) (o : Option Raw) → first_wrong (cond b (option_map_or (λ _. right place ∷ []) o (wrong code place ∷ [])) (wrong 5 place ∷ [])) ≡ None
        → right_nodes (cond b (option_map_or (λ _. right place ∷ []) o (wrong code place ∷ [])) (wrong 5 place ∷ [])) ≡ 1
    by true (Some raw) is = refl
    by true None is = let no : ⊥ = cc in absurd no
    by false o is = let no : ⊥ = cc in absurd no

one_object : (kind : Kind) (place : List Step) (ms : Members) (inner : List Visit) (k : ℕ) → first_wrong (object_visit kind place ms inner) ≡ None
    → (has_value kind ≡ true → k ≡ 0) → (first_wrong inner ≡ None → right_nodes inner ≡ k) → right_nodes (object_visit kind place ms inner) ≡ suc k
one_object kind place ms inner k is none counted = by (has_value kind) refl (raw_by (form_in kind) (object ms)) is
  where
    code : ℕ
    code = refused_by (form_in kind) (object ms)

    by : (b : Bool) → has_value kind ≡ b → (o : Option Raw)
        → first_wrong (cond b (option_map_or (λ _. right place ∷ []) o (wrong code place ∷ [])) (right place ∷ inner)) ≡ None
        → right_nodes (cond b (option_map_or (λ _. right place ∷ []) o (wrong code place ∷ [])) (right place ∷ inner)) ≡ suc k
    by true has (Some raw) is = ap suc (sym (none has))
    by true has None is = let no : ⊥ = cc in absurd no
    by false has o is = ap suc (counted is)

-- nothing stands below a leaf
end_size : (s : Schema) (parent : Option ℕ) (ms : Members) → size (stored_rows s parent end ms) ≡ 0
unfolding stored_rows
end_size s parent ms = refl

bare_size : (s : Schema) (n : SchemaNode) (below : Forest SchemaNode) (ms : Members) → IsBare n.kind below → has_value n.kind ≡ true
    → size (stored_rows s (Some n.module_number) below ms) ≡ 0
bare_size s n below ms bare has =
    ap (λ (f : Forest SchemaNode). size (stored_rows s (Some n.module_number) f ms)) (bare has) ∙ end_size s (Some n.module_number) ms

other_counted : (s : Schema) (n : SchemaNode) (below : Forest SchemaNode) (place : List Step) (d : Data) → as_object d ≡ None
    → first_wrong (instance_visits s n below place d) ≡ None
    → right_nodes (instance_visits s n below place d) ≡ suc (size (stored_rows s (Some n.module_number) below (members_of d)))
other_counted s n below place d other is =
    let visited = other_visited s n below place d other in
    ap right_nodes visited ∙ (one_value n.kind place d (sym (ap first_wrong visited) ∙ is)
    ∙ sym (ap (λ t. suc (size t)) (ap (stored_rows s (Some n.module_number) below) (no_members_of d other) ∙ rows_of_none s (Some n.module_number) below)))

items_counted : (s : Schema) (n : SchemaNode) (below : Forest SchemaNode) (place : List Step) (position : ℕ) (ds : Items) → BelowDiffers s n below
    → EachItem (IsCounted s) ds → first_wrong (item_visits s n below place position ds) ≡ None
    → right_nodes (item_visits s n below place position ds) ≡ size (item_row n (λ e. stored_rows s (Some n.module_number) below (members_of e)) ds)
unfolding item_visits
items_counted s n below place position no_items differ each is = refl
items_counted s n below place position (item d ds) differ each is =
    let own = instance_visits s n below (instance_place place n position) d in
    let others = item_visits s n below place (position + 1) ds in
    let first = each.0 n below (instance_place place n position) differ (first_part own others is) in
    let rest = items_counted s n below place (position + 1) ds differ each.1 (other_part own others is) in
    let joined = rights_joined own others in
    omega (arith, first, rest, joined)

member_counted : (s : Schema) (d : Data) → IsCounted s d → EachItem (IsCounted s) (items_of d) → IsCountedBy s d
member_counted s d value each = λ n below place differ is. by n below place differ is (is_many n.kind) refl
  where
    by : (n : SchemaNode) (below : Forest SchemaNode) (place : List Step) → BelowDiffers s n below → first_wrong (node_visits s n below place d) ≡ None
        → (b : Bool) → is_many n.kind ≡ b
        → right_nodes (node_visits s n below place d)
        ≡ size (cond b (item_row n (λ e. stored_rows s (Some n.module_number) below (members_of e)) (items_of d))
        (node (stored_node n d) (stored_rows s (Some n.module_number) below (members_of d)) end))
    by n below place differ is true many =
        let found = many_visited s n below place d many is in
        let these : items_of d ≡ found.0 = ap items_of found.1 in
        ap right_nodes found.2
        ∙ (items_counted s n below place 1 found.0 differ (subst (EachItem (IsCounted s)) these each) (sym (ap first_wrong found.2) ∙ is)
        ∙ ap (λ ds. size (item_row n (λ e. stored_rows s (Some n.module_number) below (members_of e)) ds)) (sym these))
    by n below place differ is false one =
        let visited = one_visited s n below place d one in
        let counted = value n below (below_place place n) differ (sym (ap first_wrong visited) ∙ is) in
        ap right_nodes visited ∙ omega (arith, counted)

mutual
  unfolding instance_visits

  value_counted : (s : Schema) (d : Data) → IsRising d → IsCounted s d
  value_counted s null rising = λ n below place differ is. other_counted s n below place null refl is
  value_counted s (boolean b) rising = λ n below place differ is. other_counted s n below place (boolean b) refl is
  value_counted s (number x) rising = λ n below place differ is. other_counted s n below place (number x) refl is
  value_counted s (string t) rising = λ n below place differ is. other_counted s n below place (string t) refl is
  value_counted s (array ds) rising = λ n below place differ is. other_counted s n below place (array ds) refl is
  value_counted s (object ms) rising = λ n below place differ is.
      one_object n.kind place ms (member_visits s (Some n.module_number) below place ms) (size (stored_rows s (Some n.module_number) below ms)) is
      (bare_size s n below ms differ.2)
      (λ inner. members_counted s (Some n.module_number) below place ms differ.0 differ.1 differ.3 rising (each_counted s ms rising) inner)

  inner_counted : (s : Schema) (d : Data) → IsRising d → EachItem (IsCounted s) (items_of d)
  inner_counted s null rising = tt
  inner_counted s (boolean b) rising = tt
  inner_counted s (number x) rising = tt
  inner_counted s (string t) rising = tt
  inner_counted s (array ds) rising = each_item s ds rising
  inner_counted s (object ms) rising = tt

  each_item : (s : Schema) (ds : Items) → ItemsRise ds → EachItem (IsCounted s) ds
  each_item s no_items rising = tt
  each_item s (item d ds) rising = (value_counted s d rising.0, each_item s ds rising.1)

  each_counted : (s : Schema) (ms : Members) → AreRising ms → EachMember (IsCountedBy s) ms
  each_counted s no_members rising = tt
  each_counted s (member name d ms) rising =
      (member_counted s d (value_counted s d rising.1) (inner_counted s d rising.1), each_counted s ms rising.2)

-- ---- documents

-- the top is an object
all_counted : (s : Schema) (d : Data) → NamesDiffer s → LeafsAreBare s.nodes → IsRising d → verdict s d ≡ None → right_nodes (visits s d) ≡ size (denoted s d)
all_counted s null differ bare rising is = let no : ⊥ = cc in absurd no
all_counted s (boolean b) differ bare rising is = let no : ⊥ = cc in absurd no
all_counted s (number x) differ bare rising is = let no : ⊥ = cc in absurd no
all_counted s (string t) differ bare rising is = let no : ⊥ = cc in absurd no
all_counted s (array ds) differ bare rising is = let no : ⊥ = cc in absurd no
all_counted s (object ms) differ bare rising is =
    members_counted s None s.nodes [] ms differ.0 differ.1 bare rising (each_counted s ms rising) (top_right s (object ms) is)

same_value : (d e : Data) (o : Option Data) → o ≡ Some d → o ≡ Some e → d ≡ e
same_value d e o first second = let is : Some d ≡ Some e = sym first ∙ second in cc

pub read_counted : (s : Schema) (bytes : List ℕ) (d : Data) (t : Tree) → NamesDiffer s → LeafsAreBare s.nodes → json_of bytes ≡ Some d → document_of s bytes ≡ Ok t
    → right_nodes (visits s d) ≡ size t
read_counted s bytes d t differ bare json so =
    let was = was_read s bytes t so in
    let same : was.value ≡ d = same_value was.value d (json_of bytes) was.json json in
    subst (λ (x : Data). right_nodes (visits s x) ≡ size t) same
    (all_counted s was.value differ bare (json_rising bytes was.value was.json) was.right ∙ ap size was.is)

pub read_within : (s : Schema) (bytes : List ℕ) (t : Tree) → NamesDiffer s → LeafsAreBare s.nodes → document_of s bytes ≡ Ok t → size t ≤ document_limit
read_within s bytes t differ bare so =
    let was = was_read s bytes t so in
    let counted = read_counted s bytes was.value t differ bare was.json so in
    let room = (none_refused (visits s was.value) document_limit was.right).1 in
    omega (arith, counted, room)
