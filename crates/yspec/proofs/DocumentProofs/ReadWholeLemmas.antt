-- What is read is a document in its values too, where no two siblings are written with one name.
use Rattle.std.proofs.Common.{◌≡◌, ℕ, ◌+◌, ◌≤◌, Ordering, Less, Equal, Greater, nat_cmp, arith, Bool, true, false, cond, ℤ, pos, negsuc, List, [], ◌∷◌, Option, Some, None, Ok, refl, sym, ap, ◌∙◌, subst}
use Rattle.std.specs.Option.{option_map_or}
use Rattle.std.specs.Cmp.Lexicographic.{slice_cmp}
use Rattle.std.specs.Ordering.{match_ordering}
use Rattle.std.specs.Str.{is_utf8}
use Rattle.serde_json.specs.Data.{Num, unsigned, negative, float, Data, null, boolean, number, string, array, object, Items, no_items, item, Members, no_members, member, depth, items_depth, members_depth}
use Rattle.serde_json.specs.Find.{as_object, get_member, of_integer}
use Rattle.serde_json.specs.Read.{read, max_depth}
use Rattle.serde_json.proofs.Nesting.{depth-read}
use Rattle.yspec.specs.Forest.{Forest, end, node}
use Rattle.yspec.specs.types.Ranges.{lies_in}
use Rattle.yspec.specs.types.Types.{Raw, int}
use Rattle.yspec.specs.text.Text.{Text}
use Rattle.yspec.specs.schema.Schema.{Schema, SchemaNode, Kind, JsonForm, by_type, any_value, any_object, is_many, has_value, form_in, data_row, written_name}
use Rattle.yspec.specs.document.Document.{Tree, Step, below_place, instance_place}
use Rattle.yspec.specs.document.Reading.{whole_numbers, raw_number, raw_array, raw_of, raw_by, refused_by, json_of, Visit, right, wrong, leaf_visit, value_visit, member_visits, node_visits, item_visits, instance_visits, first_wrong, members_of, items_of, raw_in, stored_rows, document_of}
use Rattle.yspec.specs.document.Fitting.{IsNumbered, LeafsAreBare, FitsBy}
use Rattle.yspec.specs.document.Writing.{HasText, HasTextIf, HasForm, NamesDiffer, IsDocument}
use Rattle.yspec.proofs.DocumentProofs.FittingReadLemmas.{EachItem, IsHeld, IsHeldBy, AreHeld, row_fits, was_read}
use Rattle.yspec.proofs.DocumentProofs.JsonValueLemmas.{ItemsAreRead, MembersAreRead, json_is_read}
use Rattle.yspec.proofs.DocumentProofs.WholeTextLemmas.{IsGood, any_has_text, object_has_text}
use Rattle.yspec.proofs.DocumentProofs.ReadTextLemmas.{found_text}
use Rattle.yspec.proofs.DocumentProofs.WrittenShapeLemmas.{left_of, right_of}
use Rattle.yspec.proofs.DocumentProofs.VisitLemmas.{first_part, other_part, top_right, one_visited, many_visited, other_visited, no_members_of, BelowDiffers, AreVisited, all_visited}

-- ---- values as their types say

integer_read : (z : ℤ) → raw_of (number (of_integer z)) ≡ cond (lies_in z whole_numbers) (Some (int z)) None
integer_read (pos n) = refl
integer_read (negsuc n) = refl

integer_back : (z : ℤ) → lies_in z whole_numbers ≡ true → HasText by_type (Some (int z))
integer_back z inside = ap (λ b. raw_of (cond b (number (of_integer z)) null)) inside ∙ (integer_read z ∙ ap (λ b. cond b (Some (int z)) None) inside)

integer_has_text : (z : ℤ) (b : Bool) (raw : Raw) → lies_in z whole_numbers ≡ b → cond b (Some (int z)) None ≡ Some raw → HasText by_type (Some raw)
integer_has_text z true raw inside is = subst (HasText by_type) is (integer_back z inside)
integer_has_text z false raw inside is = let no : ⊥ = cc in absurd no

number_has_text : (n : Num) (raw : Raw) → raw_number n ≡ Some raw → HasText by_type (Some raw)
number_has_text (unsigned n) raw is = integer_has_text (pos n) (lies_in (pos n) whole_numbers) raw refl is
number_has_text (negative z) raw is = integer_has_text z (lies_in z whole_numbers) raw refl is
number_has_text (float x) raw is = let no : ⊥ = cc in absurd no

array_has_text : (ds : Items) (raw : Raw) → raw_array ds ≡ Some raw → HasText by_type (Some raw)
array_has_text no_items raw is = let no : ⊥ = cc in absurd no
array_has_text (item null no_items) raw is = subst (HasText by_type) is refl
array_has_text (item null (item e es)) raw is = let no : ⊥ = cc in absurd no
array_has_text (item (boolean b) ds) raw is = let no : ⊥ = cc in absurd no
array_has_text (item (number x) ds) raw is = let no : ⊥ = cc in absurd no
array_has_text (item (string s) ds) raw is = let no : ⊥ = cc in absurd no
array_has_text (item (array es) ds) raw is = let no : ⊥ = cc in absurd no
array_has_text (item (object ms) ds) raw is = let no : ⊥ = cc in absurd no

raw_has_text : (d : Data) (raw : Raw) → raw_of d ≡ Some raw → HasText by_type (Some raw)
raw_has_text null raw is = let no : ⊥ = cc in absurd no
raw_has_text (boolean b) raw is = subst (HasText by_type) is refl
raw_has_text (number n) raw is = number_has_text n raw is
raw_has_text (string s) raw is = subst (HasText by_type) is refl
raw_has_text (array ds) raw is = array_has_text ds raw is
raw_has_text (object ms) raw is = let no : ⊥ = cc in absurd no

-- ---- values of each form

form_has_text : (form : JsonForm) (d : Data) (raw : Raw) → IsGood d → raw_by form d ≡ Some raw → HasText form (Some raw)
form_has_text by_type d raw good is = raw_has_text d raw is
form_has_text any_value d raw good is = any_has_text d raw good is
form_has_text any_object d raw good is = object_has_text d raw good is

leaf_has_text : (form : JsonForm) (o : Option Raw) (code : ℕ) (place : List Step) → ((raw : Raw) → o ≡ Some raw → HasText form (Some raw))
    → first_wrong (option_map_or (λ _. right place ∷ []) o (wrong code place ∷ [])) ≡ None → HasText form o
leaf_has_text form None code place h is = let no : ⊥ = cc in absurd no
leaf_has_text form (Some raw) code place h is = h raw refl

leaf_form : (form : JsonForm) (place : List Step) (d : Data) → IsGood d → first_wrong (leaf_visit form place d) ≡ None → HasText form (raw_by form d)
leaf_form form place d good is = leaf_has_text form (raw_by form d) (refused_by form d) place (λ raw held. form_has_text form d raw good held) is

-- ---- nodes

-- what a right value holds
value_form : (kind : Kind) (place : List Step) (d : Data) → IsGood d → first_wrong (value_visit kind place d) ≡ None
    → HasTextIf (has_value kind) (form_in kind) (raw_in kind d)
value_form kind place d good is = by (has_value kind) is
  where
    by : (b : Bool) → first_wrong (cond b (leaf_visit (form_in kind) place d) (wrong 5 place ∷ [])) ≡ None
        → HasTextIf b (form_in kind) (cond b (raw_by (form_in kind) d) None)
    by true is = leaf_form (form_in kind) place d good is
    by false is = let no : ⊥ = cc in absurd no

-- members as they are read, and not too deep
abbrev pub AreGood : Members → Type 0
AreGood ms = MembersAreRead ms × (members_depth ms ≤ max_depth)

-- members of which nothing is refused at some place
abbrev pub AreRight : Schema → Option ℕ → Forest SchemaNode → Members → Type 0
AreRight s parent children ms = (place : List Step) × AreVisited s parent place ms (data_row children) × AreGood ms

none_right : (s : Schema) (parent : Option ℕ) (children : Forest SchemaNode) → first_wrong (member_visits s parent children [] no_members) ≡ None
unfolding member_visits
none_right s parent children = refl

other_held : (s : Schema) (n : SchemaNode) (below : Forest SchemaNode) (place : List Step) (d : Data) → BelowDiffers s n below → IsGood d → as_object d ≡ None
    → first_wrong (instance_visits s n below place d) ≡ None → IsHeld s HasForm (AreRight s) n below d
other_held s n below place d differ good other is = (
  value_form n.kind place d good (sym (ap first_wrong (other_visited s n below place d other)) ∙ is),
  subst (AreRight s (Some n.module_number) below) (sym (no_members_of d other)) (
    [],
    all_visited s (Some n.module_number) below [] no_members differ.0 differ.1 differ.3 (none_right s (Some n.module_number) below),
    (tt, omega arith),
  ),
)

object_held : (s : Schema) (n : SchemaNode) (below : Forest SchemaNode) (place : List Step) (ms : Members) → BelowDiffers s n below → IsGood (object ms)
    → first_wrong (instance_visits s n below place (object ms)) ≡ None → IsHeld s HasForm (AreRight s) n below (object ms)
unfolding instance_visits
object_held s n below place ms differ good is = by (has_value n.kind) refl is
  where
    form : JsonForm
    form = form_in n.kind

    inner : List Visit
    inner = member_visits s (Some n.module_number) below place ms

    members_good : AreGood ms
    members_good = let deep = good.1 in (good.0, omega (arith, deep))

    by : (b : Bool) → has_value n.kind ≡ b → first_wrong (cond b (leaf_visit form place (object ms)) (right place ∷ inner)) ≡ None
        → HasTextIf b form (cond b (raw_by form (object ms)) None) × AreRight s (Some n.module_number) below ms
    by true has is =
        let nothing = subst (λ (f : Forest SchemaNode). AreVisited s (Some n.module_number) place ms (data_row f)) (sym (differ.2 has)) tt in
        (leaf_form form place (object ms) good is, (place, nothing, members_good))
    by false has is = (refl, (place, all_visited s (Some n.module_number) below place ms differ.0 differ.1 differ.3 is, members_good))

-- what one instance holds
pub instance_held : (s : Schema) (n : SchemaNode) (below : Forest SchemaNode) (place : List Step) (d : Data) → BelowDiffers s n below → IsGood d
    → first_wrong (instance_visits s n below place d) ≡ None → IsHeld s HasForm (AreRight s) n below d
instance_held s n below place null differ good is = other_held s n below place null differ good refl is
instance_held s n below place (boolean b) differ good is = other_held s n below place (boolean b) differ good refl is
instance_held s n below place (number x) differ good is = other_held s n below place (number x) differ good refl is
instance_held s n below place (string t) differ good is = other_held s n below place (string t) differ good refl is
instance_held s n below place (array ds) differ good is = other_held s n below place (array ds) differ good refl is
instance_held s n below place (object ms) differ good is = object_held s n below place ms differ good is

items_held : (s : Schema) (n : SchemaNode) (below : Forest SchemaNode) (place : List Step) (position : ℕ) (ds : Items) → BelowDiffers s n below
    → ItemsAreRead ds → items_depth ds ≤ max_depth
    → first_wrong (item_visits s n below place position ds) ≡ None → EachItem (IsHeld s HasForm (AreRight s) n below) ds
unfolding item_visits
items_held s n below place position no_items differ read deep is = tt
items_held s n below place position (item d ds) differ read deep is =
    let first = instance_visits s n below (instance_place place n position) d in
    let rest = item_visits s n below place (position + 1) ds in (
      instance_held s n below (instance_place place n position) d differ (read.0, left_of (depth d) (items_depth ds) max_depth deep) (first_part first rest is),
      items_held s n below place (position + 1) ds differ read.1 (right_of (depth d) (items_depth ds) max_depth deep) (other_part first rest is),
    )

-- what the value of a member holds
node_held : (s : Schema) (n : SchemaNode) (below : Forest SchemaNode) (place : List Step) (d : Data) → BelowDiffers s n below → IsGood d
    → first_wrong (node_visits s n below place d) ≡ None → IsHeldBy s HasForm (AreRight s) (is_many n.kind) n below d
node_held s n below place d differ good is = by (is_many n.kind) refl
  where
    by : (b : Bool) → is_many n.kind ≡ b → IsHeldBy s HasForm (AreRight s) b n below d
    by true many =
        let found = many_visited s n below place d many is in
        let these : items_of d ≡ found.0 = ap items_of found.1 in
        let array_good = subst IsGood found.1 good in
        let deep = array_good.1 in
        subst (EachItem (IsHeld s HasForm (AreRight s) n below)) (sym these)
        (items_held s n below place 1 found.0 differ array_good.0 (omega (arith, deep)) (sym (ap first_wrong found.2) ∙ is))
    by false one = instance_held s n below (below_place place n) d differ good (sym (ap first_wrong (one_visited s n below place d one)) ∙ is)

-- the member of a name nests no deeper than all members
found_deep_at : (o : Ordering) (d e : Data) (later : Option Data) (n : ℕ) → depth e ≤ n → (later ≡ Some d → depth d ≤ n) → match_ordering o later (Some e) later ≡ Some d → depth d ≤ n
found_deep_at Less d e later n here there is = there is
found_deep_at Equal d e later n here there is = let same : e ≡ d = cc in subst (λ x. depth x ≤ n) same here
found_deep_at Greater d e later n here there is = there is

found_deep : (name : Text) (ms : Members) (d : Data) (n : ℕ) → members_depth ms ≤ n → get_member name ms ≡ Some d → depth d ≤ n
found_deep name no_members d n deep is = absurd cc
found_deep name (member other e ms) d n deep is =
    found_deep_at (slice_cmp nat_cmp name other) d e (get_member name ms) n (left_of (depth e) (members_depth ms) n deep)
    (λ is. found_deep name ms d n (right_of (depth e) (members_depth ms) n deep) is) is

row_held : (s : Schema) (parent : Option ℕ) (place : List Step) (ms : Members) (f : Forest SchemaNode) → AreGood ms → AreVisited s parent place ms f
    → AreHeld s HasForm (AreRight s) parent f ms
row_held s parent place ms end good visited = tt
row_held s parent place ms (node n below after) good visited = (
  λ d is.
      let this = visited.0 d is in
      let name = written_name s parent n in
      node_held s n below place d this.0 (found_text name ms d good.0 is, found_deep name ms d max_depth good.1 is) this.1,
  row_held s parent place ms after good visited.1,
)

-- ---- documents

-- the row of right members
pub right_rows : (s : Schema) (parent : Option ℕ) (children : Forest SchemaNode) (k : ℕ) (ms : Members) → IsNumbered k children
    → AreRight s parent children ms → FitsBy HasForm children 0 (stored_rows s parent children ms)
right_rows s parent children k ms numbered are_right = row_fits s HasForm (AreRight s)
    (λ parent children ms these. row_held s parent these.0 ms (data_row children) these.2 these.1)
    parent children k ms numbered are_right

pub json_is_good : (text : Text) (d : Data) → json_of text ≡ Some d → IsGood d
json_is_good text d is = (json_is_read text d is, by (is_utf8 text) is)
  where
    by : (b : Bool) → cond b (read text) None ≡ Some d → depth d ≤ max_depth
    by true is = depth-read text d is
    by false is = let no : ⊥ = cc in absurd no

top_good : (d : Data) → IsGood d → AreGood (members_of d)
top_good null good = (tt, omega arith)
top_good (boolean b) good = (tt, omega arith)
top_good (number x) good = (tt, omega arith)
top_good (string t) good = (tt, omega arith)
top_good (array ds) good = (tt, omega arith)
top_good (object ms) good = let deep = good.1 in (good.0, omega (arith, deep))

pub read_whole : (s : Schema) (bytes : List ℕ) (t : Tree) → IsNumbered 0 s.nodes → NamesDiffer s → LeafsAreBare s.nodes → document_of s bytes ≡ Ok t → IsDocument s t
read_whole s bytes t numbered differ bare so =
    let was = was_read s bytes t so in
    let ms = members_of was.value in
    let good = top_good was.value (json_is_good bytes was.value was.json) in
    subst (λ (u : Tree). IsDocument s u) was.is
    (right_rows s None s.nodes 0 ms numbered ([], all_visited s None s.nodes [] ms differ.0 differ.1 bare (top_right s was.value was.right), good))
