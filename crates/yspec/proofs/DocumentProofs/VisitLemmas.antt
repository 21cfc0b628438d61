-- What is visited of members, where nothing is refused.
use Rattle.std.proofs.Common.{◌≡◌, ◌≢◌, ℕ, suc, ◌-◌, ◌≤◌, Bool, true, false, cond, eqb, List, [], ◌∷◌, ◌++◌, Option, Some, None, Ordering, Less, Equal, Greater, nat_cmp, is_eq, refl, sym, ap, ◌∙◌, arith}
use Rattle.std.proofs.lemmas.Bool.{eqb-false}
use Rattle.std.proofs.lemmas.Map.Text.{is_eq-slice_cmp}
use Rattle.std.proofs.lemmas.Slice.Eq.{bytes_eq-Decides}
use Rattle.std.specs.Cmp.Lexicographic.{slice_cmp}
use Rattle.std.specs.Ordering.{match_ordering}
use Rattle.serde_json.specs.Data.{Data, null, boolean, number, string, array, object, Items, Members, no_members, member}
use Rattle.serde_json.specs.Find.{as_object, get_member}
use Rattle.yspec.specs.Forest.{Forest, end, node, join}
use Rattle.yspec.specs.text.Text.{Text, is_text}
use Rattle.yspec.specs.schema.Schema.{Schema, SchemaNode, is_data, is_many, has_value, form_in, data_row, written_name, other_name}
use Rattle.yspec.specs.document.Document.{Step, below_place, document_limit}
use Rattle.yspec.specs.document.Reading.{Visit, right, wrong, child, named_in, other_or, at_named, leaf_visit, value_visit, member_visits, node_visits, item_visits, instance_visits, first_wrong, right_nodes, first_refusal, verdict, members_of}
use Rattle.yspec.specs.document.Fitting.{IsBare, LeafsAreBare}
use Rattle.yspec.specs.document.Writing.{IsNew, RowDiffers, AllDiffer}
use Rattle.yspec.proofs.BasicLemmas.{same_text, other_text}

-- ---- visits that are right

pub first_part : (vs ws : List Visit) → first_wrong (vs ++ ws) ≡ None → first_wrong vs ≡ None
first_part [] ws none = refl
first_part (right place ∷ vs) ws none = first_part vs ws none
first_part (wrong code place ∷ vs) ws none = let no : ⊥ = cc in absurd no

pub passes : (vs ws : List Visit) → first_wrong vs ≡ None → first_wrong (vs ++ ws) ≡ first_wrong ws
passes [] ws none = refl
passes (right place ∷ vs) ws none = passes vs ws none
passes (wrong code place ∷ vs) ws none = let no : ⊥ = cc in absurd no

pub other_part : (vs ws : List Visit) → first_wrong (vs ++ ws) ≡ None → first_wrong ws ≡ None
other_part [] ws none = none
other_part (right place ∷ vs) ws none = other_part vs ws none
other_part (wrong code place ∷ vs) ws none = let no : ⊥ = cc in absurd no

-- none is wrong, and there was room
pub none_refused : (vs : List Visit) (room : ℕ) → first_refusal room vs ≡ None → (first_wrong vs ≡ None) × (right_nodes vs ≤ room)
none_refused [] room none = (refl, omega arith)
none_refused (wrong code place ∷ vs) room none = let no : ⊥ = cc in absurd no
none_refused (right place ∷ vs) room none = by (eqb room 0) refl none (none_refused vs (room - 1))
  where
    by : (b : Bool) → eqb room 0 ≡ b → cond b (Some (record { code = 7; place = [] })) (first_refusal (room - 1) vs) ≡ None
        → (first_refusal (room - 1) vs ≡ None → (first_wrong vs ≡ None) × (right_nodes vs ≤ room - 1))
        → (first_wrong vs ≡ None) × (suc (right_nodes vs) ≤ room)
    by true is none rest = let no : ⊥ = cc in absurd no
    by false is none rest =
        let inner = rest none in let some = eqb-false room 0 is in (inner.0, omega (arith, inner.1, some))

-- the members of the top, which is an object
pub top_right : (s : Schema) (d : Data) → verdict s d ≡ None → first_wrong (member_visits s None s.nodes [] (members_of d)) ≡ None
top_right s null is = let no : ⊥ = cc in absurd no
top_right s (boolean b) is = let no : ⊥ = cc in absurd no
top_right s (number x) is = let no : ⊥ = cc in absurd no
top_right s (string t) is = let no : ⊥ = cc in absurd no
top_right s (array ds) is = let no : ⊥ = cc in absurd no
top_right s (object ms) is = (none_refused (member_visits s None s.nodes [] ms) document_limit is).0

-- ---- values

-- the value of a node of which one instance may be
pub one_visited : (s : Schema) (n : SchemaNode) (below : Forest SchemaNode) (place : List Step) (d : Data) → is_many n.kind ≡ false
    → node_visits s n below place d ≡ instance_visits s n below (below_place place n) d
unfolding node_visits instance_visits
one_visited s n below place null one = ap (λ b. cond b (wrong 5 (below_place place n) ∷ []) (value_visit n.kind (below_place place n) null)) one
one_visited s n below place (boolean x) one = ap (λ b. cond b (wrong 5 (below_place place n) ∷ []) (value_visit n.kind (below_place place n) (boolean x))) one
one_visited s n below place (number x) one = ap (λ b. cond b (wrong 5 (below_place place n) ∷ []) (value_visit n.kind (below_place place n) (number x))) one
one_visited s n below place (string x) one = ap (λ b. cond b (wrong 5 (below_place place n) ∷ []) (value_visit n.kind (below_place place n) (string x))) one
one_visited s n below place (array ds) one = ap (λ b. cond b (item_visits s n below place 1 ds) (value_visit n.kind (below_place place n) (array ds))) one
one_visited s n below place (object ms) one = ap (λ b. cond b (wrong 5 (below_place place n) ∷ []) (instance_visits s n below (below_place place n) (object ms))) one

-- another one's value is an array, where it is right
refused_many : (s : Schema) (n : SchemaNode) (place : List Step) (vs : List Visit) → is_many n.kind ≡ true
    → first_wrong (cond (is_many n.kind) (wrong 5 place ∷ []) vs) ≡ None → ⊥
refused_many s n place vs many is =
    let told : first_wrong (wrong 5 place ∷ []) ≡ None = sym (ap (λ b. first_wrong (cond b (wrong 5 place ∷ []) vs)) many) ∙ is in
    let no : ⊥ = cc in no

pub many_visited : (s : Schema) (n : SchemaNode) (below : Forest SchemaNode) (place : List Step) (d : Data) → is_many n.kind ≡ true
    → first_wrong (node_visits s n below place d) ≡ None
    → (ds : Items) × (d ≡ array ds) × (node_visits s n below place d ≡ item_visits s n below place 1 ds)
unfolding node_visits
many_visited s n below place null many is = absurd (refused_many s n (below_place place n) _ many is)
many_visited s n below place (boolean x) many is = absurd (refused_many s n (below_place place n) _ many is)
many_visited s n below place (number x) many is = absurd (refused_many s n (below_place place n) _ many is)
many_visited s n below place (string x) many is = absurd (refused_many s n (below_place place n) _ many is)
many_visited s n below place (array ds) many is =
    (ds, refl, ap (λ b. cond b (item_visits s n below place 1 ds) (value_visit n.kind (below_place place n) (array ds))) many)
many_visited s n below place (object ms) many is = absurd (refused_many s n (below_place place n) _ many is)

-- a value that is no object
pub other_visited : (s : Schema) (n : SchemaNode) (below : Forest SchemaNode) (place : List Step) (d : Data) → as_object d ≡ None
    → instance_visits s n below place d ≡ value_visit n.kind place d
unfolding instance_visits
other_visited s n below place null other = refl
other_visited s n below place (boolean b) other = refl
other_visited s n below place (number x) other = refl
other_visited s n below place (string t) other = refl
other_visited s n below place (array ds) other = refl
other_visited s n below place (object ms) other = let no : ⊥ = cc in absurd no

-- a value of a leaf or an item
pub leaf_visited : (s : Schema) (n : SchemaNode) (below : Forest SchemaNode) (place : List Step) (d : Data) → has_value n.kind ≡ true
    → instance_visits s n below place d ≡ value_visit n.kind place d
unfolding instance_visits
leaf_visited s n below place null is = refl
leaf_visited s n below place (boolean b) is = refl
leaf_visited s n below place (number x) is = refl
leaf_visited s n below place (string t) is = refl
leaf_visited s n below place (array ds) is = refl
leaf_visited s n below place (object ms) is =
    ap (λ b. cond b (leaf_visit (form_in n.kind) place (object ms)) (right place ∷ member_visits s (Some n.module_number) below place ms)) is
    ∙ sym (ap (λ b. cond b (leaf_visit (form_in n.kind) place (object ms)) (wrong 5 place ∷ [])) is)

pub no_members_of : (d : Data) → as_object d ≡ None → members_of d ≡ no_members
no_members_of null other = refl
no_members_of (boolean b) other = refl
no_members_of (number x) other = refl
no_members_of (string t) other = refl
no_members_of (array ds) other = refl
no_members_of (object ms) other = let no : ⊥ = cc in absurd no

-- ---- names

-- each node of a row is the one that its written name means in another row
abbrev pub AreMeant : Schema → Option ℕ → Forest SchemaNode → Forest SchemaNode → Type 0
AreMeant s parent others end = Unit {0}
AreMeant s parent others (node n below after) = (named_in s parent (written_name s parent n) others ≡ child n below) × AreMeant s parent others after

-- with one more node in front, which has another name
meant_later : (s : Schema) (parent : Option ℕ) (n : SchemaNode) (below others f : Forest SchemaNode) → IsNew s parent (written_name s parent n) f
    → AreMeant s parent others f → AreMeant s parent (node n below others) f
meant_later s parent n below others end new meant = tt
meant_later s parent n below others (node m inner f) new meant =
    let name = written_name s parent m in
    let apart : name ≢ written_name s parent n = λ e. new.0 (sym e) in (
      ap (λ b. cond b (child n below) (other_or (is_text name (other_name s parent n)) (named_in s parent name others))) (other_text name (written_name s parent n) apart)
          ∙ ap (other_or (is_text name (other_name s parent n))) meant.0,
      meant_later s parent n below others f new.1 meant.1,
    )

pub meant_themselves : (s : Schema) (parent : Option ℕ) (f : Forest SchemaNode) → RowDiffers s parent f → AreMeant s parent f f
meant_themselves s parent end differ = tt
meant_themselves s parent (node n below after) differ =
    let name = written_name s parent n in (
      ap (λ b. cond b (child n below) (other_or (is_text name (other_name s parent n)) (named_in s parent name after))) (same_text name),
      meant_later s parent n below after after differ.0 (meant_themselves s parent after differ.1),
    )

-- below a data node no two data nodes are written with one name, and below a leaf stands nothing
abbrev pub BelowDiffers : Schema → SchemaNode → Forest SchemaNode → Type 0
BelowDiffers s n below =
    RowDiffers s (Some n.module_number) (data_row below) × AllDiffer s below × IsBare n.kind below × LeafsAreBare below

abbrev pub EachDiffers : Schema → Forest SchemaNode → Type 0
EachDiffers s end = Unit {0}
EachDiffers s (node n below after) = BelowDiffers s n below × EachDiffers s after

each_joined : (s : Schema) (f g : Forest SchemaNode) → EachDiffers s f → EachDiffers s g → EachDiffers s (join f g)
each_joined s end g first second = second
each_joined s (node n below after) g first second = (first.0, each_joined s after g first.1 second)

pub each_differs : (s : Schema) (f : Forest SchemaNode) → AllDiffer s f → LeafsAreBare f → EachDiffers s (data_row f)
each_differs s end differ bare = tt
each_differs s (node n below after) differ bare =
    by (is_data n.kind) refl (each_differs s below differ.1 bare.1) (each_differs s after differ.2 bare.2)
  where
    by : (b : Bool) → is_data n.kind ≡ b → EachDiffers s (data_row below) → EachDiffers s (data_row after)
        → EachDiffers s (cond b (node n below (data_row after)) (join (data_row below) (data_row after)))
    by true is inner rest = ((differ.0 is, differ.1, bare.0, bare.1), rest)
    by false is inner rest = each_joined s (data_row below) (data_row after) inner rest

-- ---- members

-- the visits of a member
abbrev pub visits_of : Schema → Option ℕ → Forest SchemaNode → List Step → Text → Data → List Visit
visits_of s parent row place name d = at_named (named_in s parent name row) place (λ n below. node_visits s n below place d)

first_right : (s : Schema) (parent : Option ℕ) (children : Forest SchemaNode) (place : List Step) (name : Text) (d : Data) (ms : Members)
    → first_wrong (member_visits s parent children place (member name d ms)) ≡ None → first_wrong (visits_of s parent (data_row children) place name d) ≡ None
unfolding member_visits
first_right s parent children place name d ms is = first_part (visits_of s parent (data_row children) place name d) (member_visits s parent children place ms) is

others_right : (s : Schema) (parent : Option ℕ) (children : Forest SchemaNode) (place : List Step) (name : Text) (d : Data) (ms : Members)
    → first_wrong (member_visits s parent children place (member name d ms)) ≡ None → first_wrong (member_visits s parent children place ms) ≡ None
unfolding member_visits
others_right s parent children place name d ms is = other_part (visits_of s parent (data_row children) place name d) (member_visits s parent children place ms) is

same_data : (d e : Data) (a b : Option Data) → a ≡ Some d → b ≡ Some e → a ≡ b → d ≡ e
same_data d e a b first second h = cc

-- the member of a name is right, where all members are
found_right_at : (s : Schema) (parent : Option ℕ) (row : Forest SchemaNode) (place : List Step) (o : Ordering) (name other : Text) (d e : Data) (rest : Option Data)
    → slice_cmp nat_cmp name other ≡ o → first_wrong (visits_of s parent row place other e) ≡ None
    → (rest ≡ Some d → first_wrong (visits_of s parent row place name d) ≡ None)
    → match_ordering o rest (Some e) rest ≡ Some d → first_wrong (visits_of s parent row place name d) ≡ None
found_right_at s parent row place Less name other d e rest order this later is = later is
found_right_at s parent row place Equal name other d e rest order this later is =
    let same : name ≡ other = (bytes_eq-Decides name other).0 (sym (is_eq-slice_cmp name other) ∙ ap is_eq order) in
    ap (λ (x : Text). first_wrong (visits_of s parent row place x d)) same
    ∙ (ap (λ (x : Data). first_wrong (visits_of s parent row place other x)) (sym (same_data e d (Some e) (Some d) refl refl is)) ∙ this)
found_right_at s parent row place Greater name other d e rest order this later is = later is

found_right : (s : Schema) (parent : Option ℕ) (children : Forest SchemaNode) (place : List Step) (name : Text) (ms : Members) (d : Data)
    → first_wrong (member_visits s parent children place ms) ≡ None → get_member name ms ≡ Some d
    → first_wrong (visits_of s parent (data_row children) place name d) ≡ None
found_right s parent children place name no_members d these is = let no : ⊥ = cc in absurd no
found_right s parent children place name (member other e ms) d these is =
    found_right_at s parent (data_row children) place (slice_cmp nat_cmp name other) name other d e (get_member name ms) refl
    (first_right s parent children place other e ms these)
    (found_right s parent children place name ms d (others_right s parent children place other e ms these)) is

-- what the member of each node of a row is, where it is there
abbrev pub AreVisited : Schema → Option ℕ → List Step → Members → Forest SchemaNode → Type 0
AreVisited s parent place ms end = Unit {0}
AreVisited s parent place ms (node n below after) = ((d : Data) → get_member (written_name s parent n) ms ≡ Some d
    → BelowDiffers s n below × (first_wrong (node_visits s n below place d) ≡ None)) × AreVisited s parent place ms after

row_visited : (s : Schema) (parent : Option ℕ) (children : Forest SchemaNode) (place : List Step) (ms : Members) (f : Forest SchemaNode)
    → first_wrong (member_visits s parent children place ms) ≡ None → AreMeant s parent (data_row children) f → EachDiffers s f
    → AreVisited s parent place ms f
row_visited s parent children place ms end these meant differ = tt
row_visited s parent children place ms (node n below after) these meant differ = (
  λ d is. (
    differ.0,
    sym (ap (λ x. first_wrong (at_named x place (λ m inner. node_visits s m inner place d))) meant.0)
        ∙ found_right s parent children place (written_name s parent n) ms d these is,
  ),
  row_visited s parent children place ms after these meant.1 differ.1,
)

-- where nothing is refused of members
pub all_visited : (s : Schema) (parent : Option ℕ) (children : Forest SchemaNode) (place : List Step) (ms : Members)
    → RowDiffers s parent (data_row children) → AllDiffer s children → LeafsAreBare children
    → first_wrong (member_visits s parent children place ms) ≡ None → AreVisited s parent place ms (data_row children)
all_visited s parent children place ms differ all bare these =
    row_visited s parent children place ms (data_row children) these (meant_themselves s parent (data_row children) differ) (each_differs s children all bare)
