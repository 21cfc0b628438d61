-- The members of a row, put in node by node, and what the text of all of them reads as.
use Rattle.std.proofs.Common.{◌≡◌, ℕ, ◌+◌, ◌≤◌, ◌<◌, Bool, true, false, cond, List, [], ◌∷◌, ◌++◌, length, drop, get_or, Option, Some, None, Ok, refl, sym, ap, ap₂, ◌∙◌, arith}
use Rattle.std.proofs.lemmas.List.{at_drop_more, at_drop_all}
use Rattle.std.specs.Str.{IsUtf8}
use Rattle.serde_json.specs.Data.{Data, Members, no_members, Items, no_items, item, object, depth}
use Rattle.serde_json.specs.Read.{read, max_depth}
use Rattle.serde_json.specs.Written.{has_float, compact_text}
use Rattle.serde_json.specs.View as json
use Rattle.serde_json.specs.declared.value.Value.{Value}
use Rattle.yspec.specs.Forest.{Forest, end, node, levels, size}
use Rattle.yspec.specs.schema.Schema.{Schema, SchemaNode, Kind, is_data, written_name, has_anything}
use Rattle.yspec.specs.schema.Breaks.{level_limit, low_level_limit}
use Rattle.yspec.specs.document.Document.{Tree, document_limit}
use Rattle.yspec.specs.document.Reading.{document_of}
use Rattle.yspec.specs.document.Fitting.{IsNumbered, LeafsAreBare}
use Rattle.yspec.specs.document.Sorting.{IsSorted}
use Rattle.yspec.specs.document.Writing.{written_node, written_items, with_instances, written_value, written_text, NamesDiffer, HasForm, IsDocument}
use Rattle.yspec.proofs.DocumentProofs.JsonLemmas.{json_found}
use Rattle.yspec.proofs.DocumentProofs.ReadBackLemmas.{written_read}
use Rattle.yspec.proofs.DocumentProofs.SortingLemmas.{fits_sorted}
use Rattle.yspec.proofs.DocumentProofs.WrittenShapeLemmas.{no_fractions, written_shallow}
use Rattle.yinst_tree.specs.View.{view, row_view}
use Rattle.yinst_tree.specs.Walk.{mine, others, Left, walked, members_in}
use Rattle.yinst_tree.proofs.WalkLemmas.{walked_on}
use Rattle.yinst_tree.specs.declared.tree.Stored.{Stored}

-- ---- schema nodes

-- the first of a row, and then those after it
first_walked : (s : Schema) (parent : Option ℕ) (n : SchemaNode) (below after : Forest SchemaNode) (left : Left)
    → walked s parent (node n below after) left ≡ walked s parent after (walked s parent (node n below end) left)
unfolding walked
first_walked s parent n below after left = refl

pub next_walked : (s : Schema) (parent : Option ℕ) (before : Forest SchemaNode) (n : SchemaNode) (below after : Forest SchemaNode) (left next whole : Left)
    → before ≡ node n below after → walked s parent (node n below end) left ≡ next → walked s parent before left ≡ whole → walked s parent after next ≡ whole
next_walked s parent before n below after left next whole is first so =
    sym (ap (walked s parent after) first) ∙ (sym (first_walked s parent n below after left) ∙ (sym (ap (λ f. walked s parent f left) is) ∙ so))

pub all_walked : (s : Schema) (parent : Option ℕ) (f : Forest SchemaNode) (left : Left) → f ≡ end → walked s parent f left ≡ left
unfolding walked
all_walked s parent f left is = ap (λ g. walked s parent g left) is

pub data_walked : (s : Schema) (parent : Option ℕ) (n : SchemaNode) (below : Forest SchemaNode) (old new : Members) (rest found behind : Tree)
    → is_data n.kind ≡ true → found ≡ mine n.number rest → behind ≡ others n.number rest
    → new ≡ with_instances (written_name s parent n) n.kind (members_in s (Some n.module_number) below) found old
    → walked s parent (node n below end) (old, rest) ≡ (new, behind)
unfolding walked
data_walked s parent n below old new rest found behind is found_is behind_is put_in =
    let there : Tree → Tree → Left = λ f b. (with_instances (written_name s parent n) n.kind (members_in s (Some n.module_number) below) f old, b) in
    ap (λ (c : Bool). cond c (there (mine n.number rest) (others n.number rest)) (walked s parent below (old, rest))) is
    ∙ (sym (ap₂ there found_is behind_is) ∙ sym (ap (λ (ms : Members). (ms, behind)) put_in))

pub inside_walked : (s : Schema) (parent : Option ℕ) (n : SchemaNode) (below : Forest SchemaNode) (left next : Left)
    → is_data n.kind ≡ false → walked s parent below left ≡ next → walked s parent (node n below end) left ≡ next
unfolding walked
inside_walked s parent n below left next is so =
    ap (λ (c : Bool). cond c (with_instances (written_name s parent n) n.kind (members_in s (Some n.module_number) below) (mine n.number left.1) left.0, others n.number left.1)
    (walked s parent below left)) is ∙ so

-- ---- items

-- values with items behind them
abbrev pub followed : List Value → Items → Items
followed [] more = more
followed (v ∷ vs) more = item (json.view v) (followed vs more)

followed_last : (vs : List Value) (v : Value) (more : Items) → followed (vs ++ v ∷ []) more ≡ followed vs (item (json.view v) more)
followed_last [] v more = refl
followed_last (u ∷ vs) v more = ap (item (json.view u)) (followed_last vs v more)

followed_none : (vs : List Value) → followed vs no_items ≡ json.items_view vs
followed_none [] = refl
followed_none (v ∷ vs) = ap (item (json.view v)) (followed_none vs)

pub next_item : (kind : Kind) (inner : Tree → Members) (row : List Stored) (i : ℕ) (st : Stored) (old new : List Value) (v : Value) (whole : Items) → i < length row → st ≡ get_or row i st
    → json.view v ≡ written_node kind (view st).0.value (inner (view st).1) → new ≡ old ++ v ∷ []
    → followed old (written_items kind inner (row_view (drop i row))) ≡ whole → followed new (written_items kind inner (row_view (drop (i + 1) row))) ≡ whole
next_item kind inner row i st old new v whole within is here pushed so =
    let left = written_items kind inner (row_view (drop (i + 1) row)) in
    ap (λ vs. followed vs left) pushed ∙ (followed_last old v left
    ∙ (ap (λ d. followed old (item d left)) here
    ∙ (ap (λ (x : Stored). followed old (written_items kind inner (row_view (x ∷ drop (i + 1) row)))) is
    ∙ (sym (at_drop_more (λ ss. followed old (written_items kind inner (row_view ss))) row i st within) ∙ so))))

pub all_items : (kind : Kind) (inner : Tree → Members) (row : List Stored) (i : ℕ) (vs : List Value) (whole : Items) → length row ≤ i
    → followed vs (written_items kind inner (row_view (drop i row))) ≡ whole → json.items_view vs ≡ whole
all_items kind inner row i vs whole ended so =
    sym (followed_none vs) ∙ (sym (at_drop_all (λ ss. followed vs (written_items kind inner (row_view ss))) row i ended) ∙ so)

-- ---- the whole

value_is : (s : Schema) (t : Tree) (d : Data) → IsNumbered 0 s.nodes → d ≡ object (members_in s None s.nodes t) → IsSorted t → d ≡ written_value s t
value_is s t d numbered is sorted = is ∙ ap object (walked_on s None s.nodes 0 t t no_members numbered sorted (λ m from. refl)).0

pub text_of : (s : Schema) (t : Tree) (d : Data) (text : List ℕ) → IsNumbered 0 s.nodes → d ≡ object (members_in s None s.nodes t) → (has_float d ≡ false → text ≡ compact_text d)
    → IsSorted t → text ≡ written_text s t
text_of s t d text numbered is so sorted =
    let whole = value_is s t d numbered is sorted in
    so (ap has_float whole ∙ no_fractions s t) ∙ ap compact_text whole

pub text_read : (s : Schema) (t : Tree) (d : Data) (text : List ℕ) → IsNumbered 0 s.nodes → NamesDiffer s → LeafsAreBare s.nodes → levels s.nodes ≤ level_limit
    → (has_anything s.nodes ≡ true → levels s.nodes ≤ low_level_limit) → d ≡ object (members_in s None s.nodes t) → IsUtf8 text → (depth d ≤ max_depth → read text ≡ Some d) → IsDocument s t → size t ≤ document_limit → document_of s text ≡ Ok t
text_read s t d text numbered differ bare few low is utf8 reads whole within =
    let value = value_is s t d numbered is (fits_sorted HasForm s.nodes 0 t whole) in
    let deep = written_shallow s t few low whole in
    let same = ap depth value in
    written_read s t text numbered differ bare whole within (json_found text d utf8 (reads (omega (arith, deep, same))) ∙ ap Some value)
