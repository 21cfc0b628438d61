-- What is written of a document is read back, with a line feed behind it.
use Rattle.std.proofs.Common.{◌≡◌, ℕ, ◌≤◌, ◌++◌, ◌∷◌, [], ℤ, pos, negsuc, Bool, true, false, cond, eqb, Option, Some, None, Ok, refl, arith}
use Rattle.std.proofs.lemmas.Bool.{and_parts, leb-true}
use Rattle.std.specs.Str.{IsUtf8}
use Rattle.serde_json.specs.Data.{Data, null, number, array, object, Items, Members, no_members}
use Rattle.serde_json.specs.Find.{of_integer}
use Rattle.yspec.specs.Forest.{Forest, end, node, levels, size}
use Rattle.yspec.specs.text.Text.{Text}
use Rattle.yspec.specs.types.Ranges.{lies_in}
use Rattle.yspec.specs.types.Types.{Raw, text, int, bool, empty}
use Rattle.yspec.specs.schema.Schema.{Schema, SchemaNode, JsonForm, by_type, any_value, any_object, has_anything, is_data, is_many, has_value, form_in, module_name, written_name}
use Rattle.yspec.specs.document.Document.{Tree, instances, document_limit}
use Rattle.yspec.specs.document.Reading.{whole_numbers, document_of}
use Rattle.yspec.specs.document.Fitting.{IsNumbered, LeafsAreBare, next_after, FitsBy}
use Rattle.yspec.specs.document.Writing.{leaf_data, written_node, written_items, with_instances, row_members, written_value, written_text, NamesDiffer, IsDocument}
use Rattle.yspec.proofs.DocumentProofs.ReadBackLemmas.{written_read}
use Rattle.yspec.proofs.DocumentProofs.WholeTextLemmas.{data_exact}
use Rattle.yspec.proofs.DocumentProofs.WrittenShapeLemmas.{written_shallow}
use Rattle.yspec.specs.schema.Breaks.{level_limit, low_level_limit}
use Rattle.yspec.proofs.DocumentProofs.ReadTextLemmas.{HoldsText}
use Rattle.yspec.proofs.LinkingProofs.LinkedTextLemmas.{NamesAreTexts, NodesAreTexts, name_text}
use Rattle.yspec.proofs.DocumentProofs.ExactLemmas.{IsWhole, IsExact, ItemsAreExact, AreExact, put_exact, exact_read}

-- ---- values of leafs

integer_whole : (z : ℤ) → lies_in z whole_numbers ≡ true → IsWhole (of_integer z)
integer_whole (pos n) inside = let most = leb-true n 18446744073709551615 (and_parts true _ inside).1 in omega (arith, most)
integer_whole (negsuc n) inside = let most = leb-true n 9223372036854775807 (and_parts _ true inside).0 in (n, refl, omega (arith, most))

number_exact : (z : ℤ) (b : Bool) → lies_in z whole_numbers ≡ b → IsExact (cond b (number (of_integer z)) null)
number_exact z true inside = integer_whole z inside
number_exact z false outside = tt

leaf_exact : (n : SchemaNode) (form : JsonForm) (value : Option Raw) → HoldsText n value → IsExact (leaf_data form value)
leaf_exact n form None held = tt
leaf_exact n by_type (Some (text t)) held = held
leaf_exact n by_type (Some (int z)) held = number_exact z (lies_in z whole_numbers) refl
leaf_exact n by_type (Some (bool b)) held = tt
leaf_exact n by_type (Some empty) held = (tt, tt)
leaf_exact n any_value (Some raw) held = data_exact raw
leaf_exact n any_object (Some raw) held = data_exact raw

-- ---- trees whose texts are UTF-8

abbrev AreTexts : Tree → Type 0
AreTexts end = Unit {0}
AreTexts (node st b a) = ((n : SchemaNode) → HoldsText n st.value) × AreTexts b × AreTexts a

held_anyway : (n m : SchemaNode) (value : Option Raw) → HoldsText n value → HoldsText m value
held_anyway n m None held = tt
held_anyway n m (Some (text t)) held = held
held_anyway n m (Some (int z)) held = tt
held_anyway n m (Some (bool b)) held = tt
held_anyway n m (Some empty) held = tt

fitting_texts : (f : Forest SchemaNode) (least : ℕ) (t : Tree) → FitsBy HoldsText f least t → AreTexts t
fitting_texts f least end fits = tt
fitting_texts f least (node st b a) fits = (
  λ n. held_anyway fits.0.0 n st.value fits.3,
  fitting_texts fits.0.1 0 b fits.4,
  fitting_texts f (next_after fits.0.0) a fits.5,
)

instances_texts : (m : ℕ) (t : Tree) → AreTexts t → AreTexts (instances m t)
instances_texts m end texts = tt
instances_texts m (node st b a) texts = by (eqb st.schema_number m) (instances_texts m a texts.2)
  where
    by : (c : Bool) → AreTexts (instances m a) → AreTexts (cond c (node st b (instances m a)) (instances m a))
    by true rest = (texts.0, texts.1, rest)
    by false rest = rest

-- ---- nodes

node_exact : (n : SchemaNode) (b : Bool) (value : Option Raw) (inner : Members) → HoldsText n value → AreExact inner
    → IsExact (cond b (leaf_data (form_in n.kind) value) (object inner))
node_exact n true value inner held exact = leaf_exact n (form_in n.kind) value held
node_exact n false value inner held exact = exact

abbrev WritesExact : (Tree → Members) → Type 0
WritesExact inner = (b : Tree) → AreTexts b → AreExact (inner b)

items_exact : (n : SchemaNode) (inner : Tree → Members) (front : Tree) → WritesExact inner → AreTexts front → ItemsAreExact (written_items n.kind inner front)
items_exact n inner end exact texts = tt
items_exact n inner (node st b a) exact texts =
    (node_exact n (has_value n.kind) st.value (inner b) (texts.0 n) (exact b texts.1), items_exact n inner a exact texts.2)

front_exact : (many : Bool) (ds : Items) (d : Data) → ItemsAreExact ds → IsExact d → IsExact (cond many (array ds) d)
front_exact true ds d first second = first
front_exact false ds d first second = second

with_exact : (name : Text) (n : SchemaNode) (inner : Tree → Members) (front : Tree) (found : Members) → IsUtf8 name → WritesExact inner → AreTexts front
    → AreExact found → AreExact (with_instances name n.kind inner front found)
with_exact name n inner end found utf8 exact texts these = these
with_exact name n inner (node st b a) found utf8 exact texts these =
    put_exact name _ found utf8
    (front_exact (is_many n.kind) (written_items n.kind inner (node st b a)) (written_node n.kind st.value (inner b)) (items_exact n inner (node st b a) exact texts)
    (node_exact n (has_value n.kind) st.value (inner b) (texts.0 n) (exact b texts.1))) these

either_exact : (c : Bool) (here there : Members) → AreExact here → AreExact there → AreExact (cond c here there)
either_exact true here there first second = first
either_exact false here there first second = second

rows_exact : (s : Schema) (parent : Option ℕ) (f : Forest SchemaNode) (t : Tree) (found : Members) → ((i : ℕ) → IsUtf8 (module_name s i)) → NodesAreTexts f → AreTexts t
    → AreExact found → AreExact (row_members s parent f t found)
unfolding row_members
rows_exact s parent end t found modules names texts these = these
rows_exact s parent (node n below after) t found modules names texts these =
    let inner = λ (b : Tree). row_members s (Some n.module_number) below b no_members in
    let here = with_instances (written_name s parent n) n.kind inner (instances n.number t) found in
    let there = row_members s parent below t found in
    rows_exact s parent after t (cond (is_data n.kind) here there) modules names.2 texts
    (either_exact (is_data n.kind) here there
    (with_exact (written_name s parent n) n inner (instances n.number t) found (name_text s parent n modules names.0)
    (λ b below_texts. rows_exact s (Some n.module_number) below b no_members modules names.1 below_texts tt) (instances_texts n.number t texts) these)
    (rows_exact s parent below t found modules names.1 texts these))

-- ---- documents

pub ended_read : (s : Schema) (t : Tree) → IsNumbered 0 s.nodes → NamesDiffer s → LeafsAreBare s.nodes → levels s.nodes ≤ level_limit
    → (has_anything s.nodes ≡ true → levels s.nodes ≤ low_level_limit) → NamesAreTexts s
    → IsDocument s t → FitsBy HoldsText s.nodes 0 t → size t ≤ document_limit → document_of s (written_text s t ++ 10 ∷ []) ≡ Ok t
ended_read s t numbered differ bare few low names whole holds within =
    written_read s t (written_text s t ++ 10 ∷ []) numbered differ bare whole within
    (exact_read (written_value s t) (rows_exact s None s.nodes t no_members names.0 names.1 (fitting_texts s.nodes 0 t holds) tt) (written_shallow s t few low whole))
