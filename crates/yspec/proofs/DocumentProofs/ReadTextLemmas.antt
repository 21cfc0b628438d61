-- The texts of what is read are UTF-8.
use Rattle.std.proofs.Common.{◌≡◌, ℕ, Bool, true, false, cond, ℤ, pos, List, Option, Some, None, Ok, Ordering, Less, Equal, Greater, nat_cmp, IsUtf8, refl, subst}
use Rattle.std.specs.Cmp.Lexicographic.{slice_cmp}
use Rattle.std.specs.Ordering.{match_ordering}
use Rattle.serde_json.specs.Data.{Num, unsigned, negative, float, Data, null, boolean, number, string, array, object, Items, no_items, item, Members, no_members, member}
use Rattle.serde_json.specs.Find.{get_member}
use Rattle.serde_json.specs.Written.{compact_text}
use Rattle.yspec.specs.Forest.{Forest, end, node}
use Rattle.yspec.specs.types.Ranges.{lies_in}
use Rattle.yspec.specs.types.Types.{Raw, text, int, bool, empty}
use Rattle.yspec.specs.schema.Schema.{Schema, SchemaNode, JsonForm, by_type, any_value, any_object, is_many, has_value, form_in, data_row, written_name}
use Rattle.yspec.specs.document.Document.{Tree}
use Rattle.yspec.specs.document.Reading.{whole_numbers, raw_number, raw_array, raw_of, is_kept, whole_raw, is_object, raw_by, raw_in, members_of, items_of, stored_rows, document_of}
use Rattle.yspec.specs.document.Fitting.{IsNumbered, FitsBy}
use Rattle.yspec.proofs.DocumentProofs.FittingReadLemmas.{EachItem, IsHeld, IsHeldBy, AreHeld, row_fits, was_read}
use Rattle.yspec.proofs.DocumentProofs.ExactLemmas.{text_utf8}
use Rattle.yspec.proofs.DocumentProofs.WholeTextLemmas.{exact_of, kept_parts}
use Rattle.yspec.proofs.DocumentProofs.JsonValueLemmas.{IsRead, ItemsAreRead, MembersAreRead, json_is_read}

-- a text that is held is UTF-8
abbrev pub HoldsText : SchemaNode → Option Raw → Type 0
HoldsText n (Some (text t)) = IsUtf8 t
HoldsText n (Some (int z)) = Unit {0}
HoldsText n (Some (bool b)) = Unit {0}
HoldsText n (Some empty) = Unit {0}
HoldsText n None = Unit {0}

abbrev pub TextsBelow : Option ℕ → Forest SchemaNode → Members → Type 0
TextsBelow parent children ms = MembersAreRead ms

-- ---- values

integer_held : (n : SchemaNode) (z : ℤ) (b : Bool) → HoldsText n (cond b (Some (int z)) None)
integer_held n z true = tt
integer_held n z false = tt

number_held : (n : SchemaNode) (x : Num) → HoldsText n (raw_number x)
number_held n (unsigned k) = integer_held n (pos k) (lies_in (pos k) whole_numbers)
number_held n (negative z) = integer_held n z (lies_in z whole_numbers)
number_held n (float x) = tt

array_held : (n : SchemaNode) (ds : Items) → HoldsText n (raw_array ds)
array_held n no_items = tt
array_held n (item null no_items) = tt
array_held n (item null (item e es)) = tt
array_held n (item (boolean b) ds) = tt
array_held n (item (number x) ds) = tt
array_held n (item (string s) ds) = tt
array_held n (item (array es) ds) = tt
array_held n (item (object ms) ds) = tt

raw_held : (n : SchemaNode) (d : Data) → IsRead d → HoldsText n (raw_of d)
raw_held n null texts = tt
raw_held n (boolean b) texts = tt
raw_held n (number x) texts = number_held n x
raw_held n (string s) texts = texts
raw_held n (array ds) texts = array_held n ds
raw_held n (object ms) texts = tt

whole_held : (n : SchemaNode) (d : Data) (b : Bool) → IsRead d → is_kept d ≡ b → HoldsText n (cond b (Some (text (compact_text d))) None)
whole_held n d true texts is = text_utf8 d (exact_of d texts (kept_parts d is).0)
whole_held n d false texts is = tt

form_held : (n : SchemaNode) (form : JsonForm) (d : Data) → IsRead d → HoldsText n (raw_by form d)
form_held n by_type d texts = raw_held n d texts
form_held n any_value d texts = whole_held n d (is_kept d) texts refl
form_held n any_object d texts = by (is_object d)
  where
    by : (b : Bool) → HoldsText n (cond b (whole_raw d) None)
    by true = whole_held n d (is_kept d) texts refl
    by false = tt

pub value_held : (n : SchemaNode) (d : Data) → IsRead d → HoldsText n (raw_in n.kind d)
value_held n d texts = by (has_value n.kind)
  where
    by : (b : Bool) → HoldsText n (cond b (raw_by (form_in n.kind) d) None)
    by true = form_held n (form_in n.kind) d texts
    by false = tt

pub members_texts : (d : Data) → IsRead d → MembersAreRead (members_of d)
members_texts null texts = tt
members_texts (boolean b) texts = tt
members_texts (number x) texts = tt
members_texts (string s) texts = tt
members_texts (array ds) texts = tt
members_texts (object ms) texts = texts

items_texts : (d : Data) → IsRead d → ItemsAreRead (items_of d)
items_texts null texts = tt
items_texts (boolean b) texts = tt
items_texts (number x) texts = tt
items_texts (string s) texts = tt
items_texts (array ds) texts = texts
items_texts (object ms) texts = tt

found_at : (o : Ordering) (d e : Data) (later : Option Data) → IsRead e → (later ≡ Some d → IsRead d) → match_ordering o later (Some e) later ≡ Some d → IsRead d
found_at Less d e later here there is = there is
found_at Equal d e later here there is = let same : e ≡ d = cc in subst IsRead same here
found_at Greater d e later here there is = there is

pub found_text : (name : List ℕ) (ms : Members) (d : Data) → MembersAreRead ms → get_member name ms ≡ Some d → IsRead d
found_text name no_members d texts is = absurd cc
found_text name (member other e ms) d texts is =
    found_at (slice_cmp nat_cmp name other) d e (get_member name ms) texts.1 (λ is. found_text name ms d texts.3 is) is

-- ---- documents

module _ (s : Schema) where
  one_held : (n : SchemaNode) (below : Forest SchemaNode) (d : Data) → IsRead d → IsHeld s HoldsText TextsBelow n below d
  one_held n below d texts = (value_held n d texts, members_texts d texts)

  each_held : (n : SchemaNode) (below : Forest SchemaNode) (ds : Items) → ItemsAreRead ds → EachItem (IsHeld s HoldsText TextsBelow n below) ds
  each_held n below no_items texts = tt
  each_held n below (item d ds) texts = (one_held n below d texts.0, each_held n below ds texts.1)

  held_by : (b : Bool) (n : SchemaNode) (below : Forest SchemaNode) (d : Data) → IsRead d → IsHeldBy s HoldsText TextsBelow b n below d
  held_by true n below d texts = each_held n below (items_of d) (items_texts d texts)
  held_by false n below d texts = one_held n below d texts

  row_held : (parent : Option ℕ) (f : Forest SchemaNode) (ms : Members) → MembersAreRead ms → AreHeld s HoldsText TextsBelow parent f ms
  row_held parent end ms texts = tt
  row_held parent (node n below after) ms texts =
      (λ d is. held_by (is_many n.kind) n below d (found_text (written_name s parent n) ms d texts is), row_held parent after ms texts)

  pub rows_hold : (parent : Option ℕ) (children : Forest SchemaNode) (k : ℕ) (ms : Members) → IsNumbered k children → MembersAreRead ms
      → FitsBy HoldsText children 0 (stored_rows s parent children ms)
  rows_hold parent children k ms numbered texts =
      row_fits s HoldsText TextsBelow (λ parent children ms these. row_held parent (data_row children) ms these) parent children k ms numbered texts

pub read_holds : (s : Schema) (bytes : List ℕ) (t : Tree) → IsNumbered 0 s.nodes → document_of s bytes ≡ Ok t → FitsBy HoldsText s.nodes 0 t
read_holds s bytes t numbered so =
    let was = was_read s bytes t so in
    subst (λ (u : Tree). FitsBy HoldsText s.nodes 0 u) was.is
    (rows_hold s None s.nodes 0 (members_of was.value) numbered (members_texts was.value (json_is_read bytes was.value was.json)))
