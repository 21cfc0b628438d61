-- How deep what is written nests, and that it has no fractions.
use Rattle.std.proofs.Common.{◌≡◌, ℕ, suc, ◌+◌, ◌-◌, ◌*◌, ◌≤◌, ℤ, pos, negsuc, Bool, true, false, cond, eqb, Option, Some, None, Ordering, Less, Equal, Greater, nat_cmp, refl, ap, ap₂, arith}
use Rattle.std.proofs.Math.Nat.{le-max_left, le-max_right, max-le}
use Rattle.std.specs.Prelude.{max, ◌||◌, unwrap_or}
use Rattle.std.specs.Cmp.Lexicographic.{slice_cmp}
use Rattle.std.specs.Ordering.{match_ordering}
use Rattle.serde_json.specs.Data.{Data, null, number, array, object, Items, Members, no_members, member, put, depth, items_depth, members_depth}
use Rattle.serde_json.specs.Find.{of_integer}
use Rattle.serde_json.specs.Read.{max_depth}
use Rattle.serde_json.specs.Written.{has_float, items_have_float, members_have_float}
use Rattle.yspec.specs.Forest.{Forest, end, node, join, levels}
use Rattle.yspec.specs.text.Text.{Text}
use Rattle.yspec.specs.types.Ranges.{lies_in}
use Rattle.yspec.specs.types.Types.{Raw, text, int, bool, empty}
use Rattle.yspec.specs.schema.Schema.{Schema, SchemaNode, Kind, JsonForm, by_type, any_value, any_object, is_anything, has_anything, is_data, is_many, has_value, form_in, data_row, child_in, written_name}
use Rattle.yspec.specs.schema.Breaks.{level_limit, low_level_limit}
use Rattle.yspec.specs.document.Document.{Tree, instances}
use Rattle.yspec.specs.document.Reading.{whole_numbers}
use Rattle.yspec.specs.document.Fitting.{next_after, FitsBy}
use Rattle.yspec.proofs.DocumentProofs.WholeTextLemmas.{data_whole, data_shallow}
use Rattle.yspec.specs.document.Writing.{leaf_data, written_node, written_items, with_instances, row_members, written_value, HasForm, IsDocument}

pub left_of : (a b n : ℕ) → max a b ≤ n → a ≤ n
left_of a b n h = let below = le-max_left a b in omega (arith, below)

pub right_of : (a b n : ℕ) → max a b ≤ n → b ≤ n
right_of a b n h = let below = le-max_right a b in omega (arith, below)

-- ---- rows of instances

instances_shallow : (m : ℕ) (t : Tree) (n : ℕ) → levels t ≤ n → levels (instances m t) ≤ n
instances_shallow m end n few = few
instances_shallow m (node st b a) n few =
    by (eqb st.schema_number m) (left_of (suc (levels b)) (levels a) n few) (instances_shallow m a n (right_of (suc (levels b)) (levels a) n few))
  where
    by : (c : Bool) → suc (levels b) ≤ n → levels (instances m a) ≤ n → levels (cond c (node st b (instances m a)) (instances m a)) ≤ n
    by true first second = max-le first second
    by false first second = second

either_deep : (c : Bool) (here there : Members) (n : ℕ) → members_depth here ≤ n → members_depth there ≤ n → members_depth (cond c here there) ≤ n
either_deep true here there n first second = first
either_deep false here there n first second = second

-- ---- members

put_deep_at : (o : Ordering) (name other : Text) (d e : Data) (ms : Members) (n : ℕ) → depth d ≤ n → members_depth (member other e ms) ≤ n → members_depth (put name d ms) ≤ n
    → members_depth (match_ordering o (member name d (member other e ms)) (member other d ms) (member other e (put name d ms))) ≤ n
put_deep_at Less name other d e ms n this these later = max-le this these
put_deep_at Equal name other d e ms n this these later = max-le this (right_of (depth e) (members_depth ms) n these)
put_deep_at Greater name other d e ms n this these later = max-le (left_of (depth e) (members_depth ms) n these) later

put_deep : (name : Text) (d : Data) (ms : Members) (n : ℕ) → depth d ≤ n → members_depth ms ≤ n → members_depth (put name d ms) ≤ n
put_deep name d no_members n this these = max-le this these
put_deep name d (member other e ms) n this these =
    put_deep_at (slice_cmp nat_cmp name other) name other d e ms n this these (put_deep name d ms n this (right_of (depth e) (members_depth ms) n these))

-- ---- a stored node makes two levels at most: the array of a list or leaf-list, and what stands in it

number_deep : (z : ℤ) (b : Bool) → depth (cond b (number (of_integer z)) null) ≤ 1
number_deep z true = omega arith
number_deep z false = omega arith

leaf_deep : (value : Option Raw) → depth (leaf_data by_type value) ≤ 1
leaf_deep None = omega arith
leaf_deep (Some (text t)) = omega arith
leaf_deep (Some (int z)) = number_deep z (lies_in z whole_numbers)
leaf_deep (Some (bool b)) = omega arith
leaf_deep (Some empty) = omega arith

-- how much deeper than that the values of a form nest
abbrev pub more_of : Bool → ℕ
more_of true = 63
more_of false = 0

form_deep : (form : JsonForm) (value : Option Raw) → depth (leaf_data form value) ≤ suc (more_of (is_anything form))
form_deep by_type value = leaf_deep value
form_deep any_value None = omega arith
form_deep any_value (Some raw) = data_shallow raw
form_deep any_object None = omega arith
form_deep any_object (Some raw) = data_shallow raw

module _ (more : ℕ) where
  abbrev IsWithin : Kind → Type 0
  IsWithin kind = more_of (is_anything (form_in kind)) ≤ more

  -- so deep the values of no node in a row or below it nest more
  abbrev pub AreWithin : Forest SchemaNode → Type 0
  AreWithin end = Unit {0}
  AreWithin (node n below after) = IsWithin n.kind × AreWithin below × AreWithin after

  node_deep_at : (b : Bool) (form : JsonForm) (value : Option Raw) (inner : Members) (n : ℕ) → more_of (is_anything form) ≤ more → members_depth inner ≤ n + more
      → depth (cond b (leaf_data form value) (object inner)) ≤ suc (n + more)
  node_deep_at true form value inner n few h = let least = form_deep form value in omega (arith, least, few)
  node_deep_at false form value inner n few h = omega (arith, h)

  -- what stands below an instance nests twice as deep as its levels at most, and so much more
  abbrev IsShallow : (Tree → Members) → Type 0
  IsShallow inner = (b : Tree) → members_depth (inner b) ≤ 2 * levels b + more

  node_deep : (kind : Kind) (value : Option Raw) (inner : Tree → Members) (b : Tree) (n : ℕ) → IsWithin kind → IsShallow inner → levels b ≤ n
      → depth (written_node kind value (inner b)) ≤ suc (2 * n + more)
  node_deep kind value inner b n within shallow few =
      let least = shallow b in node_deep_at (has_value kind) (form_in kind) value (inner b) (2 * n) within (omega (arith, least, few))

  items_deep : (kind : Kind) (inner : Tree → Members) (front : Tree) (n : ℕ) → IsWithin kind → IsShallow inner → levels front ≤ suc n
      → items_depth (written_items kind inner front) ≤ suc (2 * n + more)
  items_deep kind inner end n within shallow few = omega arith
  items_deep kind inner (node st b a) n within shallow few =
      let here = left_of (suc (levels b)) (levels a) (suc n) few in
      max-le (node_deep kind st.value inner b n within shallow (omega (arith, here)))
      (items_deep kind inner a n within shallow (right_of (suc (levels b)) (levels a) (suc n) few))

  front_deep : (many : Bool) (ds : Items) (d : Data) (n : ℕ) → items_depth ds ≤ suc (2 * n + more) → depth d ≤ suc (2 * n + more)
      → depth (cond many (array ds) d) ≤ 2 * suc n + more
  front_deep true ds d n first second = omega (arith, first)
  front_deep false ds d n first second = omega (arith, second)

  with_deep : (name : Text) (kind : Kind) (inner : Tree → Members) (front : Tree) (found : Members) (n : ℕ) → IsWithin kind → IsShallow inner → levels front ≤ n
      → members_depth found ≤ 2 * n + more → members_depth (with_instances name kind inner front found) ≤ 2 * n + more
  with_deep name kind inner end found n within shallow few these = these
  with_deep name kind inner (node st b a) found n within shallow few these =
      let here = left_of (suc (levels b)) (levels a) n few in
      let less : levels (node st b a) ≤ suc (n - 1) = omega (arith, few, here) in
      let lower : levels b ≤ n - 1 = omega (arith, here) in
      let this = front_deep (is_many kind) (written_items kind inner (node st b a)) (written_node kind st.value (inner b)) (n - 1)
      (items_deep kind inner (node st b a) (n - 1) within shallow less) (node_deep kind st.value inner b (n - 1) within shallow lower) in
      let same : 2 * suc (n - 1) ≡ 2 * n = omega (arith, here) in
      put_deep name _ found (2 * n + more) (omega (arith, this, same)) these

  rows_deep : (s : Schema) (parent : Option ℕ) (f : Forest SchemaNode) (t : Tree) (found : Members) (n : ℕ) → AreWithin f → levels t ≤ n
      → members_depth found ≤ 2 * n + more → members_depth (row_members s parent f t found) ≤ 2 * n + more
  unfolding row_members
  rows_deep s parent end t found n within few these = these
  rows_deep s parent (node n below after) t found k within few these =
      let inner = λ (b : Tree). row_members s (Some n.module_number) below b no_members in
      let here = with_instances (written_name s parent n) n.kind inner (instances n.number t) found in
      let there = row_members s parent below t found in
      rows_deep s parent after t (cond (is_data n.kind) here there) k within.2 few
      (either_deep (is_data n.kind) here there (2 * k + more)
      (with_deep (written_name s parent n) n.kind inner (instances n.number t) found k within.0
      (λ b. rows_deep s (Some n.module_number) below b no_members (levels b) within.1 (omega arith) (omega arith)) (instances_shallow n.number t k few) these)
      (rows_deep s parent below t found k within.1 few these))

  pub written_depth : (s : Schema) (t : Tree) (n : ℕ) → AreWithin s.nodes → levels t ≤ n → depth (written_value s t) ≤ suc (2 * n + more)
  written_depth s t n within few = let inner = rows_deep s None s.nodes t no_members n within few (omega arith) in omega (arith, inner)

-- ---- a document has no more levels than its schema

join_shallow : (f g : Forest SchemaNode) (n : ℕ) → levels f ≤ n → levels g ≤ n → levels (join f g) ≤ n
join_shallow end g n first second = second
join_shallow (node m below after) g n first second =
    max-le (left_of (suc (levels below)) (levels after) n first) (join_shallow after g n (right_of (suc (levels below)) (levels after) n first) second)

row_shallow : (f : Forest SchemaNode) (n : ℕ) → levels f ≤ n → levels (data_row f) ≤ n
row_shallow end n few = few
row_shallow (node m below after) n few =
    let here = left_of (suc (levels below)) (levels after) n few in
    by (is_data m.kind) here (row_shallow below n (omega (arith, here))) (row_shallow after n (right_of (suc (levels below)) (levels after) n few))
  where
    by : (c : Bool) → suc (levels below) ≤ n → levels (data_row below) ≤ n → levels (data_row after) ≤ n → levels (cond c (node m below (data_row after)) (join (data_row below) (data_row after))) ≤ n
    by true here inner later = max-le here later
    by false here inner later = join_shallow (data_row below) (data_row after) n inner later

-- below a node of a row one level less is left
child_shallow : (f : Forest SchemaNode) (m : ℕ) (found : SchemaNode × Forest SchemaNode) → child_in f m ≡ Some found → suc (levels found.1) ≤ levels f
child_shallow end m found is = absurd cc
child_shallow (node n below after) m found is = by (eqb n.number m) is (child_shallow after m found)
  where
    by : (c : Bool) → cond c (Some (n, below)) (child_in after m) ≡ Some found → (child_in after m ≡ Some found → suc (levels found.1) ≤ levels after) → suc (levels found.1) ≤ levels (node n below after)
    by true is later =
        let same : levels below ≡ levels found.1 = ap (λ (o : Option (SchemaNode × Forest SchemaNode)). levels (unwrap_or o found).1) is in
        let more = le-max_left (suc (levels below)) (levels after) in omega (arith, same, more)
    by false is later = let few = later is in let more = le-max_right (suc (levels below)) (levels after) in omega (arith, few, more)

pub levels_fit : (Held : SchemaNode → Option Raw → Type 0) (f : Forest SchemaNode) (least : ℕ) (t : Tree) → FitsBy Held f least t → levels t ≤ levels f
levels_fit Held f least end fits = omega arith
levels_fit Held f least (node s b a) fits =
    let lower = levels_fit Held fits.0.1 0 b fits.4 in
    let few = child_shallow (data_row f) s.schema_number fits.0 fits.1 in
    let row = row_shallow f (levels f) (omega arith) in
    max-le (omega (arith, lower, few, row)) (levels_fit Held f (next_after fits.0.0) a fits.5)

-- ---- what is written of a document nests no deeper than is read

pub first_whole : (a b : Bool) → (a || b) ≡ false → a ≡ false
first_whole true b h = absurd cc
first_whole false b h = refl

pub later_whole : (a b : Bool) → (a || b) ≡ false → b ≡ false
later_whole true b h = absurd cc
later_whole false b h = h

none_within : (f : Forest SchemaNode) → has_anything f ≡ false → AreWithin 0 f
none_within end none = tt
none_within (node n below after) none =
    let others = later_whole (is_anything (form_in n.kind)) (has_anything below || has_anything after) none in (
      let none_here = ap more_of (first_whole (is_anything (form_in n.kind)) (has_anything below || has_anything after) none) in omega (arith, none_here),
      none_within below (first_whole (has_anything below) (has_anything after) others),
      none_within after (later_whole (has_anything below) (has_anything after) others),
    )

most_within : (f : Forest SchemaNode) → AreWithin 63 f
most_within end = tt
most_within (node n below after) = (by (is_anything (form_in n.kind)), most_within below, most_within after)
  where
    by : (b : Bool) → more_of b ≤ 63
    by true = omega arith
    by false = omega arith

pub written_shallow : (s : Schema) (t : Tree) → levels s.nodes ≤ level_limit → (has_anything s.nodes ≡ true → levels s.nodes ≤ low_level_limit) → IsDocument s t
    → depth (written_value s t) ≤ max_depth
written_shallow s t few low whole = by (has_anything s.nodes) refl
  where
    lower : levels t ≤ levels s.nodes
    lower = levels_fit HasForm s.nodes 0 t whole

    by : (b : Bool) → has_anything s.nodes ≡ b → depth (written_value s t) ≤ max_depth
    by true some =
        let deep = written_depth 63 s t (levels s.nodes) (most_within s.nodes) lower in let less = low some in omega (arith, deep, less)
    by false none = let deep = written_depth 0 s t (levels s.nodes) (none_within s.nodes none) lower in omega (arith, deep, few)

-- ---- fractions

put_whole_at : (o : Ordering) (name other : Text) (d e : Data) (ms : Members) → has_float d ≡ false → members_have_float (member other e ms) ≡ false → members_have_float (put name d ms) ≡ false
    → members_have_float (match_ordering o (member name d (member other e ms)) (member other d ms) (member other e (put name d ms))) ≡ false
put_whole_at Less name other d e ms this these later = ap₂ ◌||◌ this these
put_whole_at Equal name other d e ms this these later = ap₂ ◌||◌ this (later_whole (has_float e) (members_have_float ms) these)
put_whole_at Greater name other d e ms this these later = ap₂ ◌||◌ (first_whole (has_float e) (members_have_float ms) these) later

pub put_whole : (name : Text) (d : Data) (ms : Members) → has_float d ≡ false → members_have_float ms ≡ false → members_have_float (put name d ms) ≡ false
put_whole name d no_members this these = ap₂ ◌||◌ this these
put_whole name d (member other e ms) this these =
    put_whole_at (slice_cmp nat_cmp name other) name other d e ms this these (put_whole name d ms this (later_whole (has_float e) (members_have_float ms) these))

integer_whole : (z : ℤ) (b : Bool) → has_float (cond b (number (of_integer z)) null) ≡ false
integer_whole (pos n) true = refl
integer_whole (negsuc n) true = refl
integer_whole z false = refl

leaf_whole : (form : JsonForm) (value : Option Raw) → has_float (leaf_data form value) ≡ false
leaf_whole form None = refl
leaf_whole by_type (Some (text t)) = refl
leaf_whole by_type (Some (int z)) = integer_whole z (lies_in z whole_numbers)
leaf_whole by_type (Some (bool b)) = refl
leaf_whole by_type (Some empty) = refl
leaf_whole any_value (Some raw) = data_whole raw
leaf_whole any_object (Some raw) = data_whole raw

pub node_whole : (b : Bool) (form : JsonForm) (value : Option Raw) (inner : Members) → members_have_float inner ≡ false
    → has_float (cond b (leaf_data form value) (object inner)) ≡ false
node_whole true form value inner h = leaf_whole form value
node_whole false form value inner h = h

abbrev IsWhole : (Tree → Members) → Type 0
IsWhole inner = (b : Tree) → members_have_float (inner b) ≡ false

items_whole : (kind : Kind) (inner : Tree → Members) (front : Tree) → IsWhole inner → items_have_float (written_items kind inner front) ≡ false
items_whole kind inner end whole = refl
items_whole kind inner (node st b a) whole = ap₂ ◌||◌ (node_whole (has_value kind) (form_in kind) st.value (inner b) (whole b)) (items_whole kind inner a whole)

front_whole : (many : Bool) (ds : Items) (d : Data) → items_have_float ds ≡ false → has_float d ≡ false → has_float (cond many (array ds) d) ≡ false
front_whole true ds d first second = first
front_whole false ds d first second = second

with_whole : (name : Text) (kind : Kind) (inner : Tree → Members) (front : Tree) (found : Members) → IsWhole inner → members_have_float found ≡ false
    → members_have_float (with_instances name kind inner front found) ≡ false
with_whole name kind inner end found whole these = these
with_whole name kind inner (node st b a) found whole these =
    put_whole name _ found
    (front_whole (is_many kind) (written_items kind inner (node st b a)) (written_node kind st.value (inner b)) (items_whole kind inner (node st b a) whole)
    (node_whole (has_value kind) (form_in kind) st.value (inner b) (whole b))) these

either_whole : (c : Bool) (here there : Members) → members_have_float here ≡ false → members_have_float there ≡ false → members_have_float (cond c here there) ≡ false
either_whole true here there first second = first
either_whole false here there first second = second

rows_whole : (s : Schema) (parent : Option ℕ) (f : Forest SchemaNode) (t : Tree) (found : Members) → members_have_float found ≡ false → members_have_float (row_members s parent f t found) ≡ false
unfolding row_members
rows_whole s parent end t found these = these
rows_whole s parent (node n below after) t found these =
    let inner = λ (b : Tree). row_members s (Some n.module_number) below b no_members in
    let here = with_instances (written_name s parent n) n.kind inner (instances n.number t) found in
    let there = row_members s parent below t found in
    rows_whole s parent after t (cond (is_data n.kind) here there)
    (either_whole (is_data n.kind) here there
    (with_whole (written_name s parent n) n.kind inner (instances n.number t) found (λ b. rows_whole s (Some n.module_number) below b no_members refl) these)
    (rows_whole s parent below t found these))

pub no_fractions : (s : Schema) (t : Tree) → has_float (written_value s t) ≡ false
no_fractions s t = rows_whole s None s.nodes t no_members refl
