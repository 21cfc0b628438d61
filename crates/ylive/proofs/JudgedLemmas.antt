-- What an index tells of the value of a node is what the definition tells of it.
use Rattle.std.proofs.Common.{◌≡◌, ℕ, suc, Bool, true, false, ◌||◌, cond, eqb, ltb, List, [], ◌∷◌, ◌++◌, map, filter, length, Option, Some, None, refl, sym, ap, ap₂, ◌∙◌, arith}
use Rattle.std.specs.Prelude.{option_map, option_and_then, option_to_list, string_bytes}
use Rattle.std.specs.Option.{option_map_or}
use Rattle.std.specs.List.{list_any}
use Rattle.std.proofs.lemmas.Bool.{eq-eqb, false≢true}
use Rattle.std.proofs.lemmas.Option.{none-some, same_Some}
use Rattle.std.proofs.lemmas.List.Folds.{list_any-append}
use Rattle.yspec.specs.Forest.{Forest, end, node, find_label, first_of, preorder}
use Rattle.yspec.specs.text.Text.{Text}
use Rattle.yspec.specs.types.Types.{Raw, Val, YangType, taken, app_tag_of}
use Rattle.yspec.specs.schema.Schema.{Schema, SchemaNode, Kind, LeafType, node_at, type_in}
use Rattle.yspec.specs.schema.References.{Reference, refers_to, targets_in, numbers_in, number_of, reference_in}
use Rattle.yspec.specs.document.Document.{Stored, Tree}
use Rattle.yspec.specs.document.Instances.{value_of}
use Rattle.yspec.specs.document.Faults.{Times, RowTimes}
use Rattle.yspec.proofs.SchemaProofs.AmongLemmas.{reference_among}
use Rattle.ystore.specs.Store.{instances_at}
use Rattle.ystore_rows.specs.declared.row.Row.{Row}
use Rattle.ystore.specs.declared.key.Key as rust
use Rattle.ystore.specs.declared.key.Key.TheVariants.{Value, Item, Tuple as TupleKey, Texts}
use Rattle.ystore.specs.declared.record.Judged as stored
use Rattle.ystore.specs.declared.record.Judged.TheVariants.{Right, Wrong, Missing}
use Rattle.ystore.specs.declared.nodes.Nodes.{Nodes}
use Rattle.ylive_facts.specs.Given.{is_referred}
use Rattle.ylive_facts.specs.Judging.{Judged, right, wrong, missing, judged_view, kind_judged, value_judged}
use Rattle.ylive_facts.specs.Keys.{Key, value_key, item_key, tuple_key, texts_key, key_view, slot_of, required_key, leaf_key, kind_reference, reference_key, key_at}
use Rattle.ylive_facts.specs.Telling.{times_of, with_reference}
use Rattle.ylive_facts.proofs.HeldLemmas.{held_slot, refers_first, value_first}
use Rattle.ylive_marks.specs.Keys as told
use Rattle.ylive_marks.specs.Keys.{IsJudged, wrong_of, is_missing}
use Rattle.ylive_retell.specs.IsTold.{wrong_in}

-- ---- a value by its type alone

-- no type says that an instance is missing
abbrev IsPlain : Judged → Type 0
IsPlain right = Unit {0}
IsPlain (wrong tag) = Unit {0}
IsPlain missing = ⊥

plain_or : (o : Option Val) (tag : Option Text) → IsPlain (option_map_or (λ v. right) o (wrong tag))
plain_or None tag = tt
plain_or (Some v) tag = tt

plain_kind : (type : Option YangType) (value : Option Raw) → IsPlain (kind_judged type value)
plain_kind None value = tt
plain_kind (Some type) None = tt
plain_kind (Some type) (Some raw) = plain_or (taken type raw) (app_tag_of type raw)

plain_at : (n : Option SchemaNode) (value : Option Raw)
    → IsPlain (option_map_or (λ (n : SchemaNode). kind_judged (option_map (λ (type : LeafType). type.type) (type_in n.kind)) value) n right)
plain_at None value = tt
plain_at (Some n) value = plain_kind (option_map (λ (type : LeafType). type.type) (type_in n.kind)) value

plain : (schema : Schema) (s : Stored) → IsPlain (value_judged schema s)
plain schema s = plain_at (node_at schema s.schema_number) s.value

record_is : (j : stored.Judged) (v : Judged) → IsPlain v → wrong_of j ≡ wrong_in v → is_missing j ≡ false → judged_view j ≡ v
record_is Right right plain w m = refl
record_is Right (wrong tag) plain w m = absurd (none-some (tag) w)
record_is Right missing plain w m = absurd plain
record_is (Wrong tag) right plain w m = absurd (none-some (option_map string_bytes tag) (sym w))
record_is (Wrong tag) (wrong other) plain w m = ap wrong (same_Some (option_map string_bytes tag) other w)
record_is (Wrong tag) missing plain w m = absurd plain
record_is Missing v plain w m = absurd (false≢true (sym m))

right_is : (v : Judged) → IsPlain v → wrong_in v ≡ None → v ≡ right
right_is right plain w = refl
right_is (wrong tag) plain w = absurd (none-some tag (sym w))
right_is missing plain w = absurd plain

no_reference : (times : Key → ℕ) (v : Judged) → with_reference times None v ≡ v
no_reference times right = refl
no_reference times (wrong tag) = refl
no_reference times missing = refl

-- ---- what a node refers to

found_any : (test p : SchemaNode → Bool) (f : Forest SchemaNode) (n : SchemaNode) → find_label test f ≡ Some n → p n ≡ true → list_any p (preorder f) ≡ true
found_any test p end n found is = absurd (none-some n found)
found_any test p (node l below after) n found is =
    by (λ e. found_any test p below n e is) (λ e. found_any test p after n e is) (test l) found
  where
    or_true : (a : Bool) → (a || true) ≡ true
    or_true true = refl
    or_true false = refl

    in_rest : list_any p (preorder below ++ preorder after) ≡ true → list_any p (preorder (node l below after)) ≡ true
    in_rest e = ap (λ b. p l || b) e ∙ or_true (p l)

    deeper : (find_label test below ≡ Some n → list_any p (preorder below) ≡ true) → (find_label test after ≡ Some n → list_any p (preorder after) ≡ true)
        → (o : Option SchemaNode) → find_label test below ≡ o → first_of o (find_label test after) ≡ Some n → list_any p (preorder (node l below after)) ≡ true
    deeper under later (Some m) e found =
        in_rest (list_any-append p (preorder below) (preorder after) ∙ ap (λ b. b || list_any p (preorder after)) (under (e ∙ found)))
    deeper under later None e found =
        in_rest (list_any-append p (preorder below) (preorder after) ∙ (ap (λ b. list_any p (preorder below) || b) (later found) ∙ or_true (list_any p (preorder below))))

    by : (find_label test below ≡ Some n → list_any p (preorder below) ≡ true) → (find_label test after ≡ Some n → list_any p (preorder after) ≡ true)
        → (b : Bool) → cond b (Some l) (first_of (find_label test below) (find_label test after)) ≡ Some n → list_any p (preorder (node l below after)) ≡ true
    by under later true found =
        ap (λ b. b || list_any p (preorder below ++ preorder after)) (ap p (same_Some l n found) ∙ is)
    by under later false found = deeper under later (find_label test below) refl found

some_left : (p : SchemaNode → Bool) (xs : List SchemaNode) → list_any p xs ≡ true → ltb 0 (length (map (λ (n : SchemaNode). n.number) (filter p xs))) ≡ true
some_left p [] some = absurd (false≢true some)
some_left p (x ∷ xs) some = by (some_left p xs) (p x) some
  where
    more : (n : ℕ) → ltb 0 (suc n) ≡ true
    more n = grind arith

    by : (list_any p xs ≡ true → ltb 0 (length (map (λ (n : SchemaNode). n.number) (filter p xs))) ≡ true)
        → (b : Bool) → (b || list_any p xs) ≡ true → ltb 0 (length (map (λ (n : SchemaNode). n.number) (cond b (x ∷ filter p xs) (filter p xs)))) ≡ true
    by later true some = more (length (map (λ (n : SchemaNode). n.number) (filter p xs)))
    by later false some = later some

referred : (schema : Schema) (number target : ℕ) (n : SchemaNode) → node_at schema number ≡ Some n → refers_to target n ≡ true → is_referred schema target ≡ true
referred schema number target n is refers =
    some_left (refers_to target) (preorder schema.nodes) (found_any (λ (m : SchemaNode). eqb m.number number) (refers_to target) schema.nodes n is refers)

-- what a value refers to is among what its node may refer to
referred_among : (kind : Kind) (type : LeafType) (v : Val) (r : Reference) → type_in kind ≡ Some type → reference_in type v ≡ Some r
    → list_any (λ target. eqb target r.target) (targets_in kind) ≡ true
referred_among kind type v r at is =
    ap (λ (o : Option LeafType). list_any (λ target. eqb target r.target) (option_map_or numbers_in o [])) at
    ∙ reference_among type v r (option_map number_of) (option_to_list type.target) is
    (λ target e same. ap (λ (o : Option ℕ). list_any (λ n. eqb n target) (option_to_list o)) e ∙ alone target) (λ m same. refl)
  where
    alone : (n : ℕ) → (eqb n n || false) ≡ true
    alone n = ap (λ b. b || false) (eq-eqb n n refl)

-- the key of what a node refers to is of a value of a schema node that is referred to
pub record Refers (schema : Schema) (key : Key) : Type 0 where
  pub number : ℕ
  pub value : Val
  pub is_key : key ≡ value_key number value
  pub is_referred : is_referred schema number ≡ true

module _ (schema : Schema) (s : Stored) (key : Key) where
  of_reference : (r : Reference) → is_referred schema r.target ≡ true → (b : Bool) → cond b (Some (value_key r.target r.value)) None ≡ Some key → Refers schema key
  of_reference r given true e =
      record { number = r.target; value = r.value; is_key = sym (same_Some (value_key r.target r.value) key e); is_referred = given }
  of_reference r given false e = absurd (none-some key e)

  module _ (n : SchemaNode) (found : node_at schema s.schema_number ≡ Some n) (type : LeafType) (at : type_in n.kind ≡ Some type) where
    by_reference : (v : Val) (o : Option Reference) → reference_in type v ≡ o → option_and_then required_key o ≡ Some key → Refers schema key
    by_reference v None is e = absurd (none-some key e)
    by_reference v (Some r) is e = of_reference r (referred schema s.schema_number r.target n found (referred_among n.kind type v r at is)) r.is_required e

    by_value : (o : Option Val) → option_and_then (leaf_key type) o ≡ Some key → Refers schema key
    by_value None e = absurd (none-some key e)
    by_value (Some v) e = by_reference v (reference_in type v) refl e

  by_type : (n : SchemaNode) → node_at schema s.schema_number ≡ Some n → (t : Option LeafType) → type_in n.kind ≡ t
      → option_and_then (λ type. option_and_then (leaf_key type) (value_of schema s)) t ≡ Some key → Refers schema key
  by_type n found None at e = absurd (none-some key e)
  by_type n found (Some type) at e = by_value n found type at (value_of schema s) e

  refers : reference_key schema s ≡ Some key → Refers schema key
  refers is = by (node_at schema s.schema_number) refl is
    where
      by : (n : Option SchemaNode) → node_at schema s.schema_number ≡ n → option_and_then (λ (n : SchemaNode). kind_reference schema n.kind s) n ≡ Some key → Refers schema key
      by None found e = absurd (none-some key e)
      by (Some n) found e = by_type n found (type_in n.kind) refl e

-- a node whose first key is of no value refers to nothing
abbrev is_of_value : Key → Bool
is_of_value (value_key target v) = true
is_of_value (item_key row number v) = false
is_of_value (tuple_key row number u vs) = false
is_of_value (texts_key row number texts) = false

unreferred : (schema : Schema) (above : Row) (s : Stored) (below : Tree)
    → option_map_or is_of_value (key_at schema above s below 0) false ≡ false → reference_key schema s ≡ None
unreferred schema above s below none = by (reference_key schema s) refl
  where
    by : (o : Option Key) → reference_key schema s ≡ o → o ≡ None
    by None e = refl
    by (Some key) e =
        let to = refers schema s key e in
        absurd (false≢true (sym none ∙ ap (λ o. option_map_or is_of_value o false) (refers_first schema above s below key e ∙ ap Some to.is_key)))

-- ---- a node

module _ (schema : Schema) (nodes : Nodes) (times : Times)
    (values : (key : rust.Key) (number : ℕ) (v : Val) → key_view key ≡ value_key number v → is_referred schema number ≡ true → instances_at nodes key ≡ times number v)
    (row : RowTimes) where
  counted : (instances : ℕ) → judged_view (told.judged_by instances) ≡ cond (eqb instances 0) missing right
  counted instances = by (eqb instances 0)
    where
      by : (b : Bool) → judged_view (cond b Missing Right) ≡ cond b missing right
      by true = refl
      by false = refl

  not_wrong : (instances : ℕ) → wrong_of (told.judged_by instances) ≡ None
  not_wrong instances = by (eqb instances 0)
    where
      by : (b : Bool) → wrong_of (cond b Missing Right) ≡ None
      by true = refl
      by false = refl

  -- of a node that refers to nothing
  unreferring : (s : Stored) (j : stored.Judged) → judged_view j ≡ value_judged schema s → reference_key schema s ≡ None
      → judged_view j ≡ with_reference (times_of times row) (reference_key schema s) (value_judged schema s)
  unreferring s j same none =
      same ∙ sym (ap (λ o. with_reference (times_of times row) o (value_judged schema s)) none ∙ no_reference (times_of times row) (value_judged schema s))

  -- of one that refers to a value
  referring : (s : Stored) (j : stored.Judged) (k : rust.Key) → reference_key schema s ≡ Some (key_view k) → j ≡ told.judged_by (instances_at nodes k)
      → wrong_of j ≡ wrong_in (value_judged schema s)
      → judged_view j ≡ with_reference (times_of times row) (reference_key schema s) (value_judged schema s)
  referring s j k key same w =
      let to = refers schema s (key_view k) key in
      let is_right : value_judged schema s ≡ right =
      right_is (value_judged schema s) (plain schema s) (sym w ∙ (ap wrong_of same ∙ not_wrong (instances_at nodes k))) in
      ap judged_view same
      ∙ (counted (instances_at nodes k)
      ∙ (ap (λ c. cond (eqb c 0) missing right) (values k to.number to.value to.is_key to.is_referred)
      ∙ sym (ap₂ (λ o v. with_reference (times_of times row) o v) (key ∙ ap Some to.is_key) is_right)))

  -- no node holds a key of another slot at its first one
  other_slot : (above : Row) (s : Stored) (below : Tree) (key : Key) (u : ℕ) → slot_of key ≡ Some (suc u) → key_at schema above s below 0 ≡ Some key → ⊥
  other_slot above s below key u slot is =
      let same : 0 ≡ suc u = same_Some 0 (suc u) (sym (held_slot schema above s below 0 key is) ∙ slot) in omega (arith, same)

  pub judged_is : (above : Row) (s : Stored) (below : Tree) (j : stored.Judged) (o : Option rust.Key) → option_map key_view o ≡ key_at schema above s below 0
      → IsJudged nodes o (Some j) → wrong_of j ≡ wrong_in (value_judged schema s)
      → judged_view j ≡ with_reference (times_of times row) (reference_key schema s) (value_judged schema s)
  judged_is above s below j None key judged w =
      unreferring s j (record_is j (value_judged schema s) (plain schema s) w judged)
      (unreferred schema above s below (ap (λ o. option_map_or is_of_value o false) (sym key)))
  judged_is above s below j (Some (Value target v)) key judged w =
      referring s j (Value target v) (value_first schema above s below target.0 v (sym key)) (same_Some j (told.judged_by (instances_at nodes (Value target v))) judged) w
  judged_is above s below j (Some (Texts r number texts)) key judged w =
      let same : j ≡ Right = same_Some j Right judged in
      unreferring s j (ap judged_view same ∙ sym (right_is (value_judged schema s) (plain schema s) (sym w ∙ ap wrong_of same)))
      (unreferred schema above s below (ap (λ o. option_map_or is_of_value o false) (sym key)))
  judged_is above s below j (Some (Item r number v)) key judged w = absurd (other_slot above s below (item_key r number.0 v) 0 refl (sym key))
  judged_is above s below j (Some (TupleKey r number u vs)) key judged w =
      absurd (other_slot above s below (tuple_key r number.0 u vs.items) u refl (sym key))
