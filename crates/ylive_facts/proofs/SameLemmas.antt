-- Keys are the same where all that they hold is.
use Rattle.std.proofs.Common.{◌≡◌, ℕ, Bool, true, false, eqb, List, [], ◌∷◌, map, refl, sym, ap, ap₂, ◌∙◌, ◌&&◌, Ordering, Less, Equal, Greater, arith, String, Global}
use Rattle.std.specs.Prelude.{bytes_eq, string_bytes, ◌↔◌, IsTrue}
use Rattle.std.specs.Bool.{Decides}
use Rattle.std.proofs.lemmas.Bool.{eqb-true, eq-eqb, false≢true}
use Rattle.std.proofs.lemmas.Slice.Eq.{slice_eq-Decides, bytes_eq-Decides}
use Rattle.yspec.specs.text.Text.{Text}
use Rattle.yspec.specs.document.Instances.{same_tuple}
use Rattle.yspec.proofs.TypeProofs.OrderLemmas.{tells_values}
use Rattle.std.specs.Ordering.{is_eq, ordering_then, nat_cmp}
use Rattle.std.specs.Cmp.Lexicographic.{slice_cmp, pointwise}
use Rattle.std.proofs.lemmas.Bool.Decides.{nat_tests}
use Rattle.std.proofs.lemmas.Map.Text.{is_eq-slice_cmp}
use Rattle.yspec.specs.types.Types.{Val}
use Rattle.yspec.specs.types.Order.{value_cmp, same_value}
use Rattle.ystore_rows.specs.contracts.row.RowOrd.TheImpl.{ghosts}
use Rattle.ystore_rows.specs.declared.row.Row.{Row}
use Rattle.ystore_rows.specs.declared.row.Row.TheVariants.{Top, Below}
use Rattle.ystore.specs.declared.key.Key as rust
use Rattle.ystore.specs.declared.key.Key.TheVariants.{Value, Item, Tuple, Texts}
use Rattle.ystore.specs.Store.{same_key, same_row}
use Rattle.ylive_facts.specs.Keys.{Key, value_key, item_key, tuple_key, texts_key, key_view, same}

both : (o p : Ordering) (b c : Bool) → is_eq o ≡ b → is_eq p ≡ c → is_eq (ordering_then o p) ≡ (b && c)
both o p b c first second = by o ∙ ap₂ (λ x y. x && y) first second
  where
    by : (o : Ordering) → is_eq (ordering_then o p) ≡ (is_eq o && is_eq p)
    by Less = refl
    by Equal = refl
    by Greater = refl

same_number : (m n : ℕ) → is_eq (nat_cmp m n) ≡ eqb m n
same_number m n = grind (arith, nat_tests)

rows_alike : (r q : Row) → is_eq (ghosts.cmp r q) ≡ same_row r q
rows_alike Top Top = refl
rows_alike Top (Below n) = refl
rows_alike (Below m) Top = refl
rows_alike (Below m) (Below n) = same_number m.0 n.0

lists_alike : {A B : Type 0} (cmp : A → A → Ordering) (see : A → B) (test : B → B → Bool) → ((x y : A) → is_eq (cmp x y) ≡ test (see x) (see y))
    → (xs ys : List A) → is_eq (slice_cmp cmp xs ys) ≡ pointwise test (map see xs) (map see ys)
lists_alike cmp see test agree [] [] = refl
lists_alike cmp see test agree [] (y ∷ ys) = refl
lists_alike cmp see test agree (x ∷ xs) [] = refl
lists_alike cmp see test agree (x ∷ xs) (y ∷ ys) =
    both (cmp x y) (slice_cmp cmp xs ys) (test (see x) (see y)) (pointwise test (map see xs) (map see ys)) (agree x y) (lists_alike cmp see test agree xs ys)

tuples_alike : (vs ws : List Val) → is_eq (slice_cmp value_cmp vs ws) ≡ pointwise same_value vs ws
tuples_alike [] [] = refl
tuples_alike [] (w ∷ ws) = refl
tuples_alike (v ∷ vs) [] = refl
tuples_alike (v ∷ vs) (w ∷ ws) = both (value_cmp v w) (slice_cmp value_cmp vs ws) (same_value v w) (pointwise same_value vs ws) refl (tuples_alike vs ws)

abbrev text_cmp : String Global → String Global → Ordering
text_cmp x y = slice_cmp nat_cmp (string_bytes x) (string_bytes y)

pub same_views : (k l : rust.Key) → same_key k l ≡ same (key_view k) (key_view l)
same_views (Value s v) (Value t w) = both (nat_cmp s.0 t.0) (value_cmp v w) (eqb s.0 t.0) (same_value v w) (same_number s.0 t.0) refl
same_views (Value s v) (Item q t w) = refl
same_views (Value s v) (Tuple q t u ws) = refl
same_views (Value s v) (Texts q t ws) = refl
same_views (Item r s v) (Value t w) = refl
same_views (Item r s v) (Item q t w) =
    both (ghosts.cmp r q) (ordering_then (nat_cmp s.0 t.0) (value_cmp v w)) (same_row r q) (eqb s.0 t.0 && same_value v w) (rows_alike r q)
    (both (nat_cmp s.0 t.0) (value_cmp v w) (eqb s.0 t.0) (same_value v w) (same_number s.0 t.0) refl)
same_views (Item r s v) (Tuple q t u ws) = refl
same_views (Item r s v) (Texts q t ws) = refl
same_views (Tuple r s n vs) (Value t w) = refl
same_views (Tuple r s n vs) (Item q t w) = refl
same_views (Tuple r s n vs) (Tuple q t u ws) =
    let tuples = slice_cmp value_cmp vs.items ws.items in
    let numbers = ordering_then (nat_cmp n u) tuples in
    let nodes = ordering_then (nat_cmp s.0 t.0) numbers in
    let same_tuples = pointwise same_value vs.items ws.items in
    both (ghosts.cmp r q) nodes (same_row r q) (eqb s.0 t.0 && (eqb n u && same_tuples)) (rows_alike r q)
    (both (nat_cmp s.0 t.0) numbers (eqb s.0 t.0) (eqb n u && same_tuples) (same_number s.0 t.0)
    (both (nat_cmp n u) tuples (eqb n u) same_tuples (same_number n u) (tuples_alike vs.items ws.items)))
same_views (Tuple r s n vs) (Texts q t ws) = refl
same_views (Texts r s vs) (Value t w) = refl
same_views (Texts r s vs) (Item q t w) = refl
same_views (Texts r s vs) (Tuple q t u ws) = refl
same_views (Texts r s vs) (Texts q t ws) =
    let texts = slice_cmp text_cmp vs.items ws.items in
    let nodes = ordering_then (nat_cmp s.0 t.0) texts in
    let same_texts = pointwise bytes_eq (map string_bytes vs.items) (map string_bytes ws.items) in
    both (ghosts.cmp r q) nodes (same_row r q) (eqb s.0 t.0 && same_texts) (rows_alike r q)
    (both (nat_cmp s.0 t.0) texts (eqb s.0 t.0) same_texts (same_number s.0 t.0)
    (lists_alike text_cmp string_bytes bytes_eq (λ x y. is_eq-slice_cmp (string_bytes x) (string_bytes y)) vs.items ws.items))

-- ---- told apart

and_parts : (b c : Bool) → (b && c) ≡ true → (b ≡ true) × (c ≡ true)
and_parts true c e = (refl, e)
and_parts false c e = absurd (false≢true e)

rows_same : (r q : Row) → same_row r q ≡ true → r ≡ q
rows_same Top Top e = refl
rows_same Top (Below n) e = absurd (false≢true e)
rows_same (Below m) Top e = absurd (false≢true e)
rows_same (Below m) (Below n) e = ap (λ (i : ℕ). Below (record { 0 = i })) (eqb-true m.0 n.0 e)

pub row_itself : (r : Row) → same_row r r ≡ true
row_itself Top = refl
row_itself (Below m) = eq-eqb m.0 m.0 refl

abbrev values_decide : (v w : Val) → Decides (same_value v w) (v ≡ w)
values_decide v w = tells_values v w

abbrev tuples_decide : (vs ws : List Val) → Decides (pointwise same_value vs ws) (vs ≡ ws)
tuples_decide vs ws = slice_eq-Decides values_decide vs ws (pointwise same_value vs ws) refl

abbrev texts_decide : (vs ws : List Text) → Decides (pointwise bytes_eq vs ws) (vs ≡ ws)
texts_decide vs ws = slice_eq-Decides bytes_eq-Decides vs ws (pointwise bytes_eq vs ws) refl

pub same_is : (k l : Key) → same k l ≡ true → k ≡ l
same_is (value_key m v) (value_key n w) e =
    let parts = and_parts (eqb m n) (same_value v w) e in
    ap₂ value_key (eqb-true m n parts.0) ((values_decide v w).0 parts.1)
same_is (value_key m v) (item_key s n w) e = absurd (false≢true e)
same_is (value_key m v) (tuple_key s n u ws) e = absurd (false≢true e)
same_is (value_key m v) (texts_key s n ws) e = absurd (false≢true e)
same_is (item_key r m v) (value_key n w) e = absurd (false≢true e)
same_is (item_key r m v) (item_key s n w) e =
    let outer = and_parts (same_row r s) (eqb m n && same_value v w) e in
    let inner = and_parts (eqb m n) (same_value v w) outer.1 in
    ap (λ q. item_key q m v) (rows_same r s outer.0) ∙ ap₂ (item_key s) (eqb-true m n inner.0) ((values_decide v w).0 inner.1)
same_is (item_key r m v) (tuple_key s n u ws) e = absurd (false≢true e)
same_is (item_key r m v) (texts_key s n ws) e = absurd (false≢true e)
same_is (tuple_key r m t vs) (value_key n w) e = absurd (false≢true e)
same_is (tuple_key r m t vs) (item_key s n w) e = absurd (false≢true e)
same_is (tuple_key r m t vs) (tuple_key s n u ws) e =
    let outer = and_parts (same_row r s) (eqb m n && (eqb t u && same_tuple vs ws)) e in
    let nodes = and_parts (eqb m n) (eqb t u && same_tuple vs ws) outer.1 in
    let numbers = and_parts (eqb t u) (same_tuple vs ws) nodes.1 in
    ap (λ q. tuple_key q m t vs) (rows_same r s outer.0) ∙ (ap (λ k. tuple_key s k t vs) (eqb-true m n nodes.0)
    ∙ ap₂ (tuple_key s n) (eqb-true t u numbers.0) ((tuples_decide vs ws).0 numbers.1))
same_is (tuple_key r m t vs) (texts_key s n ws) e = absurd (false≢true e)
same_is (texts_key r m vs) (value_key n w) e = absurd (false≢true e)
same_is (texts_key r m vs) (item_key s n w) e = absurd (false≢true e)
same_is (texts_key r m vs) (tuple_key s n u ws) e = absurd (false≢true e)
same_is (texts_key r m vs) (texts_key s n ws) e =
    let outer = and_parts (same_row r s) (eqb m n && pointwise bytes_eq vs ws) e in
    let inner = and_parts (eqb m n) (pointwise bytes_eq vs ws) outer.1 in
    ap (λ q. texts_key q m vs) (rows_same r s outer.0) ∙ ap₂ (texts_key s) (eqb-true m n inner.0) ((texts_decide vs ws).0 inner.1)

pub same_itself : (k : Key) → same k k ≡ true
same_itself (value_key m v) = ap₂ (λ b c. b && c) (eq-eqb m m refl) ((values_decide v v).1 refl)
same_itself (item_key r m v) = ap₂ (λ b c. b && c) (row_itself r) (ap₂ (λ b c. b && c) (eq-eqb m m refl) ((values_decide v v).1 refl))
same_itself (tuple_key r m t vs) =
    ap₂ (λ b c. b && c) (row_itself r) (ap₂ (λ b c. b && c) (eq-eqb m m refl)
    (ap₂ (λ b c. b && c) (eq-eqb t t refl) ((tuples_decide vs vs).1 refl)))
same_itself (texts_key r m vs) =
    ap₂ (λ b c. b && c) (row_itself r) (ap₂ (λ b c. b && c) (eq-eqb m m refl) ((texts_decide vs vs).1 refl))

-- the same keys are those of one view
pub same_keys : (k l : rust.Key) → IsTrue (same_key k l) ↔ (key_view k ≡ key_view l)
same_keys k l = (
  λ e. same_is (key_view k) (key_view l) (sym (same_views k l) ∙ e),
  λ e. same_views k l ∙ (ap (same (key_view k)) (sym e) ∙ same_itself (key_view k)),
)

pub turned : (k l : rust.Key) → same_key k l ≡ true → same_key l k ≡ true
turned k l e = (same_keys l k).1 (sym ((same_keys k l).0 e))

pub alike : (k l other : rust.Key) → same_key k l ≡ true → same_key k other ≡ same_key l other
alike k l other e = same_views k other ∙ (ap (λ v. same v (key_view other)) ((same_keys k l).0 e) ∙ sym (same_views l other))
