-- What a name means that a document writes.
use Rattle.std.proofs.Common.{◌≡◌, ◌≢◌, ℕ, zero, suc, ◌<◌, ◌≤◌, Bool, true, false, cond, ◌&&◌, ◌||◌, List, [], ◌∷◌, ◌++◌, length, get_or, map, Option, Some, None, refl, sym, ap, ap₂, ◌∙◌, arith}
use Rattle.std.specs.Prelude.{◌==◌, nat_lt, position, string_bytes}
use Rattle.std.specs.List.{position_or_len}
use Rattle.std.specs.Option.{option_map_or}
use Rattle.std.proofs.lemmas.Bool.{eq-eqb, eqb-true, ltb-false, ne_eqb}
use Rattle.std.proofs.lemmas.Bool.Decides.{nat_tests}
use Rattle.std.proofs.lemmas.Cmp.{nat_list_eq_equiv}
use Rattle.std.proofs.lemmas.List.{length-map}
use Rattle.std.proofs.lemmas.List.Quantifiers.{position-Some}
use Rattle.std.proofs.lemmas.List.Sums.{fails_before_first}
use Rattle.std.proofs.lemmas.Slice.Eq.{bytes_eq-Decides}
use Rattle.yspec.specs.Forest.{Forest, node, end, first_of}
use Rattle.yspec.specs.text.Text.{Text, is_text}
use Rattle.yspec.specs.linking.Planned.{same_number}
use Rattle.yspec.specs.schema.Schema.{Schema, SchemaNode, is_called, is_data, is_module, module_name, qualified_name, written_name}
use Rattle.yspec.specs.document.Writing.{IsNamed, IsPlain, ModulesDiffer, NodesAreNamed}
use Rattle.yspec.proofs.BasicLemmas.{other_text, same_text, texts_differ}
use Rattle.yspec.proofs.DocumentProofs.WrittenNameLemmas.{plain_other, qualified_is, same_parts}
use Rattle.yschema_model.specs.declared.schema.SchemaModule.{SchemaModule}
use Rattle.yschema_model.specs.Layout.{Place, data_at, data_places, module_view, schema_view}
use Rattle.yschema_model.specs.Lookup.{first_below}
use Rattle.yschema_model.proofs.ChildLemmas.{first_below-append}

turned : (a b : ℕ) → (a == b) ≡ (b == a)
turned a b = grind (arith, nat_tests)

and_false : (b : Bool) → (b && false) ≡ false
and_false true = refl
and_false false = refl

-- ---- a name without a colon

-- it is never one that has the name of a module in front
not_qualified : (s : Schema) (t : Text) (n : SchemaNode) → IsPlain t → is_text t (qualified_name s n) ≡ false
not_qualified s t n plain = other_text t (qualified_name s n) (λ same. plain_other t (module_name s n.module_number) n.name plain (same ∙ qualified_is s n))

pub plain_meant : (s : Schema) (own : Option ℕ) (t : Text) (n : SchemaNode) → IsPlain t
    → is_text t (written_name s own n) ≡ option_map_or (λ (m : ℕ). is_called m t n) own false
plain_meant s None t n plain = not_qualified s t n plain
plain_meant s (Some m) t n plain = by (n.module_number == m) refl
  where
    by : (b : Bool) → (n.module_number == m) ≡ b → is_text t (cond b n.name (qualified_name s n)) ≡ (m == n.module_number && is_text t n.name)
    by true e = ap (λ b. b && is_text t n.name) (sym (turned m n.module_number ∙ e))
    by false e = not_qualified s t n plain ∙ ap (λ b. b && is_text t n.name) (sym (turned m n.module_number ∙ e))

-- ---- a name with the name of a module in front

parts_meant : (s : Schema) (t a b : Text) (n : SchemaNode) → t ≡ a ++ 58 ∷ b → IsPlain a → IsPlain (module_name s n.module_number)
    → is_text t (qualified_name s n) ≡ (is_text a (module_name s n.module_number) && is_text b n.name)
parts_meant s t a b n cut plain other = by (is_text a (module_name s n.module_number)) refl (is_text b n.name) refl
  where
    m : Text
    m = module_name s n.module_number

    apart : (t ≡ qualified_name s n → ⊥) → is_text t (qualified_name s n) ≡ false
    apart = other_text t (qualified_name s n)

    parts : t ≡ qualified_name s n → (a ≡ m) × (b ≡ n.name)
    parts same = same_parts a m b n.name plain other (sym cut ∙ (same ∙ qualified_is s n))

    by : (x : Bool) → is_text a m ≡ x → (y : Bool) → is_text b n.name ≡ y → is_text t (qualified_name s n) ≡ (x && y)
    by true e true f =
        let whole : t ≡ qualified_name s n = cut ∙ (ap₂ (λ (u v : Text). u ++ 58 ∷ v) ((bytes_eq-Decides a m).0 e) ((bytes_eq-Decides b n.name).0 f) ∙ sym (qualified_is s n)) in
        ap (is_text t) (sym whole) ∙ same_text t
    by true e false f = apart (λ same. texts_differ b n.name f (parts same).1)
    by false e y f = apart (λ same. texts_differ a m e (parts same).0)

-- a text with a colon is no name
not_plain : (t a b x : Text) → t ≡ a ++ 58 ∷ b → IsPlain x → is_text t x ≡ false
not_plain t a b x cut plain = other_text t x (λ same. plain_other x a b plain (sym same ∙ cut))

-- a module of a name is the one that has it
of_module : (s : Schema) (a : Text) (m : ℕ) (n : SchemaNode) → ModulesDiffer s → IsNamed s n → m < length s.modules → module_name s m ≡ a
    → is_text a (module_name s n.module_number) ≡ (m == n.module_number)
of_module s a m n differ named low is = by (m == n.module_number) refl
  where
    by : (b : Bool) → (m == n.module_number) ≡ b → is_text a (module_name s n.module_number) ≡ b
    by true e = ap (λ k. is_text a (module_name s k)) (sym (eqb-true m n.module_number e)) ∙ (ap (is_text a) is ∙ same_text a)
    by false e = other_text a (module_name s n.module_number)
        (λ same. let here = (differ m n.module_number low named.1).1 (is ∙ same) in
        let no : true ≡ false = sym (eq-eqb m n.module_number here) ∙ e in cc)

module _ (s : Schema) (t a b : Text) (n : SchemaNode) (cut : t ≡ a ++ 58 ∷ b) (plain : IsPlain a) (differ : ModulesDiffer s) (named : IsNamed s n) where
  own_plain : IsPlain (module_name s n.module_number)
  own_plain = (differ n.module_number n.module_number named.1 named.1).0

  qualified_meant : (m : ℕ) → m < length s.modules → module_name s m ≡ a → is_text t (qualified_name s n) ≡ is_called m b n
  qualified_meant m low is = parts_meant s t a b n cut plain own_plain ∙ ap (λ x. x && is_text b n.name) (of_module s a m n differ named low is)

  -- below a node of another module, or at the top
  pub other_meant : (own : Option ℕ) (m : ℕ) → m < length s.modules → module_name s m ≡ a → same_number own (Some m) ≡ false
      → is_text t (written_name s own n) ≡ is_called m b n
  other_meant None m low is other = qualified_meant m low is
  other_meant (Some k) m low is other = by (n.module_number == k) refl
    where
      by : (x : Bool) → (n.module_number == k) ≡ x → is_text t (cond x n.name (qualified_name s n)) ≡ is_called m b n
      by false e = qualified_meant m low is
      by true e =
          let away : (m == n.module_number) ≡ false = turned m n.module_number ∙ (ap (λ (j : ℕ). j == m) (eqb-true n.module_number k e) ∙ other) in
          not_plain t a b n.name cut named.0 ∙ ap (λ x. x && is_text b n.name) (sym away)

  -- below a node of that module
  pub own_meant : (own : Option ℕ) (m : ℕ) → m < length s.modules → module_name s m ≡ a → same_number own (Some m) ≡ true
      → is_text t (written_name s own n) ≡ false
  own_meant None m low is same = absurd cc
  own_meant (Some k) m low is same = by (n.module_number == k) refl
    where
      by : (x : Bool) → (n.module_number == k) ≡ x → is_text t (cond x n.name (qualified_name s n)) ≡ false
      by true e = not_plain t a b n.name cut named.0
      by false e =
          let away : (m == n.module_number) ≡ false = turned m n.module_number ∙ (ap (λ (j : ℕ). n.module_number == j) (sym (eqb-true k m same)) ∙ e) in
          qualified_meant m low is ∙ ap (λ x. x && is_text b n.name) away

  -- no module has the name
  pub none_meant : (own : Option ℕ) → is_text a (module_name s n.module_number) ≡ false → is_text t (written_name s own n) ≡ false
  none_meant own none = by (is_module n.module_number own)
    where
      by : (x : Bool) → is_text t (cond x n.name (qualified_name s n)) ≡ false
      by true = not_plain t a b n.name cut named.0
      by false = parts_meant s t a b n cut plain own_plain ∙ ap (λ x. x && is_text b n.name) none

-- ---- the module of a name

same_either_way : (a b : Text) → is_text a b ≡ is_text b a
same_either_way a b = nat_list_eq_equiv.symm a b

name_of_place : (modules : List SchemaModule) (j : ℕ) (d : SchemaModule) → j < length modules → module_name (schema_view modules []) j ≡ string_bytes (get_or modules j d).name
name_of_place [] j d low = absurd (omega (arith, low))
name_of_place (x ∷ xs) zero d low = refl
name_of_place (x ∷ xs) (suc j) d low = name_of_place xs j d (omega (arith, low))

pub place_named : (modules : List SchemaModule) (a : Text) (m : ℕ) → position (λ (x : SchemaModule). is_text (string_bytes x.name) a) modules ≡ Some m
    → (m < length (map module_view modules)) × (module_name (schema_view modules []) m ≡ a)
place_named [] a m e = absurd cc
place_named (x ∷ xs) a m e =
    let found = position-Some (λ (y : SchemaModule). is_text (string_bytes y.name) a) (x ∷ xs) m x e in
    let low = found.0 in
    let count = length-map (x ∷ xs) module_view in (
      omega (arith, low, count),
      name_of_place (x ∷ xs) m x low ∙ (bytes_eq-Decides (string_bytes (get_or (x ∷ xs) m x).name) a).0 found.1,
    )

pub no_place : (modules : List SchemaModule) (a : Text) (j : ℕ) → position (λ (x : SchemaModule). is_text (string_bytes x.name) a) modules ≡ None
    → j < length (map module_view modules) → is_text a (module_name (schema_view modules []) j) ≡ false
no_place [] a j e low = absurd (omega (arith, low))
no_place (x ∷ xs) a j e low =
    let test = λ (y : SchemaModule). is_text (string_bytes y.name) a in
    let count = length-map (x ∷ xs) module_view in
    let inside : j < length (x ∷ xs) = omega (arith, low, count) in
    let first = position_or_len test (x ∷ xs) in
    let past : length (x ∷ xs) ≤ first = by first (nat_lt first (length (x ∷ xs))) refl e in
    ap (is_text a) (name_of_place (x ∷ xs) j x inside)
    ∙ (same_either_way a (string_bytes (get_or (x ∷ xs) j x).name) ∙ fails_before_first test (x ∷ xs) j x (omega (arith, inside, past)))
  where
    by : (first : ℕ) (b : Bool) → nat_lt first (length (x ∷ xs)) ≡ b → cond b (Some first) None ≡ None → length (x ∷ xs) ≤ first
    by first true is f = absurd cc
    by first false is f = ltb-false first (length (x ∷ xs)) is

pub plain_by_places : (t : Text) → ((i : ℕ) → i < length t → get_or t i 0 ≢ 58) → IsPlain t
plain_by_places [] none = refl
plain_by_places (c ∷ t) none =
    ap₂ (λ (a b : Bool). a || b) (ne_eqb c 58 (none 0 (omega arith))) (plain_by_places t (λ i low. none (suc i) (omega (arith, low))))

-- ---- the data nodes of places

-- two tests that say the same of each node of a schema find the same
pub first_alike : (above q : Option ℕ) (test other : SchemaNode → Bool) (s : Schema) (f : Forest SchemaNode) → NodesAreNamed s f
    → ((n : SchemaNode) → IsNamed s n → test n ≡ other n)
    → first_below above (λ n. is_data n.kind && test n) (data_places q f) ≡ first_below above (λ n. is_data n.kind && other n) (data_places q f)
first_alike above q test other s end named same = refl
first_alike above q test other s (node l below after) named same =
    let here = λ (test : SchemaNode → Bool). first_below-append above (λ n. is_data n.kind && test n) (data_places (data_at q l) below) (data_places q after) in
    ap₂ (λ (b : Bool) (o : Option ℕ). cond (same_number above q && (is_data l.kind && b)) (Some l.number) o) (same l named.0)
    (here test ∙ (ap₂ first_of (first_alike above (data_at q l) test other s below named.1 same) (first_alike above q test other s after named.2 same) ∙ sym (here other)))

pub none_alike : (above q : Option ℕ) (test : SchemaNode → Bool) (s : Schema) (f : Forest SchemaNode) → NodesAreNamed s f
    → ((n : SchemaNode) → IsNamed s n → test n ≡ false) → first_below above (λ n. is_data n.kind && test n) (data_places q f) ≡ None
none_alike above q test s f named never = first_alike above q test (λ n. false) s f named never ∙ none (data_places q f)
  where
    none : (ps : List Place) → first_below above (λ n. is_data n.kind && false) ps ≡ None
    none [] = refl
    none (p ∷ ps) = ap (λ b. cond b (Some p.label.number) (first_below above (λ n. is_data n.kind && false) ps))
        (ap (λ b. same_number above p.parent && b) (and_false (is_data p.label.kind)) ∙ and_false (same_number above p.parent)) ∙ none ps
