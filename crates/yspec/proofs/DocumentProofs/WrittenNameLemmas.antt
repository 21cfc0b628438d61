-- Names that are written with a module's name in front, or without.
use Rattle.std.proofs.Common.{◌≡◌, ◌≢◌, ℕ, Bool, true, false, cond, [], ◌∷◌, ◌++◌, Option, Some, None, refl, sym, ap, ◌∙◌, append_assoc}
use Rattle.std.proofs.lemmas.Bool.{eqb-true}
use Rattle.std.specs.Prelude.{◌==◌, ◌||◌}
use Rattle.std.specs.List.{list_any}
use Rattle.yspec.specs.Forest.{Forest, end, node}
use Rattle.yspec.specs.text.Text.{Text, colon}
use Rattle.yspec.specs.schema.Schema.{Schema, SchemaNode, module_name, qualified_name, is_module, data_row, written_name}
use Rattle.yspec.specs.document.Writing.{IsPlain, IsNamed, HasItsName, RowIsNamed, AllAreNamed, AreNamed, ModulesDiffer, IsNew, RowDiffers, AllDiffer, NamesDiffer}

cons_parts : (c d : ℕ) (s t : Text) → c ∷ s ≡ d ∷ t → (c ≡ d) × (s ≡ t)
cons_parts c d s t h = (cc, cc)

first_plain : (c : ℕ) (t : Text) → IsPlain (c ∷ t) → c ≡ 58 → ⊥
first_plain c t plain is = let no : ⊥ = cc in no

rest_plain_at : (b : Bool) (t : Text) → (b || list_any (λ (c : ℕ). c == colon) t) ≡ false → IsPlain t
rest_plain_at true t h = let no : ⊥ = cc in absurd no
rest_plain_at false t h = h

rest_plain : (c : ℕ) (t : Text) → IsPlain (c ∷ t) → IsPlain t
rest_plain c t plain = rest_plain_at (c == colon) t plain

-- a text without a colon is none with one
pub plain_other : (t a x : Text) → IsPlain t → t ≢ a ++ 58 ∷ x
plain_other [] [] x plain h = let no : ⊥ = cc in no
plain_other [] (d ∷ a) x plain h = let no : ⊥ = cc in no
plain_other (c ∷ t) [] x plain h = first_plain c t plain (cons_parts c 58 t x h).0
plain_other (c ∷ t) (d ∷ a) x plain h = plain_other t a x (rest_plain c t plain) (cons_parts c d t (a ++ 58 ∷ x) h).1

-- what stands before and after the first colon
pub same_parts : (a b x y : Text) → IsPlain a → IsPlain b → a ++ 58 ∷ x ≡ b ++ 58 ∷ y → (a ≡ b) × (x ≡ y)
same_parts [] [] x y first second h = (refl, (cons_parts 58 58 x y h).1)
same_parts [] (d ∷ b) x y first second h = absurd (first_plain d b second (sym (cons_parts 58 d x (b ++ 58 ∷ y) h).0))
same_parts (c ∷ a) [] x y first second h = absurd (first_plain c a first (cons_parts c 58 (a ++ 58 ∷ x) y h).0)
same_parts (c ∷ a) (d ∷ b) x y first second h =
    let parts = cons_parts c d (a ++ 58 ∷ x) (b ++ 58 ∷ y) h in
    let inner = same_parts a b x y (rest_plain c a first) (rest_plain d b second) parts.1 in
    (ap (λ k. k ∷ a) parts.0 ∙ ap (λ t. d ∷ t) inner.0, inner.1)

pub qualified_is : (s : Schema) (n : SchemaNode) → qualified_name s n ≡ module_name s n.module_number ++ 58 ∷ n.name
qualified_is s n = append_assoc (module_name s n.module_number) (58 ∷ []) n.name

of_parent : (i j : ℕ) (parent : Option ℕ) → is_module i parent ≡ true → is_module j parent ≡ true → i ≡ j
of_parent i j None first second = let no : ⊥ = cc in absurd no
of_parent i j (Some p) first second = eqb-true i p first ∙ sym (eqb-true j p second)

apart_by : (s : Schema) (parent : Option ℕ) (n m : SchemaNode) (a b : Bool) → is_module n.module_number parent ≡ a → is_module m.module_number parent ≡ b
    → ModulesDiffer s → IsNamed s n → IsNamed s m → (n.module_number ≡ m.module_number → n.name ≢ m.name)
    → cond a n.name (qualified_name s n) ≢ cond b m.name (qualified_name s m)
apart_by s parent n m true true first second modules this that differ h = differ (of_parent n.module_number m.module_number parent first second) h
apart_by s parent n m true false first second modules this that differ h = plain_other n.name (module_name s m.module_number) m.name this.0 (h ∙ qualified_is s m)
apart_by s parent n m false true first second modules this that differ h = plain_other m.name (module_name s n.module_number) n.name that.0 (sym h ∙ qualified_is s n)
apart_by s parent n m false false first second modules this that differ h =
    let here = modules n.module_number m.module_number this.1 that.1 in
    let there = modules m.module_number n.module_number that.1 this.1 in
    let parts = same_parts (module_name s n.module_number) (module_name s m.module_number) n.name m.name here.0 there.0 (sym (qualified_is s n) ∙ (h ∙ qualified_is s m)) in
    differ (here.1 parts.0) parts.1

new_name : (s : Schema) (parent : Option ℕ) (n : SchemaNode) (f : Forest SchemaNode) → ModulesDiffer s → IsNamed s n → HasItsName n f → RowIsNamed s f → IsNew s parent (written_name s parent n) f
new_name s parent n end modules this own named = tt
new_name s parent n (node m below after) modules this own named = (
  apart_by s parent n m (is_module n.module_number parent) (is_module m.module_number parent) refl refl modules this named.0 own.0,
  new_name s parent n after modules this own.1 named.2,
)

pub row_differs : (s : Schema) (parent : Option ℕ) (row : Forest SchemaNode) → ModulesDiffer s → RowIsNamed s row → RowDiffers s parent row
row_differs s parent end modules named = tt
row_differs s parent (node n below after) modules named =
    (new_name s parent n after modules named.0 named.1 named.2, row_differs s parent after modules named.2)

all_differ : (s : Schema) (f : Forest SchemaNode) → ModulesDiffer s → AllAreNamed s f → AllDiffer s f
all_differ s end modules named = tt
all_differ s (node n below after) modules named = (
  λ _. row_differs s (Some n.module_number) (data_row below) modules named.0,
  all_differ s below modules named.1,
  all_differ s after modules named.2,
)

pub names_differ : (s : Schema) → ModulesDiffer s → AreNamed s → NamesDiffer s
names_differ s modules named =
    (row_differs s None (data_row s.nodes) modules named.0, all_differ s s.nodes modules named.1)
