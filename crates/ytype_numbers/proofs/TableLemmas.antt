-- What tables of names find, and one name more.
use Rattle.std.proofs.Common.{◌≡◌, ℕ, zero, suc, ◌+◌, ℤ, pos, ◌+ℤ◌, Bool, true, false, not, cond, ◌&&◌, ◌||◌, List, [], ◌∷◌, ◌++◌, map, length, Option, Some, None, refl, sym, ap, subst, ◌∙◌, arith}
use Rattle.std.specs.Prelude.{option_map, find, is_some, int_lt, slice_get, string_bytes, FitsSigned}
use Rattle.std.specs.Int.{w64}
use Rattle.std.specs.List.{list_all, list_any, AllZip}
use Rattle.std.specs.Map.{lookup}
use Rattle.std.specs.Option.{option_map_or, option_or}
use Rattle.std.specs.Cmp.{signed_Decides, int_eq_equiv}
use Rattle.std.specs.Cmp.Lexicographic.{slice_cmp}
use Rattle.std.specs.Ordering.{is_eq, nat_cmp, int_cmp, int_eq, match_ordering}
use Rattle.std.specs.declared.cmp.Ordering.TheVariants.{Less, Equal, Greater}
use Rattle.std.specs.BTreeMap.{BTreeMap, is_at, insert_entry, get_by_text}
use Rattle.std.specs.declared.string.String.{String}
use Rattle.std.proofs.lemmas.Int.{ints}
use Rattle.std.proofs.lemmas.Bool.Decides.{same_from_decides, Decides-like}
use Rattle.std.proofs.lemmas.Slice.Eq.{bytes_eq-Decides}
use Rattle.yspec.specs.text.Text.{Text, is_text}
use Rattle.yspec.specs.types.Names.{Assigned, next_after, placed, is_like, is_among}
use Rattle.ytype_numbers.specs.Words.{named}
use Rattle.ytype_numbers.specs.Tables.{assigned, new_placed, number_named, AreWords, IsIndex, Finds, AreAlike, HasMore}

-- ---- tests

is_some_found : {A B : Type 0} (f : A → B) (p : A → Bool) (xs : List A) → is_some (option_map f (find p xs)) ≡ list_any p xs
is_some_found f p [] = refl
is_some_found f p (x ∷ xs) = by (p x) (is_some_found f p xs)
  where
    by : (b : Bool) → is_some (option_map f (find p xs)) ≡ list_any p xs → is_some (option_map f (cond b (Some x) (find p xs))) ≡ (b || list_any p xs)
    by true h = refl
    by false h = h

pub named_among : (t : Text) (xs : List Assigned) → is_some (option_map (λ (a : Assigned). a.number) (find (λ (a : Assigned). is_text t a.name) xs)) ≡ is_among (map (λ (a : Assigned). a.name) xs) t
named_among t [] = refl
named_among t (x ∷ xs) = by (is_text t x.name) (named_among t xs)
  where
    by : (b : Bool) → is_some (option_map (λ (a : Assigned). a.number) (find (λ (a : Assigned). is_text t a.name) xs)) ≡ is_among (map (λ (a : Assigned). a.name) xs) t
        → is_some (option_map (λ (a : Assigned). a.number) (cond b (Some x) (find (λ (a : Assigned). is_text t a.name) xs))) ≡ (b || is_among (map (λ (a : Assigned). a.name) xs) t)
    by true h = refl
    by false h = h

is_some_held : {Z : Type 0} (z : ℤ) (es : List (ℤ × String Z)) → is_some (lookup (is_at (int_cmp z)) es) ≡ list_any (λ (a : Assigned). int_eq z a.number) (assigned es)
is_some_held z [] = refl
is_some_held z (e ∷ es) = by (int_eq z e.0) (is_some_held z es)
  where
    by : (b : Bool) → is_some (lookup (is_at (int_cmp z)) es) ≡ list_any (λ (a : Assigned). int_eq z a.number) (assigned es)
        → is_some (cond b (Some e.1) (lookup (is_at (int_cmp z)) es)) ≡ (b || list_any (λ (a : Assigned). int_eq z a.number) (assigned es))
    by true h = refl
    by false h = h

or_true : (b : Bool) → (b || true) ≡ true
or_true true = refl
or_true false = refl

pub one_or_other : {A : Type 0} (p q : A → Bool) (xs : List A) → (list_any p xs || list_any q xs) ≡ list_any (λ x. p x || q x) xs
one_or_other p q [] = refl
one_or_other {A} p q (x ∷ xs) = by (p x) (q x) (one_or_other p q xs)
  where
    by : (a b : Bool) → (list_any p xs || list_any q xs) ≡ list_any (λ x. p x || q x) xs → ((a || list_any p xs) || (b || list_any q xs)) ≡ ((a || b) || list_any (λ x. p x || q x) xs)
    by true b h = refl
    by false true h = or_true (list_any p xs)
    by false false h = h

-- a name or a number is there where one of the tables has it
pub taken : {Z : Type 0} (es : List (ℤ × String Z)) (name : Text) (number : ℤ)
    → (is_among (map (λ (a : Assigned). a.name) (assigned es)) name || is_some (lookup (is_at (int_cmp number)) es)) ≡ list_any (is_like (named name number)) (assigned es)
taken es name number =
    ap (λ b. b || is_some (lookup (is_at (int_cmp number)) es))
    (sym (named_among name (assigned es)) ∙ is_some_found (λ (a : Assigned). a.number) (λ (a : Assigned). is_text name a.name) (assigned es))
    ∙ ap (λ b. list_any (λ (a : Assigned). is_text name a.name) (assigned es) || b) (is_some_held number es)
    ∙ one_or_other (λ (a : Assigned). is_text name a.name) (λ (a : Assigned). int_eq number a.number) (assigned es)

first_not : (a b : Bool) → (a || b) ≡ false → a ≡ false
first_not false b e = refl
first_not true b e = absurd cc

second_not : (a b : Bool) → (a || b) ≡ false → b ≡ false
second_not false b e = e
second_not true b e = absurd cc

pub name_new : (a : Assigned) (xs : List Assigned) → list_any (is_like a) xs ≡ false → list_any (λ (b : Assigned). is_text a.name b.name) xs ≡ false
name_new a xs e = first_not _ _ (one_or_other (λ (b : Assigned). is_text a.name b.name) (λ (b : Assigned). int_eq a.number b.number) xs ∙ e)

pub number_new : (a : Assigned) (xs : List Assigned) → list_any (is_like a) xs ≡ false → list_any (λ (b : Assigned). int_eq a.number b.number) xs ≡ false
number_new a xs e = second_not _ _ (one_or_other (λ (b : Assigned). is_text a.name b.name) (λ (b : Assigned). int_eq a.number b.number) xs ∙ e)

-- ---- one name more

-- a new number is put in where its place among the names is
pub placed_is : {Z : Type 0} (z : ℤ) (s : String Z) (es : List (ℤ × String Z)) → list_any (λ (b : Assigned). int_eq z b.number) (assigned es) ≡ false
    → assigned (insert_entry int_cmp es z s) ≡ placed (named (string_bytes s) z) (assigned es)
placed_is z s [] new = refl
placed_is {Z} z s (e ∷ es) new = by (int_lt z e.0) (int_lt e.0 z) new (placed_is z s es)
  where
    by : (a b : Bool) → (is_eq (cond a Less (cond b Greater Equal)) || list_any (λ (b : Assigned). int_eq z b.number) (assigned es)) ≡ false
        → (list_any (λ (b : Assigned). int_eq z b.number) (assigned es) ≡ false → assigned (insert_entry int_cmp es z s) ≡ placed (named (string_bytes s) z) (assigned es))
        → assigned (match_ordering (cond a Less (cond b Greater Equal)) ((z, s) ∷ e ∷ es) ((e.0, s) ∷ es) (e ∷ insert_entry int_cmp es z s))
        ≡ cond a (named (string_bytes s) z ∷ assigned (e ∷ es)) (named (string_bytes e.1) e.0 ∷ placed (named (string_bytes s) z) (assigned es))
    by true b h more = refl
    by false true h more = ap (λ (xs : List Assigned). named (string_bytes e.1) e.0 ∷ xs) (more h)
    by false false h more = absurd cc

pub placed_new : (a : Assigned) (xs : List Assigned) → list_any (is_like a) xs ≡ false → new_placed a xs ≡ Some (placed a xs)
placed_new a xs new = ap (λ b. cond (not b) (Some (placed a xs)) None) new

same_text : (s t u : Text) → is_text s t ≡ true → is_text t u ≡ false → is_text s u ≡ false
same_text s t u e f = ap (λ (r : Text). is_text r u) ((bytes_eq-Decides s t).0 e) ∙ f

-- a text finds the new name where it is that one
pub found_placed : (t : Text) (a : Assigned) (xs : List Assigned) → list_any (λ (b : Assigned). is_text a.name b.name) xs ≡ false
    → find (λ (b : Assigned). is_text t b.name) (placed a xs) ≡ cond (is_text t a.name) (Some a) (find (λ (b : Assigned). is_text t b.name) xs)
found_placed t a [] new = refl
found_placed t a (b ∷ bs) new =
    by (int_lt a.number b.number) (is_text t a.name) (is_text t b.name) (λ e. same_text t a.name b.name e (first_not (is_text a.name b.name) _ new))
    (found_placed t a bs (second_not (is_text a.name b.name) _ new))
  where
    by : (l p q : Bool) → (is_text t a.name ≡ true → is_text t b.name ≡ false)
        → find (λ (b : Assigned). is_text t b.name) (placed a bs) ≡ cond (is_text t a.name) (Some a) (find (λ (b : Assigned). is_text t b.name) bs)
        → find (λ (b : Assigned). is_text t b.name) (cond l (a ∷ b ∷ bs) (b ∷ placed a bs))
        ≡ cond (is_text t a.name) (Some a) (cond (is_text t b.name) (Some b) (find (λ (b : Assigned). is_text t b.name) bs))
    by true p q apart h = refl
    by false p q apart h = ap (λ (o : Option Assigned). cond (is_text t b.name) (Some b) o) h ∙ turned (is_text t a.name) (is_text t b.name) (find (λ (b : Assigned). is_text t b.name) bs) apart
      where
        turned : (p q : Bool) (o : Option Assigned) → (p ≡ true → q ≡ false) → cond q (Some b) (cond p (Some a) o) ≡ cond p (Some a) (cond q (Some b) o)
        turned true true o apart = absurd (let no = apart refl in cc)
        turned true false o apart = refl
        turned false q o apart = refl

pub words_placed : (a : Assigned) (xs : List Assigned) → FitsSigned w64 a.number → AreWords xs → AreWords (placed a xs)
words_placed a [] fits words = (fits, tt)
words_placed a (b ∷ bs) fits words = by (int_lt a.number b.number) (words_placed a bs fits words.1)
  where
    by : (l : Bool) → AreWords (placed a bs) → AreWords (cond l (a ∷ b ∷ bs) (b ∷ placed a bs))
    by true h = (fits, words)
    by false h = (words.0, h)

number_found : (a : Assigned) (b : Bool) (o : Option Assigned) → option_map (λ (a : Assigned). a.number) (cond b (Some a) o) ≡ cond b (Some a.number) (option_map (λ (a : Assigned). a.number) o)
number_found a true o = refl
number_found a false o = refl

pub text_turned : (s t : Text) → is_text s t ≡ is_text t s
text_turned s t = same_from_decides (is_text s t) (is_text t s) (bytes_eq-Decides s t) (Decides-like (is_text t s) sym sym (bytes_eq-Decides t s))

-- the tables with one name more are an index again
pub index_more : {Z : Type 0} (before after : BTreeMap (String Z) ℤ) (a : Assigned) (xs ys : List Assigned) → IsIndex before xs → FitsSigned w64 a.number → list_any (is_like a) xs ≡ false
    → ys ≡ placed a xs → ((t : Text) → get_by_text after t ≡ cond (is_text a.name t) (Some a.number) (get_by_text before t)) → IsIndex after ys
index_more before after a xs ys index fits new is more = subst (IsIndex after) (sym is) (record {
  finds = λ t. more t ∙ ap (λ b. cond b (Some a.number) (get_by_text before t)) (text_turned a.name t)
      ∙ ap (λ (o : Option ℤ). cond (is_text t a.name) (Some a.number) o) (index.finds t)
      ∙ sym (number_found a (is_text t a.name) (find (λ (b : Assigned). is_text t b.name) xs))
      ∙ ap (option_map (λ (b : Assigned). b.number)) (sym (found_placed t a xs (name_new a xs new)));
  words = words_placed a xs fits index.words;
})

pub words_found : {Z : Type 0} (table : Option (BTreeMap (String Z) ℤ)) (xs : List Assigned) → Finds table xs → AreWords xs
words_found None xs finds = finds
words_found (Some by_name) xs finds = finds.words

pub table_more : {Z : Type 0} (before after : Option (BTreeMap (String Z) ℤ)) (a : Assigned) (xs ys : List Assigned) → Finds before xs → FitsSigned w64 a.number
    → list_any (is_like a) xs ≡ false → ys ≡ placed a xs → HasMore before after a.name a.number → Finds after ys
table_more None None a xs ys finds fits new is more = subst AreWords (sym is) (words_placed a xs fits finds)
table_more None (Some after) a xs ys finds fits new is more = absurd more
table_more (Some before) None a xs ys finds fits new is more = absurd more
table_more (Some before) (Some after) a xs ys finds fits new is more = index_more before after a xs ys finds fits new is more

-- ---- a number's name

pub name_held : {Z : Type 0} (z : ℤ) (es : List (ℤ × String Z)) → option_map string_bytes (lookup (is_at (int_cmp z)) es) ≡ option_map (λ (a : Assigned). a.name) (find (λ (a : Assigned). int_eq a.number z) (assigned es))
name_held z [] = refl
name_held z (e ∷ es) = by (int_eq z e.0) (int_eq e.0 z) (int_eq_equiv.symm z e.0) (name_held z es)
  where
    by : (b c : Bool) → b ≡ c → option_map string_bytes (lookup (is_at (int_cmp z)) es) ≡ option_map (λ (a : Assigned). a.name) (find (λ (a : Assigned). int_eq a.number z) (assigned es))
        → option_map string_bytes (cond b (Some e.1) (lookup (is_at (int_cmp z)) es))
        ≡ option_map (λ (a : Assigned). a.name) (cond c (Some (named (string_bytes e.1) e.0)) (find (λ (a : Assigned). int_eq a.number z) (assigned es)))
    by true true same h = refl
    by false false same h = h
    by true false same h = absurd cc
    by false true same h = absurd cc

-- no name has a number of more bits
pub no_name_held : (z : ℤ) (xs : List Assigned) → AreWords xs → (FitsSigned w64 z → ⊥) → find (λ (a : Assigned). int_eq a.number z) xs ≡ None
no_name_held z [] words past = refl
no_name_held z (a ∷ xs) words past = by (int_eq a.number z) (signed_Decides a.number z).0 (no_name_held z xs words.1 past)
  where
    by : (b : Bool) → (b ≡ true → a.number ≡ z) → find (λ (a : Assigned). int_eq a.number z) xs ≡ None → cond b (Some a) (find (λ (a : Assigned). int_eq a.number z) xs) ≡ None
    by true is h = absurd (past (subst (FitsSigned w64) (is refl) words.0))
    by false is h = h

-- ---- the number behind the last

pub next_behind : {Z : Type 0} (z : ℤ) (es : List (ℤ × String Z)) (i : ℕ) (e : ℤ × String Z) → i + 1 ≡ length es → slice_get es i ≡ Some e → next_after z (assigned es) ≡ e.0 +ℤ pos 1
next_behind z [] i e last is = absurd cc
next_behind z (d ∷ []) zero e last is = ap (λ (k : ℤ). k +ℤ pos 1) (ap (λ o. option_map_or (λ p. p.0) o e.0) is)
next_behind z (d ∷ []) (suc i) e last is = absurd (omega (arith, last))
next_behind z (d ∷ f ∷ es) zero e last is = absurd (omega (arith, last))
next_behind z (d ∷ f ∷ es) (suc i) e last is = next_behind (d.0 +ℤ pos 1) (f ∷ es) i e (omega (arith, last)) is

pub word_at : {Z : Type 0} (es : List (ℤ × String Z)) (i : ℕ) (e : ℤ × String Z) → AreWords (assigned es) → slice_get es i ≡ Some e → FitsSigned w64 e.0
word_at [] i e words is = absurd cc
word_at (d ∷ es) zero e words is = subst (FitsSigned w64) (ap (λ o. option_map_or (λ p. p.0) o e.0) is) words.0
word_at (d ∷ es) (suc i) e words is = word_at es i e words.1 is

pub next_first : {Z : Type 0} (z : ℤ) (es : List (ℤ × String Z)) → length es ≡ 0 → next_after z (assigned es) ≡ z
next_first z [] none = refl
next_first z (e ∷ es) none = absurd (omega (arith, none))

-- ---- copies

pub assigned_copied : {Z : Type 0} (es fs : List (ℤ × String Z)) → AllZip (λ p q. (q.0 ≡ p.0) × (string_bytes q.1 ≡ string_bytes p.1)) es fs → assigned fs ≡ assigned es
assigned_copied [] [] same = refl
assigned_copied [] (f ∷ fs) same = absurd same
assigned_copied (e ∷ es) [] same = absurd same
assigned_copied (e ∷ es) (f ∷ fs) same =
    ap (λ (n : ℤ). named (string_bytes f.1) n ∷ assigned fs) same.0.0 ∙ ap (λ (t : Text). named t e.0 ∷ assigned fs) same.0.1
    ∙ ap (λ (xs : List Assigned). named (string_bytes e.1) e.0 ∷ xs) (assigned_copied es fs same.1)

texts_copied : {Z : Type 0} (t : Text) (es fs : List (String Z × ℤ)) → AllZip (λ p q. (string_bytes q.0 ≡ string_bytes p.0) × (q.1 ≡ p.1)) es fs
    → lookup (is_at (λ k. slice_cmp nat_cmp t (string_bytes k))) fs ≡ lookup (is_at (λ k. slice_cmp nat_cmp t (string_bytes k))) es
texts_copied t [] [] same = refl
texts_copied t [] (f ∷ fs) same = absurd same
texts_copied t (e ∷ es) [] same = absurd same
texts_copied t (e ∷ es) (f ∷ fs) same =
    ap (λ (u : Text). cond (is_eq (slice_cmp nat_cmp t u)) (Some f.1) (lookup (is_at (λ k. slice_cmp nat_cmp t (string_bytes k))) fs)) same.0.0
    ∙ ap (λ (z : ℤ). cond (is_eq (slice_cmp nat_cmp t (string_bytes e.0))) (Some z) (lookup (is_at (λ k. slice_cmp nat_cmp t (string_bytes k))) fs)) same.0.1
    ∙ ap (λ (o : Option ℤ). cond (is_eq (slice_cmp nat_cmp t (string_bytes e.0))) (Some e.1) o) (texts_copied t es fs same.1)

pub index_copied : {Z : Type 0} (m n : BTreeMap (String Z) ℤ) (es fs : List (ℤ × String Z)) → IsIndex m (assigned es) → AllZip (λ p q. (string_bytes q.0 ≡ string_bytes p.0) × (q.1 ≡ p.1)) m.entries n.entries
    → assigned fs ≡ assigned es → IsIndex n (assigned fs)
index_copied m n es fs index same is = subst (IsIndex n) (sym is) (record { finds = λ t. texts_copied t m.entries n.entries same ∙ index.finds t; words = index.words })

pub table_copied : {Z : Type 0} (m n : Option (BTreeMap (String Z) ℤ)) (es fs : List (ℤ × String Z)) → Finds m (assigned es) → AreAlike m n → assigned fs ≡ assigned es → Finds n (assigned fs)
table_copied None None es fs finds same is = subst AreWords (sym is) finds
table_copied None (Some n) es fs finds same is = absurd same
table_copied (Some m) None es fs finds same is = absurd same
table_copied (Some m) (Some n) es fs finds same is = index_copied m n es fs finds same is

-- ---- a name of a number above all others

not_before : (x y : ℤ) → int_lt x y ≡ true → int_lt y x ≡ false
not_before x y e = grind (arith, ints, e)

not_same : (x y : ℤ) → int_lt x y ≡ true → int_eq y x ≡ false
not_same x y e = grind (arith, ints, e)

both_hold : (a b : Bool) → (a && b) ≡ true → (a ≡ true) × (b ≡ true)
both_hold true b e = (refl, e)
both_hold false b e = absurd cc

pub placed_last : (a : Assigned) (xs : List Assigned) → list_all (λ (b : Assigned). int_lt b.number a.number) xs ≡ true → placed a xs ≡ xs ++ a ∷ []
placed_last a [] later = refl
placed_last a (b ∷ bs) later =
    let both = both_hold _ _ later in
    ap (λ l. cond l (a ∷ b ∷ bs) (b ∷ placed a bs)) (not_before b.number a.number both.0)
    ∙ ap (λ (xs : List Assigned). b ∷ xs) (placed_last a bs both.1)

pub number_last : (a : Assigned) (xs : List Assigned) → list_all (λ (b : Assigned). int_lt b.number a.number) xs ≡ true → list_any (λ (b : Assigned). int_eq a.number b.number) xs ≡ false
number_last a [] later = refl
number_last a (b ∷ bs) later =
    let both = both_hold _ _ later in
    ap (λ l. l || list_any (λ (b : Assigned). int_eq a.number b.number) bs) (not_same b.number a.number both.0) ∙ number_last a bs both.1

words_last : (a : Assigned) (xs : List Assigned) → FitsSigned w64 a.number → AreWords xs → AreWords (xs ++ a ∷ [])
words_last a [] fits words = (fits, tt)
words_last a (b ∷ bs) fits words = (words.0, words_last a bs fits words.1)

or_nothing : (o : Option ℤ) → option_or o None ≡ o
or_nothing None = refl
or_nothing (Some y) = refl

or_one : (o : Option ℤ) (b : Bool) (z : ℤ) → (b ≡ true → is_some o ≡ false) → cond b (Some z) o ≡ option_or o (cond b (Some z) None)
or_one o false z apart = sym (or_nothing o)
or_one o true z apart = by o (apart refl)
  where
    by : (o : Option ℤ) → is_some o ≡ false → Some z ≡ option_or o (Some z)
    by None e = refl
    by (Some y) e = absurd cc

or_none : (o : Option ℤ) (b : Bool) (z : ℤ) → (b ≡ true → is_some o ≡ true) → o ≡ option_or o (cond b (Some z) None)
or_none o false z there = sym (or_nothing o)
or_none o true z there = by o (there refl)
  where
    by : (o : Option ℤ) → is_some o ≡ true → o ≡ option_or o (Some z)
    by None e = absurd cc
    by (Some y) e = refl

number_behind : (t : Text) (a : Assigned) (xs : List Assigned)
    → number_named t (xs ++ a ∷ []) ≡ option_or (number_named t xs) (cond (is_text t a.name) (Some a.number) None)
number_behind t a [] = by (is_text t a.name)
  where
    by : (b : Bool) → option_map (λ (a : Assigned). a.number) (cond b (Some a) None) ≡ cond b (Some a.number) None
    by true = refl
    by false = refl
number_behind t a (x ∷ xs) = by (is_text t x.name) (number_behind t a xs)
  where
    by : (b : Bool) → number_named t (xs ++ a ∷ []) ≡ option_or (number_named t xs) (cond (is_text t a.name) (Some a.number) None)
        → option_map (λ (a : Assigned). a.number) (cond b (Some x) (find (λ (b : Assigned). is_text t b.name) (xs ++ a ∷ [])))
        ≡ option_or (option_map (λ (a : Assigned). a.number) (cond b (Some x) (find (λ (b : Assigned). is_text t b.name) xs))) (cond (is_text t a.name) (Some a.number) None)
    by true h = refl
    by false h = h

-- two texts that are the same are named alike
named_alike : (t : Text) (a : Assigned) (xs : List Assigned) (b : Bool) → is_among (map (λ (a : Assigned). a.name) xs) a.name ≡ b → is_text t a.name ≡ true → is_some (number_named t xs) ≡ b
named_alike t a xs b is same =
    ap (λ (u : Text). is_some (number_named u xs)) ((bytes_eq-Decides t a.name).0 same) ∙ named_among a.name xs ∙ is

-- the table finds the first of a name, whether the last one has a name that is known
pub kept_later : {Z : Type 0} (table : Option (BTreeMap (String Z) ℤ)) (a : Assigned) (xs ys : List Assigned) → Finds table xs → FitsSigned w64 a.number
    → is_among (map (λ (a : Assigned). a.name) xs) a.name ≡ true → ys ≡ xs ++ a ∷ [] → Finds table ys
kept_later None a xs ys finds fits known is = subst AreWords (sym is) (words_last a xs fits finds)
kept_later (Some table) a xs ys finds fits known is = subst (IsIndex table) (sym is) (record {
  finds = λ t. finds.finds t ∙ or_none (number_named t xs) (is_text t a.name) a.number (named_alike t a xs true known) ∙ sym (number_behind t a xs);
  words = words_last a xs fits finds.words;
})

pub more_later : {Z : Type 0} (before after : Option (BTreeMap (String Z) ℤ)) (a : Assigned) (xs ys : List Assigned) → Finds before xs → FitsSigned w64 a.number
    → is_among (map (λ (a : Assigned). a.name) xs) a.name ≡ false → ys ≡ xs ++ a ∷ [] → HasMore before after a.name a.number → Finds after ys
more_later None None a xs ys finds fits new is more = subst AreWords (sym is) (words_last a xs fits finds)
more_later None (Some after) a xs ys finds fits new is more = absurd more
more_later (Some before) None a xs ys finds fits new is more = absurd more
more_later (Some before) (Some after) a xs ys finds fits new is more = subst (IsIndex after) (sym is) (record {
  finds = λ t. more t ∙ ap (λ b. cond b (Some a.number) (get_by_text before t)) (text_turned a.name t)
      ∙ ap (λ (o : Option ℤ). cond (is_text t a.name) (Some a.number) o) (finds.finds t)
      ∙ or_one (number_named t xs) (is_text t a.name) a.number (named_alike t a xs false new) ∙ sym (number_behind t a xs);
  words = words_last a xs fits finds.words;
})
