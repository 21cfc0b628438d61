-- The names of enumerations and bits that are kept: given with the numbers that they have among all, they are those of all that
-- are kept.
use Rattle.std.proofs.Common.{◌≡◌, ℤ, Bool, true, false, ◌&&◌, ◌||◌, cond, not, List, [], ◌∷◌, ◌++◌, filter, map, find, Option, Some, None, option_map, option_and_then, refl, sym, ap, ap₂, ◌∙◌, arith, append_assoc}
use Rattle.std.specs.Prelude.{⊤, ◌==◌, int_lt, length}
use Rattle.std.specs.List.{list_any, list_all}
use Rattle.std.specs.Ordering.{int_eq}
use Rattle.std.proofs.lemmas.Bool.{and_from, and_parts}
use Rattle.std.proofs.lemmas.Int.{ints}
use Rattle.std.proofs.lemmas.List.{append-nil}
use Rattle.std.proofs.lemmas.Slice.Eq.{bytes_eq-Decides}
use Rattle.yspec.specs.Forest.{Forest, end, node}
use Rattle.yspec.specs.text.Text.{Text, is_text}
use Rattle.yspec.specs.types.Names.{Naming, Assigned, enum_names, enum_numbers, bit_positions, number_of, placed, is_like, is_new, assigned_from, is_enum_name, are_enum_names}
use Rattle.yspec.specs.types.Ranges.{Part, lies_in}
use Rattle.yspec.specs.types.Types.{Base, plain}
use Rattle.yspec.specs.linking.Keyword.{Keyword, enum_word, bit_word}
use Rattle.yspec.specs.linking.Source.{Source, is_source_of, argument_in}
use Rattle.yspec.specs.linking.TypeStatements.{namings_where, enumeration, bits, namings, of_names, value_stated, position_stated}
use Rattle.yspec.proofs.BasicLemmas.{same_text, other_text, texts_differ}
use Rattle.yspec_wide.specs.Types as wide
use Rattle.yspec_wide.specs.Types.{Keeping, all_names, keeps, names_kept}
use Rattle.yspec_wide.proofs.CoreTypeLemmas.{single_alike}
use Rattle.ylink_values.specs.KindView.{are_kept, base_of, names_by, naming_in, naming_word, number_by, type_kept}
use Rattle.ylink_values.specs.declared.naming.NamingKind.{NamingKind}
use Rattle.ylink_values.specs.declared.naming.NamingKind.TheVariants.{Enum, Bit}

-- whether a name is among some
abbrev is_kept : List Text → Assigned → Bool
is_kept texts a = list_any (is_text a.name) texts

-- ---- names in the order of their numbers

abbrev Ordered : List Assigned → Type 0
Ordered [] = ⊤
Ordered (b ∷ bs) = (list_all (λ (c : Assigned). not (int_lt c.number b.number)) bs ≡ true) × Ordered bs

before_all : (x y z : ℤ) → int_lt x y ≡ true → not (int_lt z y) ≡ true → int_lt x z ≡ true
before_all x y z e f = grind (arith, ints, e, f)

not_before : (x y : ℤ) → int_lt x y ≡ true → not (int_lt y x) ≡ true
not_before x y e = grind (arith, ints, e)

or_none : (b c : Bool) → (b || c) ≡ false → (b ≡ false) × (c ≡ false)
or_none true c e = absurd cc
or_none false c e = (refl, e)

none_of : (b c : Bool) → b ≡ false → c ≡ false → (b || c) ≡ false
none_of b c own rest = ap (λ o. o || c) own ∙ rest

turned : (b c d : Bool) → (b || (c || d)) ≡ (c || (b || d))
turned true true d = refl
turned true false d = refl
turned false c d = refl

module _ (p q : Assigned → Bool) (more : (c : Assigned) → p c ≡ true → q c ≡ true) where
  all_more : (xs : List Assigned) → list_all p xs ≡ true → list_all q xs ≡ true
  all_more [] all = refl
  all_more (x ∷ xs) all = let both = and_parts (p x) (list_all p xs) all in and_from (q x) (list_all q xs) (more x both.0) (all_more xs both.1)

module _ (p : Assigned → Bool) where
  all_placed : (a : Assigned) (xs : List Assigned) → p a ≡ true → list_all p xs ≡ true → list_all p (placed a xs) ≡ true
  all_placed a [] own all = and_from (p a) true own refl
  all_placed a (b ∷ bs) own all = by (int_lt a.number b.number) (all_placed a bs own both.1)
    where
      both : (p b ≡ true) × (list_all p bs ≡ true)
      both = and_parts (p b) (list_all p bs) all

      by : (less : Bool) → list_all p (placed a bs) ≡ true → list_all p (cond less (a ∷ b ∷ bs) (b ∷ placed a bs)) ≡ true
      by true rest = and_from (p a) (list_all p (b ∷ bs)) own all
      by false rest = and_from (p b) (list_all p (placed a bs)) both.0 rest

  all_filtered : (q : Assigned → Bool) (xs : List Assigned) → list_all p xs ≡ true → list_all p (filter q xs) ≡ true
  all_filtered q [] all = refl
  all_filtered q (x ∷ xs) all = by (q x) (all_filtered q xs both.1)
    where
      both : (p x ≡ true) × (list_all p xs ≡ true)
      both = and_parts (p x) (list_all p xs) all

      by : (b : Bool) → list_all p (filter q xs) ≡ true → list_all p (cond b (x ∷ filter q xs) (filter q xs)) ≡ true
      by true rest = and_from (p x) (list_all p (filter q xs)) both.0 rest
      by false rest = rest

  none_filtered : (q : Assigned → Bool) (xs : List Assigned) → list_any p xs ≡ false → list_any p (filter q xs) ≡ false
  none_filtered q [] none = refl
  none_filtered q (x ∷ xs) none = by (q x) (none_filtered q xs parts.1)
    where
      parts : (p x ≡ false) × (list_any p xs ≡ false)
      parts = or_none (p x) (list_any p xs) none

      by : (b : Bool) → list_any p (filter q xs) ≡ false → list_any p (cond b (x ∷ filter q xs) (filter q xs)) ≡ false
      by true rest = none_of (p x) (list_any p (filter q xs)) parts.0 rest
      by false rest = rest

  -- one more stands among those that are placed, and the others as before
  any_placed : (a : Assigned) (xs : List Assigned) → list_any p (placed a xs) ≡ (p a || list_any p xs)
  any_placed a [] = refl
  any_placed a (b ∷ bs) = by (int_lt a.number b.number) (any_placed a bs)
    where
      by : (less : Bool) → list_any p (placed a bs) ≡ (p a || list_any p bs)
          → list_any p (cond less (a ∷ b ∷ bs) (b ∷ placed a bs)) ≡ (p a || (p b || list_any p bs))
      by true rest = refl
      by false rest = ap (λ o. p b || o) rest ∙ turned (p b) (p a) (list_any p bs)

  find_other : (a : Assigned) (xs : List Assigned) → p a ≡ false → find p (placed a xs) ≡ find p xs
  find_other a [] other = ap (λ b. cond b (Some a) None) other
  find_other a (b ∷ bs) other = by (int_lt a.number b.number) (find_other a bs other)
    where
      by : (less : Bool) → find p (placed a bs) ≡ find p bs → find p (cond less (a ∷ b ∷ bs) (b ∷ placed a bs)) ≡ find p (b ∷ bs)
      by true rest = ap (λ c. cond c (Some a) (find p (b ∷ bs))) other
      by false rest = ap (λ o. cond (p b) (Some b) o) rest

  find_own : (a : Assigned) (xs : List Assigned) → p a ≡ true → list_any p xs ≡ false → find p (placed a xs) ≡ Some a
  find_own a [] own none = ap (λ b. cond b (Some a) None) own
  find_own a (b ∷ bs) own none = by (int_lt a.number b.number) (find_own a bs own parts.1)
    where
      parts : (p b ≡ false) × (list_any p bs ≡ false)
      parts = or_none (p b) (list_any p bs) none

      by : (less : Bool) → find p (placed a bs) ≡ Some a → find p (cond less (a ∷ b ∷ bs) (b ∷ placed a bs)) ≡ Some a
      by true rest = ap (λ c. cond c (Some a) (find p (b ∷ bs))) own
      by false rest = ap (λ c. cond c (Some b) (find p (placed a bs))) parts.0 ∙ rest

  found_any : (a : Assigned) (xs : List Assigned) → find p xs ≡ Some a → (list_any p xs ≡ true) × (p a ≡ true)
  found_any a [] e = absurd cc
  found_any a (b ∷ bs) e = by (p b) refl e (found_any a bs)
    where
      by : (own : Bool) → p b ≡ own → cond own (Some b) (find p bs) ≡ Some a → (find p bs ≡ Some a → (list_any p bs ≡ true) × (p a ≡ true))
          → ((p b || list_any p bs) ≡ true) × (p a ≡ true)
      by true is e rest = let same : b ≡ a = cc in (ap (λ o. o || list_any p bs) is, sym (ap p same) ∙ is)
      by false is e rest = (ap (λ o. o || list_any p bs) is ∙ (rest e).0, (rest e).1)

ordered_placed : (a : Assigned) (xs : List Assigned) → Ordered xs → Ordered (placed a xs)
ordered_placed a [] ordered = (refl, tt)
ordered_placed a (b ∷ bs) ordered = by (int_lt a.number b.number) refl (ordered_placed a bs ordered.1)
  where
    by : (less : Bool) → int_lt a.number b.number ≡ less → Ordered (placed a bs) → Ordered (cond less (a ∷ b ∷ bs) (b ∷ placed a bs))
    by true is rest = (
      and_from (not (int_lt b.number a.number)) _ (not_before a.number b.number is)
          (all_more (λ (c : Assigned). not (int_lt c.number b.number)) (λ (c : Assigned). not (int_lt c.number a.number))
          (λ c later. not_before a.number c.number (before_all a.number b.number c.number is later)) bs ordered.0),
      ordered,
    )
    by false is rest = (all_placed (λ (c : Assigned). not (int_lt c.number b.number)) a bs (ap not is) ordered.0, rest)

-- what stands before all others is placed in front
placed_front : (a : Assigned) (xs : List Assigned) → list_all (λ (c : Assigned). int_lt a.number c.number) xs ≡ true → placed a xs ≡ a ∷ xs
placed_front a [] all = refl
placed_front a (b ∷ bs) all = ap (λ less. cond less (a ∷ b ∷ bs) (b ∷ placed a bs)) (and_parts (int_lt a.number b.number) _ all).0

module _ (q : Assigned → Bool) (a : Assigned) where
  kept_placed : (xs : List Assigned) → Ordered xs → q a ≡ true → filter q (placed a xs) ≡ placed a (filter q xs)
  kept_placed [] ordered own = ap (λ b. cond b (a ∷ []) []) own
  kept_placed (b ∷ bs) ordered own = by (int_lt a.number b.number) refl (kept_placed bs ordered.1 own)
    where
      one : (less kept : Bool) → int_lt a.number b.number ≡ less → less ≡ false → filter q (placed a bs) ≡ placed a (filter q bs)
          → cond kept (b ∷ filter q (placed a bs)) (filter q (placed a bs)) ≡ placed a (cond kept (b ∷ filter q bs) (filter q bs))
      one less true is not_less rest = ap (λ l. b ∷ l) rest
          ∙ sym (ap (λ c. cond c (a ∷ b ∷ filter q bs) (b ∷ placed a (filter q bs))) (is ∙ not_less))
      one less false is not_less rest = rest

      by : (less : Bool) → int_lt a.number b.number ≡ less → filter q (placed a bs) ≡ placed a (filter q bs)
          → filter q (cond less (a ∷ b ∷ bs) (b ∷ placed a bs)) ≡ placed a (filter q (b ∷ bs))
      by true is rest = ap (λ c. cond c (a ∷ filter q (b ∷ bs)) (filter q (b ∷ bs))) own
          ∙ sym (placed_front a (filter q (b ∷ bs)) (all_filtered (λ (c : Assigned). int_lt a.number c.number) q (b ∷ bs)
          (and_from (int_lt a.number b.number) _ is
          (all_more (λ (c : Assigned). not (int_lt c.number b.number)) (λ (c : Assigned). int_lt a.number c.number)
          (λ c later. before_all a.number b.number c.number is later) bs ordered.0))))
      by false is rest = one false (q b) is refl rest

  left_placed : (xs : List Assigned) → q a ≡ false → filter q (placed a xs) ≡ filter q xs
  left_placed [] other = ap (λ b. cond b (a ∷ []) []) other
  left_placed (b ∷ bs) other = by (int_lt a.number b.number) (left_placed bs other)
    where
      by : (less : Bool) → filter q (placed a bs) ≡ filter q bs → filter q (cond less (a ∷ b ∷ bs) (b ∷ placed a bs)) ≡ filter q (b ∷ bs)
      by true rest = ap (λ c. cond c (a ∷ filter q (b ∷ bs)) (filter q (b ∷ bs))) other
      by false rest = ap (λ l. cond (q b) (b ∷ l) l) rest

-- ---- one name more

any_less : (p r : Assigned → Bool) (xs : List Assigned) → list_any (λ b. p b || r b) xs ≡ false → list_any p xs ≡ false
any_less p r [] none = refl
any_less p r (x ∷ xs) none =
    let parts = or_none (p x || r x) (list_any (λ b. p b || r b) xs) none in
    none_of (p x) (list_any p xs) (or_none (p x) (r x) parts.0).0 (any_less p r xs parts.1)

not_true : (b : Bool) → not b ≡ true → b ≡ false
not_true false e = refl
not_true true e = absurd cc

abbrev named_so : Text → Assigned → Bool
named_so t b = is_text t b.name

-- its name is none of those so far
unnamed : (a : Assigned) (names : List Assigned) → is_new a names ≡ true → list_any (named_so a.name) names ≡ false
unnamed a names is = any_less (named_so a.name) (λ b. int_eq a.number b.number) names (not_true (list_any (is_like a) names) is)

new_filtered : (a : Assigned) (q : Assigned → Bool) (names : List Assigned) → is_new a names ≡ true → is_new a (filter q names) ≡ true
new_filtered a q names is = ap not (none_filtered (is_like a) q names (not_true (list_any (is_like a) names) is))

-- what is no name so far is none of those that are kept
abbrev AreAmong : List Text → List Assigned → Type 0
AreAmong texts names = (t : Text) → list_any (named_so t) names ≡ false → list_any (is_text t) texts ≡ false

any_behind : (p : Text → Bool) (xs : List Text) (x : Text) → list_any p (xs ++ x ∷ []) ≡ (list_any p xs || p x)
any_behind p [] x = one (p x)
  where
    one : (b : Bool) → (b || false) ≡ b
    one true = refl
    one false = refl
any_behind p (y ∷ ys) x = ap (λ o. p y || o) (any_behind p ys x) ∙ sym (or_or (p y) (list_any p ys) (p x))
  where
    or_or : (b c d : Bool) → ((b || c) || d) ≡ (b || (c || d))
    or_or true c d = refl
    or_or false c d = refl

among_more : (texts : List Text) (names : List Assigned) (a : Assigned) → AreAmong texts names → AreAmong (texts ++ a.name ∷ []) (placed a names)
among_more texts names a among t none =
    let parts = or_none (named_so t a) (list_any (named_so t) names) (sym (any_placed (named_so t) a names) ∙ none) in
    any_behind (is_text t) texts a.name ∙ none_of (list_any (is_text t) texts) (is_text t a.name) (among t parts.1) parts.0

among_less : (texts : List Text) (names : List Assigned) (a : Assigned) → AreAmong texts names → AreAmong texts (placed a names)
among_less texts names a among t none =
    among t (or_none (named_so t a) (list_any (named_so t) names) (sym (any_placed (named_so t) a names) ∙ none)).1

-- one text more changes nothing for those that aren't named so
kept_same : (texts : List Text) (t : Text) (xs : List Assigned) → list_any (named_so t) xs ≡ false → filter (is_kept (texts ++ t ∷ [])) xs ≡ filter (is_kept texts) xs
kept_same texts t [] none = refl
kept_same texts t (x ∷ xs) none =
    let parts = or_none (is_text t x.name) (list_any (named_so t) xs) none in
    ap₂ (λ b (l : List Assigned). cond b (x ∷ l) l)
    (any_behind (is_text x.name) texts t ∙ (ap (λ o. list_any (is_text x.name) texts || o) (other_text x.name t (λ e. texts_differ t x.name parts.0 (sym e)))
    ∙ or_nothing (list_any (is_text x.name) texts)))
    (kept_same texts t xs parts.1)
  where
    or_nothing : (b : Bool) → (b || false) ≡ b
    or_nothing true = refl
    or_nothing false = refl

is_last : (texts : List Text) (t : Text) → list_any (is_text t) (texts ++ t ∷ []) ≡ true
is_last texts t = any_behind (is_text t) texts t ∙ (ap (λ o. list_any (is_text t) texts || o) (same_text t) ∙ or_true (list_any (is_text t) texts))
  where
    or_true : (b : Bool) → (b || true) ≡ true
    or_true true = refl
    or_true false = refl

-- ---- all names of a row, and those that are kept

module _ (numbers : Part) (given : List Assigned) where
  -- the number of a name stays the one that it is given
  stays : (names : List Assigned) (ns : List Naming) (t : Text) (a : Assigned) → find (named_so t) names ≡ Some a → assigned_from numbers names ns ≡ Some given
      → find (named_so t) given ≡ Some a
  stays names [] t a found e = let same : names ≡ given = cc in ap (find (named_so t)) (sym same) ∙ found
  stays names (n ∷ ns) t a found e = by (lies_in b.number numbers && is_new b names) refl e (stays (placed b names) ns t a)
    where
      b : Assigned
      b = record { name = n.name; number = number_of names n.number }

      other : (is : Bool) → is_text t n.name ≡ is → is_new b names ≡ true → is ≡ false
      other false is new = refl
      other true is new =
          let same : t ≡ n.name = (bytes_eq-Decides t n.name).0 is in
          sym (found_any (named_so t) a names found).0 ∙ (ap (λ u. list_any (named_so u) names) same ∙ unnamed b names new)

      by : (fits : Bool) → (lies_in b.number numbers && is_new b names) ≡ fits
          → option_and_then (λ more. assigned_from numbers more ns) (cond fits (Some (placed b names)) None) ≡ Some given
          → (find (named_so t) (placed b names) ≡ Some a → assigned_from numbers (placed b names) ns ≡ Some given → find (named_so t) given ≡ Some a)
          → find (named_so t) given ≡ Some a
      by true fits e rest =
          let new = (and_parts (lies_in b.number numbers) (is_new b names) fits).1 in
          rest (find_other (named_so t) b names (other (is_text t n.name) refl new) ∙ found) e
      by false fits e rest = absurd cc

  module _ (k : Keyword) (number : Forest Source → Option ℤ) (kept : Keeping) where
    abbrev kept_texts : Forest Source → List Text
    kept_texts = names_kept kept k

    abbrev Goes : Forest Source → Type 0
    Goes below = (names : List Assigned) (seen : List Text) → Ordered names → AreAmong seen names
        → assigned_from numbers names (namings k number below) ≡ Some given
        → assigned_from numbers (filter (is_kept seen) names) (map (naming_in given) (kept_texts below)) ≡ Some (filter (is_kept (seen ++ kept_texts below)) given)

    module _ (s : Source) (below after : Forest Source) (rest : Goes after) (names : List Assigned) (seen : List Text) (ordered : Ordered names) (among : AreAmong seen names) where
      abbrev one : Assigned
      one = record { name = argument_in s; number = number_of names (number below) }

      module _ (fits : (lies_in one.number numbers && is_new one names) ≡ true) (e : assigned_from numbers (placed one names) (namings k number after) ≡ Some given) where
        own_new : is_new one names ≡ true
        own_new = (and_parts (lies_in one.number numbers) (is_new one names) fits).1

        own_unnamed : list_any (named_so (argument_in s)) names ≡ false
        own_unnamed = unnamed one names own_new

        own_number : (naming_in given (argument_in s)).number ≡ Some one.number
        own_number = ap (option_map (λ (a : Assigned). a.number))
            (stays (placed one names) (namings k number after) (argument_in s) one
            (find_own (named_so (argument_in s)) one names (same_text (argument_in s)) own_unnamed) e)

        still_fits : (lies_in one.number numbers && is_new one (filter (is_kept seen) names)) ≡ true
        still_fits = and_from (lies_in one.number numbers) (is_new one (filter (is_kept seen) names))
            (and_parts (lies_in one.number numbers) (is_new one names) fits).0 (new_filtered one (is_kept seen) names own_new)

        grown : placed one (filter (is_kept seen) names) ≡ filter (is_kept (seen ++ argument_in s ∷ [])) (placed one names)
        grown = ap (placed one) (sym (kept_same seen (argument_in s) names own_unnamed))
            ∙ sym (kept_placed (is_kept (seen ++ argument_in s ∷ [])) one names ordered (is_last seen (argument_in s)))

        next_kept : assigned_from numbers (filter (is_kept seen) names) (naming_in given (argument_in s) ∷ map (naming_in given) (kept_texts after))
            ≡ Some (filter (is_kept (seen ++ argument_in s ∷ kept_texts after)) given)
        next_kept =
            let more = λ (l : List Assigned). assigned_from numbers l (map (naming_in given) (kept_texts after)) in
            ap (λ (o : Option ℤ). assigned_from numbers (filter (is_kept seen) names) (record { name = argument_in s; number = o } ∷ map (naming_in given) (kept_texts after))) own_number
            ∙ (ap (λ b. option_and_then more (cond b (Some (placed one (filter (is_kept seen) names))) None)) still_fits
            ∙ (ap more grown
            ∙ (rest (placed one names) (seen ++ argument_in s ∷ []) (ordered_placed one names ordered) (among_more seen names one among) e
            ∙ ap (λ l. Some (filter (is_kept l) given)) (append_assoc seen (argument_in s ∷ []) (kept_texts after)))))

        next_left : assigned_from numbers (filter (is_kept seen) names) (map (naming_in given) (kept_texts after)) ≡ Some (filter (is_kept (seen ++ kept_texts after)) given)
        next_left =
            ap (λ l. assigned_from numbers l (map (naming_in given) (kept_texts after))) (sym (left_placed (is_kept seen) one names (among (argument_in s) own_unnamed)))
            ∙ rest (placed one names) seen (ordered_placed one names ordered) (among_less seen names one among) e

      next_name : (is own : Bool)
          → assigned_from numbers names (cond is (record { name = argument_in s; number = number below } ∷ namings k number after) (namings k number after)) ≡ Some given
          → assigned_from numbers (filter (is_kept seen) names) (map (naming_in given) (cond (is && own) (argument_in s ∷ kept_texts after) (kept_texts after)))
          ≡ Some (filter (is_kept (seen ++ cond (is && own) (argument_in s ∷ kept_texts after) (kept_texts after))) given)
      next_name false own e = rest names seen ordered among e
      next_name true own e = by (lies_in one.number numbers && is_new one names) refl e own
        where
          by : (fits : Bool) → (lies_in one.number numbers && is_new one names) ≡ fits
              → option_and_then (λ more. assigned_from numbers more (namings k number after)) (cond fits (Some (placed one names)) None) ≡ Some given
              → (own : Bool) → assigned_from numbers (filter (is_kept seen) names) (map (naming_in given) (cond own (argument_in s ∷ kept_texts after) (kept_texts after)))
              ≡ Some (filter (is_kept (seen ++ cond own (argument_in s ∷ kept_texts after) (kept_texts after))) given)
          by true fits e true = next_kept fits e
          by true fits e false = next_left fits e
          by false fits e own = absurd cc

    goes : (below : Forest Source) → Goes below
    goes end names seen ordered among e =
        let same : names ≡ given = cc in
        ap (λ l. Some (filter (is_kept seen) l)) same ∙ ap (λ l. Some (filter (is_kept l) given)) (sym (append-nil seen))
    goes (node s below after) names seen ordered among e = next_name s below after (goes after) names seen ordered among (is_source_of k s) (keeps kept below) e

    kept_assigned : (below : Forest Source) → assigned_from numbers [] (namings k number below) ≡ Some given
        → assigned_from numbers [] (map (naming_in given) (kept_texts below)) ≡ Some (filter (is_kept (kept_texts below)) given)
    kept_assigned below e = goes below [] [] tt (λ t none. refl) e

    kept_enum_names : (below : Forest Source) → are_enum_names (namings k number below) ≡ true → are_enum_names (map (naming_in given) (kept_texts below)) ≡ true
    kept_enum_names end all = refl
    kept_enum_names (node s below after) all = by (is_source_of k s) (keeps kept below) all (kept_enum_names after)
      where
        by : (is own : Bool) → are_enum_names (cond is (record { name = argument_in s; number = number below } ∷ namings k number after) (namings k number after)) ≡ true
            → (are_enum_names (namings k number after) ≡ true → are_enum_names (map (naming_in given) (kept_texts after)) ≡ true)
            → are_enum_names (map (naming_in given) (cond (is && own) (argument_in s ∷ kept_texts after) (kept_texts after))) ≡ true
        by false own all rest = rest all
        by true own all rest = of (and_parts (is_enum_name (argument_in s)) (are_enum_names (namings k number after)) all) own
          where
            of : (is_enum_name (argument_in s) ≡ true) × (are_enum_names (namings k number after) ≡ true) → (own : Bool)
                → are_enum_names (map (naming_in given) (cond own (argument_in s ∷ kept_texts after) (kept_texts after))) ≡ true
            of both true = and_from (is_enum_name (argument_in s)) (are_enum_names (map (naming_in given) (kept_texts after))) both.0 (rest both.1)
            of both false = rest both.1

-- ---- names of a row, one after another

module _ (test : Source → Forest Source → Bool) (number : Forest Source → Option ℤ) where
  pub no_naming : (so_far : List Naming) (s : Source) (below after before : Forest Source) (whole : List Naming)
      → before ≡ node s below after → test s below ≡ false
      → so_far ++ namings_where test number before ≡ whole → so_far ++ namings_where test number after ≡ whole
  no_naming so_far s below after before whole first other made =
      sym (ap (λ f. so_far ++ namings_where test number f) first
      ∙ ap (λ b. so_far ++ cond b (record { name = argument_in s; number = number below } ∷ namings_where test number after) (namings_where test number after)) other) ∙ made

  pub next_naming : (so_far more : List Naming) (n : Naming) (s : Source) (below after before : Forest Source) (whole : List Naming)
      → before ≡ node s below after → test s below ≡ true
      → more ≡ so_far ++ n ∷ [] → n ≡ record { name = argument_in s; number = number below }
      → so_far ++ namings_where test number before ≡ whole → more ++ namings_where test number after ≡ whole
  next_naming so_far more n s below after before whole first stands pushed is made =
      ap (λ ns. ns ++ namings_where test number after) pushed
      ∙ (append_assoc so_far (n ∷ []) (namings_where test number after)
      ∙ (ap (λ x. so_far ++ x ∷ namings_where test number after) is
      ∙ (sym (ap (λ f. so_far ++ namings_where test number f) first
      ∙ ap (λ b. so_far ++ cond b (record { name = argument_in s; number = number below } ∷ namings_where test number after) (namings_where test number after)) stands) ∙ made)))

  pub all_namings : (so_far : List Naming) (left : Forest Source) (whole : List Naming) → left ≡ end
      → so_far ++ namings_where test number left ≡ whole → so_far ≡ whole
  all_namings so_far left whole ended made =
      sym (ap (λ f. so_far ++ namings_where test number f) ended ∙ append-nil so_far) ∙ made

-- ---- the statements of a row, one after another

module _ (kept : Keeping) (k : Keyword) where
  -- one gives a name that isn't kept
  pub left_out : (s : Source) (below after before : Forest Source) (b whole : Bool) → before ≡ node s below after → b ≡ (is_source_of k s && not (keeps kept below)) → b ≡ true
      → are_kept kept k before ≡ whole → false ≡ whole
  left_out s below after before b whole first is holds so_far = by (is_source_of k s) (keeps kept below) (sym is ∙ holds) (sym (ap (are_kept kept k) first) ∙ so_far)
    where
      by : (given own : Bool) → (given && not own) ≡ true → cond given (own && are_kept kept k after) (are_kept kept k after) ≡ whole → false ≡ whole
      by true false e so_far = so_far
      by true true e so_far = absurd cc
      by false own e so_far = absurd cc

  pub none_left_out : (s : Source) (below after before : Forest Source) (b whole : Bool) → before ≡ node s below after → b ≡ (is_source_of k s && not (keeps kept below)) → b ≡ false
      → are_kept kept k before ≡ whole → are_kept kept k after ≡ whole
  none_left_out s below after before b whole first is fails so_far = by (is_source_of k s) (keeps kept below) (sym is ∙ fails) (sym (ap (are_kept kept k) first) ∙ so_far)
    where
      by : (given own : Bool) → (given && not own) ≡ false → cond given (own && are_kept kept k after) (are_kept kept k after) ≡ whole → are_kept kept k after ≡ whole
      by true false e so_far = absurd cc
      by true true e so_far = so_far
      by false own e so_far = so_far

  pub no_more : (left : Forest Source) (whole : Bool) → left ≡ end → are_kept kept k left ≡ whole → true ≡ whole
  no_more left whole ended so_far = sym (ap (are_kept kept k) ended) ∙ so_far

  module _ (names : List Assigned) where
    abbrev made : Forest Source → List Naming
    made f = map (naming_in names) (names_kept kept k f)

    module _ (s : Source) (below after before : Forest Source) (first : before ≡ node s below after) (b : Bool) (is : b ≡ (is_source_of k s && keeps kept below)) where
      there : made before ≡ cond b (naming_in names (argument_in s) ∷ made after) (made after)
      there = ap made first ∙ (by (is_source_of k s && keeps kept below) ∙ sym (ap (λ c. cond c (naming_in names (argument_in s) ∷ made after) (made after)) is))
        where
          by : (c : Bool) → map (naming_in names) (cond c (argument_in s ∷ names_kept kept k after) (names_kept kept k after))
              ≡ cond c (naming_in names (argument_in s) ∷ made after) (made after)
          by true = refl
          by false = refl

      pub not_kept : (so_far whole : List Naming) → b ≡ false → so_far ++ made before ≡ whole → so_far ++ made after ≡ whole
      not_kept so_far whole fails is_so = sym (ap (λ l. so_far ++ l) (there ∙ ap (λ c. cond c (naming_in names (argument_in s) ∷ made after) (made after)) fails)) ∙ is_so

      pub one_kept : (so_far more : List Naming) (n : Naming) (whole : List Naming) → b ≡ true → more ≡ so_far ++ n ∷ [] → n ≡ naming_in names (argument_in s)
          → so_far ++ made before ≡ whole → more ++ made after ≡ whole
      one_kept so_far more n whole holds pushed own is_so =
          ap (λ l. l ++ made after) pushed
          ∙ (append_assoc so_far (n ∷ []) (made after)
          ∙ (ap (λ x. so_far ++ x ∷ made after) own
          ∙ (sym (ap (λ l. so_far ++ l) (there ∙ ap (λ c. cond c (naming_in names (argument_in s) ∷ made after) (made after)) holds)) ∙ is_so)))

    pub all_made : (so_far : List Naming) (left : Forest Source) (whole : List Naming) → left ≡ end → so_far ++ made left ≡ whole → so_far ≡ whole
    all_made so_far left whole ended is_so = sym (ap (λ f. so_far ++ made f) ended ∙ append-nil so_far) ∙ is_so

-- all are kept where nothing is asked
pub nothing_left_out : (k : Keyword) (f : Forest Source) → true ≡ are_kept all_names k f
nothing_left_out k end = refl
nothing_left_out k (node s below after) = by (is_source_of k s) (nothing_left_out k after)
  where
    by : (given : Bool) → true ≡ are_kept all_names k after → true ≡ cond given (are_kept all_names k after) (are_kept all_names k after)
    by true rest = rest
    by false rest = rest

-- ---- types

texts_same : (kept : Keeping) (k : Keyword) (f : Forest Source) → are_kept kept k f ≡ true → names_kept kept k f ≡ names_kept all_names k f
texts_same kept k end all = refl
texts_same kept k (node s below after) all = by (is_source_of k s) (keeps kept below) all (texts_same kept k after)
  where
    by : (given own : Bool) → cond given (own && are_kept kept k after) (are_kept kept k after) ≡ true
        → (are_kept kept k after ≡ true → names_kept kept k after ≡ names_kept all_names k after)
        → cond (given && own) (argument_in s ∷ names_kept kept k after) (names_kept kept k after)
        ≡ cond (given && true) (argument_in s ∷ names_kept all_names k after) (names_kept all_names k after)
    by true true all rest = ap (λ (l : List Text). argument_in s ∷ l) (rest all)
    by true false all rest = absurd cc
    by false own all rest = rest all

module _ (base : List Assigned → Base) (names : List Naming → Option (List Assigned)) where
  some_names : (ns : List Naming) → false ≡ (length ns == 0) → of_names base names ns ≡ option_map (λ given. plain (base given)) (names ns)
  some_names [] some = absurd cc
  some_names (n ∷ ns) some = refl

module _ (kept : Keeping) (kind : NamingKind) (f : Forest Source) where
  abbrev stated : List Naming
  stated = namings (naming_word kind) (number_by kind) f

  abbrev kept_among : List Text → List Assigned → Base
  kept_among texts given = base_of kind (filter (is_kept texts) given)

  -- where all are kept
  all_types : (kind : NamingKind) → of_names (λ given. base_of kind (filter (is_kept (names_kept all_names (naming_word kind) f)) given)) (names_by kind)
      (namings (naming_word kind) (number_by kind) f) ≡ of_names (base_of kind) (names_by kind) (namings (naming_word kind) (number_by kind) f)
  all_types Enum = single_alike enumeration f
  all_types Bit = single_alike bits f

  pub all_named : (ns : List Naming) → ns ≡ stated → false ≡ (length ns == 0) → true ≡ are_kept kept (naming_word kind) f
      → option_map (λ given. plain (base_of kind given)) (names_by kind ns) ≡ type_kept kept kind f
  all_named ns are some all =
      sym (some_names (base_of kind) (names_by kind) ns some)
      ∙ (ap (of_names (base_of kind) (names_by kind)) are
      ∙ (sym (all_types kind)
      ∙ sym (ap (λ texts. of_names (kept_among texts) (names_by kind) stated) (texts_same kept (naming_word kind) f (sym all)))))

  -- where some are
  names_given : (kind : NamingKind) (given : List Assigned) → names_by kind (namings (naming_word kind) (number_by kind) f) ≡ Some given
      → names_by kind (map (naming_in given) (names_kept kept (naming_word kind) f)) ≡ Some (filter (is_kept (names_kept kept (naming_word kind) f)) given)
  names_given Bit given e = kept_assigned bit_positions given bit_word position_stated kept f e
  names_given Enum given e = by (are_enum_names (namings enum_word value_stated f)) refl e
    where
      by : (b : Bool) → are_enum_names (namings enum_word value_stated f) ≡ b
          → cond b (assigned_from enum_numbers [] (namings enum_word value_stated f)) None ≡ Some given
          → enum_names (map (naming_in given) (names_kept kept enum_word f)) ≡ Some (filter (is_kept (names_kept kept enum_word f)) given)
      by true is e = ap (λ c. cond c (assigned_from enum_numbers [] (map (naming_in given) (names_kept kept enum_word f))) None)
          (kept_enum_names enum_numbers given enum_word value_stated kept f is) ∙ kept_assigned enum_numbers given enum_word value_stated kept f e
      by false is e = absurd cc

  pub some_named : (ns made : List Naming) (given : List Assigned) → ns ≡ stated → false ≡ (length ns == 0) → Some given ≡ names_by kind ns
      → made ≡ map (naming_in given) (names_kept kept (naming_word kind) f)
      → option_map (λ given. plain (base_of kind given)) (names_by kind made) ≡ type_kept kept kind f
  some_named ns made given are some is made_so =
      let own = sym is in
      ap (λ l. option_map (λ given. plain (base_of kind given)) (names_by kind l)) made_so
      ∙ (ap (option_map (λ given. plain (base_of kind given))) (names_given kind given (sym (ap (names_by kind) are) ∙ own))
      ∙ (ap (option_map (λ given. plain (kept_among (names_kept kept (naming_word kind) f) given))) is
      ∙ (sym (some_names (kept_among (names_kept kept (naming_word kind) f)) (names_by kind) ns some)
      ∙ ap (of_names (kept_among (names_kept kept (naming_word kind) f)) (names_by kind)) are)))
