-- The identities of a set, from the rows of its statements.
use Rattle.std.proofs.Common.{◌≡◌, ℕ, zero, suc, ◌+◌, ◌<◌, ◌&&◌, ℤ, pos, Bool, true, false, cond, List, [], ◌∷◌, ◌++◌, length, get_or, take, drop, map, filter, Option, Some, None, refl, sym, ap, ap₂, ◌∙◌, arith, subst}
use mathlib.Core.Path.{fun_ext}
use Rattle.std.specs.Prelude.{int_lt, option_map, unwrap_or, slice_get, slice_set}
use Rattle.std.specs.List.{flat_map, list_all, list_any}
use Rattle.std.specs.Ordering.{int_eq}
use Rattle.std.specs.Option.{option_map_or}
use Rattle.std.specs.BTreeSet.{BTreeSet}
use Rattle.std.specs.declared.alloc.Global.{Global}
use Rattle.std.specs.declared.rc.Rc.{Rc}
use Rattle.std.specs.declared.string.String.{String}
use Rattle.std.proofs.lemmas.Grind.{flat_map-append}
use Rattle.std.proofs.lemmas.List.{append_assoc, append-nil, drop_more, length-map, map-append}
use Rattle.std.proofs.lemmas.List.Folds.{list_all-append}
use Rattle.std.proofs.lemmas.Option.{slice_get-map}
use Rattle.yspec.specs.Forest.{Forest, end, node, row, preorder}
use Rattle.yspec.specs.text.Text.{Text}
use Rattle.yspec.specs.types.Identities.{identity_name}
use Rattle.yspec.specs.types.Names.{Assigned}
use Rattle.yspec.specs.linking.Circles.{definition_edges}
use Rattle.yspec.specs.linking.Graph.{Edge}
use Rattle.yspec.specs.linking.Identities.{assigned_identity, identities_of, is_identity, module_name}
use Rattle.yspec.specs.linking.Keyword.{identity_word, type_word}
use Rattle.yspec.specs.linking.Scopes.{Placed, placed}
use Rattle.yspec.specs.linking.Source.{Source, is_source_of, argument_in}
use Rattle.yspec_wide.specs.Types.{keeps, Keeping, numbers_kept}
use Rattle.ybase_graph.specs.Derivation.{derives}
use Rattle.ybase_preorder.specs.Layout.{numbered_by, labels_by, forest_of}
use Rattle.ybase_preorder.specs.declared.slot.Slot.{Slot}
use Rattle.ybase_preorder.proofs.LabelLemmas.{preorder_by}
use Rattle.ylink_grammar.specs.declared.source.Source as held
use Rattle.ylink_grammar.specs.SourceView.{source_view}
use Rattle.ylink_types.specs.DerivedView.{base_by, type_bases, Ascend, derived_among, set_at, AreSets}
use Rattle.ylink_types.specs.IdentityView.{home_view, listed, listed_in, identity_view, is_kept, number_of, name_among, assigned_by}
use Rattle.ylink_types.specs.declared.identities.Identity.{Identity}
use Rattle.ylink_types.proofs.NumberLemmas.{ascend_from, ascend_before, both_kept, kept_ascend}

abbrev Listed : Type 0
Listed = ℕ × ℕ × Text × Bool

-- ---- statements of a row, one after another

module _ (kept : Keeping) where
  pub next_listed : (s : Source) (below after before : Forest Source) → before ≡ node s below after
      → (so_far mid more whole : List Listed) → mid ≡ so_far ++ listed kept s below → more ≡ mid ++ listed_in kept below
      → so_far ++ listed_in kept before ≡ whole → more ++ listed_in kept after ≡ whole
  unfolding listed_in
  next_listed s below after before first so_far mid more whole own under made =
      let inner = listed_in kept below in
      let rest = listed_in kept after in
      ap (λ l. l ++ rest) (under ∙ ap (λ l. l ++ inner) own)
      ∙ (append_assoc (so_far ++ listed kept s below) inner rest
      ∙ (append_assoc so_far (listed kept s below) (inner ++ rest)
      ∙ (sym (ap (λ f. so_far ++ listed_in kept f) first) ∙ made)))

  pub all_listed : (left : Forest Source) (so_far whole : List Listed) → left ≡ end
      → so_far ++ listed_in kept left ≡ whole → so_far ≡ whole
  unfolding listed_in
  all_listed left so_far whole ended made = sym (ap (λ f. so_far ++ listed_in kept f) ended ∙ append-nil so_far) ∙ made

-- ---- bases of types, one statement after another

module _ (named : ℕ → Option ℕ) (in_type : Bool) where
  pub next_bases : (s : Source) (below after before : Forest Source) → before ≡ node s below after
      → (so_far mid more whole : List ℕ) → mid ≡ so_far ++ base_by named in_type s → more ≡ mid ++ type_bases named (is_source_of type_word s) below
      → so_far ++ type_bases named in_type before ≡ whole → more ++ type_bases named in_type after ≡ whole
  unfolding type_bases
  next_bases s below after before first so_far mid more whole own under made =
      let inner = type_bases named (is_source_of type_word s) below in
      let rest = type_bases named in_type after in
      ap (λ l. l ++ rest) (under ∙ ap (λ l. l ++ inner) own)
      ∙ (append_assoc (so_far ++ base_by named in_type s) inner rest
      ∙ (append_assoc so_far (base_by named in_type s) (inner ++ rest)
      ∙ (sym (ap (λ f. so_far ++ type_bases named in_type f) first) ∙ made)))

  pub all_bases : (left : Forest Source) (so_far whole : List ℕ) → left ≡ end
      → so_far ++ type_bases named in_type left ≡ whole → so_far ≡ whole
  unfolding type_bases
  all_bases left so_far whole ended made = sym (ap (λ f. so_far ++ type_bases named in_type f) ended ∙ append-nil so_far) ∙ made

-- ---- what is listed of a set

abbrev listed_number : Listed → ℕ
listed_number l = l.0

abbrev listed_kept : Listed → Bool
listed_kept l = l.3

filter_append : {A : Type 0} (p : A → Bool) (xs ys : List A) → filter p (xs ++ ys) ≡ filter p xs ++ filter p ys
filter_append p [] ys = refl
filter_append {A} p (x ∷ xs) ys = by (p x) (filter_append p xs ys)
  where
    by : (b : Bool) → filter p (xs ++ ys) ≡ filter p xs ++ filter p ys
        → cond b (x ∷ filter p (xs ++ ys)) (filter p (xs ++ ys)) ≡ cond b (x ∷ filter p xs) (filter p xs) ++ filter p ys
    by true rest = ap (λ (l : List A). x ∷ l) rest
    by false rest = rest

-- the number of an identity
abbrev own_number : Source → List ℕ
own_number s = cond (is_source_of identity_word s) (s.number ∷ []) []

module _ (kept : Keeping) where
  abbrev listed_by : Placed → Listed
  listed_by p = (p.source.number, p.source.home, argument_in p.source, keeps kept p.below)

  listed_among : (ancestors : List (Source × Forest Source)) (f : Forest Source) → listed_in kept f ≡ map listed_by (filter is_identity (placed ancestors f))
  unfolding placed listed_in
  listed_among ancestors end = refl
  listed_among ancestors (node s below after) = by (is_source_of identity_word s)
      (ap₂ (λ (a b : List Listed). a ++ b) (listed_among ((s, below) ∷ ancestors) below) (listed_among ancestors after)
      ∙ (sym (map-append listed_by (filter is_identity inner) (filter is_identity behind))
      ∙ ap (map listed_by) (sym (filter_append is_identity inner behind))))
    where
      inner : List Placed
      inner = placed ((s, below) ∷ ancestors) below

      behind : List Placed
      behind = placed ancestors after

      by : (b : Bool) → listed_in kept below ++ listed_in kept after ≡ map listed_by (filter is_identity (inner ++ behind))
          → cond b ((s.number, s.home, argument_in s, keeps kept below) ∷ []) [] ++ (listed_in kept below ++ listed_in kept after)
          ≡ map listed_by (cond b (record { source = s; below = below; ancestors = ancestors } ∷ filter is_identity (inner ++ behind)) (filter is_identity (inner ++ behind)))
      by true rest = ap (λ (l : List Listed). (s.number, s.home, argument_in s, keeps kept below) ∷ l) rest
      by false rest = rest

  all_of_set : (set : Forest Source) → listed_in kept set ≡ map listed_by (identities_of set)
  all_of_set set = listed_among [] set

  -- their numbers alone
  numbers_in : (f : Forest Source) → map listed_number (listed_in kept f) ≡ flat_map own_number (preorder f)
  unfolding listed_in
  numbers_in end = refl
  numbers_in (node s below after) =
      map-append listed_number (listed kept s below) (listed_in kept below ++ listed_in kept after)
      ∙ ap₂ (λ (a b : List ℕ). a ++ b) (by (is_source_of identity_word s))
      (map-append listed_number (listed_in kept below) (listed_in kept after)
      ∙ (ap₂ (λ (a b : List ℕ). a ++ b) (numbers_in below) (numbers_in after)
      ∙ sym (flat_map-append own_number (preorder below) (preorder after))))
    where
      by : (b : Bool) → map listed_number (cond b ((s.number, s.home, argument_in s, keeps kept below) ∷ []) []) ≡ cond b (s.number ∷ []) []
      by true = refl
      by false = refl

map_twice : {A B C : Type 0} (f : B → C) (g : A → B) (xs : List A) → map f (map g xs) ≡ map (λ x. f (g x)) xs
map_twice f g [] = refl
map_twice {A} {B} {C} f g (x ∷ xs) = ap (λ (l : List C). f (g x) ∷ l) (map_twice f g xs)

map_kept : {A B C : Type 0} (f : B → C) (p : B → Bool) (g : A → B) (xs : List A) → map f (filter p (map g xs)) ≡ map (λ x. f (g x)) (filter (λ x. p (g x)) xs)
map_kept f p g [] = refl
map_kept {A} {B} {C} f p g (x ∷ xs) = by (p (g x)) (map_kept f p g xs)
  where
    by : (b : Bool) → map f (filter p (map g xs)) ≡ map (λ x. f (g x)) (filter (λ x. p (g x)) xs)
        → map f (cond b (g x ∷ filter p (map g xs)) (filter p (map g xs))) ≡ map (λ x. f (g x)) (cond b (x ∷ filter (λ x. p (g x)) xs) (filter (λ x. p (g x)) xs))
    by true rest = ap (λ (l : List C). f (g x) ∷ l) rest
    by false rest = rest

abbrev assigned_of : List Text → Listed → Assigned
assigned_of names l = record { name = identity_name (name_among names l.1) l.2; number = pos l.0 }

module _ (set : Forest Source) where
  named_so : (n : ℕ) → name_among (map argument_in (row set)) n ≡ module_name set n
  named_so n = ap (λ o. unwrap_or o []) (slice_get-map argument_in (row set) n) ∙ by (slice_get (row set) n)
    where
      by : (o : Option Source) → unwrap_or (option_map argument_in o) [] ≡ option_map_or argument_in o []
      by None = refl
      by (Some s) = refl

module _ (kept : Keeping) (set : Forest Source) where
  assigned_so : (ps : List Placed) → map (λ p. assigned_of (map argument_in (row set)) (listed_by kept p)) ps ≡ map (assigned_identity set) ps
  assigned_so [] = refl
  assigned_so (p ∷ ps) =
      ap₂ (λ (name : Text) (l : List Assigned). record { name = identity_name name (argument_in p.source); number = pos p.source.number } ∷ l)
      (named_so set p.source.home) (assigned_so ps)

  module _ (made : List Identity) (is : map identity_view made ≡ listed_in kept set) where
    pub numbers_listed : map number_of (filter is_kept made) ≡ map (λ (p : Placed). p.source.number) (filter (λ (p : Placed). keeps kept p.below) (identities_of set))
    numbers_listed =
        sym (map_kept listed_number listed_kept identity_view made)
        ∙ (ap (λ l. map listed_number (filter listed_kept l)) (is ∙ all_of_set kept set) ∙ map_kept listed_number listed_kept (listed_by kept) (identities_of set))

    pub names_listed : (names : List Text) → names ≡ map argument_in (row set) → map (assigned_by names) made ≡ map (assigned_identity set) (identities_of set)
    names_listed names homes =
        ap (λ ns. map (assigned_by ns) made) homes
        ∙ (sym (map_twice (assigned_of (map argument_in (row set))) identity_view made)
        ∙ (ap (map (assigned_of (map argument_in (row set)))) (is ∙ all_of_set kept set)
        ∙ (map_twice (assigned_of (map argument_in (row set))) (listed_by kept) (identities_of set) ∙ assigned_so (identities_of set))))

-- the name of a module that is held
pub module_named : (set : Forest Source) (names : List Text) (n : ℕ) → names ≡ map argument_in (row set) → name_among names n ≡ module_name set n
module_named set names n homes = ap (λ ns. name_among ns n) homes ∙ named_so set n

module _ (set : Forest Source) (homes : List (Rc (String Global) Global)) (are : map home_view homes ≡ map argument_in (row set)) (n : ℕ) where
  pub home_named : (o : Option (Rc (String Global) Global)) → o ≡ slice_get homes n → unwrap_or (option_map home_view o) [] ≡ module_name set n
  home_named o held =
      ap (λ h. unwrap_or (option_map home_view h) []) held
      ∙ (sym (ap (λ t. unwrap_or t []) (slice_get-map home_view homes n)) ∙ module_named set (map home_view homes) n are)

-- ---- their numbers ascend

ascend_listed : (k : ℕ) (slots : List (Slot held.Source)) → Ascend k (flat_map own_number (labels_by source_view k slots))
ascend_listed k [] = tt
ascend_listed k (r ∷ slots) = by (is_source_of identity_word (source_view k r.label)) (ascend_listed (k + 1) slots)
  where
    others : List ℕ
    others = flat_map own_number (labels_by source_view (k + 1) slots)

    by : (b : Bool) → Ascend (k + 1) others → Ascend k (cond b (k ∷ []) [] ++ others)
    by true rest = (omega arith, ascend_from (k + 1) (suc k) others (omega arith) rest)
    by false rest = ascend_from (k + 1) k others (omega arith) rest

pub numbers_ascend : (kept : Keeping) (slots : List (Slot held.Source)) (made : List Identity)
    → map identity_view made ≡ listed_in kept (numbered_by source_view 0 (forest_of slots)) → Ascend 0 (map number_of made)
numbers_ascend kept slots made is =
    subst (Ascend 0) (sym (sym (map_twice listed_number identity_view made)
    ∙ (ap (map listed_number) is ∙ (numbers_in kept (numbered_by source_view 0 (forest_of slots))
    ∙ ap (flat_map own_number) (preorder_by source_view slots))))) (ascend_listed 0 slots)

-- and those of some
pub some_ascend : (low : ℕ) (made : List Identity) → Ascend low (map number_of made) → Ascend low (map number_of (filter is_kept made))
some_ascend low [] all = tt
some_ascend low (i ∷ made) all = by i.is_kept (some_ascend (suc i.number) made all.1)
  where
    by : (b : Bool) → Ascend (suc i.number) (map number_of (filter is_kept made)) → Ascend low (map number_of (cond b (i ∷ filter is_kept made) (filter is_kept made)))
    by true rest = (all.0, rest)
    by false rest = ascend_from (suc i.number) low (map number_of (filter is_kept made)) (let a = all.0 in omega (arith, a)) rest

-- the number of one more of those that are kept
pub next_number : (identities : List Identity) (i : ℕ) (d : Identity) (so_far after whole : List ℕ) → i < length identities
    → after ≡ so_far ++ cond (is_kept (get_or identities i d)) (number_of (get_or identities i d) ∷ []) []
    → so_far ++ map number_of (filter is_kept (drop i identities)) ≡ whole → after ++ map number_of (filter is_kept (drop (i + 1) identities)) ≡ whole
next_number identities i d so_far after whole within added made =
    ap (λ l. l ++ map number_of (filter is_kept rest)) added
    ∙ (append_assoc so_far (cond (is_kept x) (number_of x ∷ []) []) (map number_of (filter is_kept rest))
    ∙ (ap (λ l. so_far ++ l) (by (is_kept x))
    ∙ (sym (ap (λ l. so_far ++ map number_of (filter is_kept l)) (drop_more identities i d within)) ∙ made)))
  where
    x : Identity
    x = get_or identities i d

    rest : List Identity
    rest = drop (i + 1) identities

    by : (b : Bool) → cond b (number_of x ∷ []) [] ++ map number_of (filter is_kept rest) ≡ map number_of (cond b (x ∷ filter is_kept rest) (filter is_kept rest))
    by true = refl
    by false = refl

-- ---- derivation

module _ (kept : Keeping) (set : Forest Source) (numbers : List ℕ)
    (are : numbers ≡ map (λ (p : Placed). p.source.number) (filter (λ (p : Placed). keeps kept p.below) (identities_of set))) where
  kept_by : (q : ℕ → Bool) (ps : List Placed) → map (λ (p : Placed). pos p.source.number) (filter (λ (p : Placed). keeps kept p.below && q p.source.number) ps)
      ≡ map pos (filter q (map (λ (p : Placed). p.source.number) (filter (λ (p : Placed). keeps kept p.below) ps)))
  kept_by q [] = refl
  kept_by q (p ∷ ps) = by (keeps kept p.below) (q p.source.number) refl (kept_by q ps)
    where
      both : List Placed
      both = filter (λ (p : Placed). keeps kept p.below && q p.source.number) ps

      first : List ℕ
      first = map (λ (p : Placed). p.source.number) (filter (λ (p : Placed). keeps kept p.below) ps)

      by : (b c : Bool) → q p.source.number ≡ c → map (λ (p : Placed). pos p.source.number) both ≡ map pos (filter q first)
          → map (λ (p : Placed). pos p.source.number) (cond (b && q p.source.number) (p ∷ both) both)
          ≡ map pos (filter q (map (λ (p : Placed). p.source.number) (cond b (p ∷ filter (λ (p : Placed). keeps kept p.below) ps) (filter (λ (p : Placed). keeps kept p.below) ps))))
      by true true is rest = ap (λ c. map (λ (p : Placed). pos p.source.number) (cond c (p ∷ both) both)) is
          ∙ (ap (λ (l : List ℤ). pos p.source.number ∷ l) rest
          ∙ sym (ap (λ c. map pos (cond c (p.source.number ∷ filter q first) (filter q first))) is))
      by true false is rest = ap (λ c. map (λ (p : Placed). pos p.source.number) (cond c (p ∷ both) both)) is
          ∙ (rest ∙ sym (ap (λ c. map pos (cond c (p.source.number ∷ filter q first) (filter q first))) is))
      by false c is rest = rest

  pub derived_so : (bases : List ℕ) → derived_among (definition_edges set) numbers bases ≡ numbers_kept kept set bases
  derived_so bases =
      ap (λ ns. derived_among (definition_edges set) ns bases) are
      ∙ sym (kept_by (λ n. list_all (derives (definition_edges set) n) bases) (identities_of set))

module _ (edges : List Edge) (numbers : List ℕ) where
  and_true : (b : Bool) → (b && true) ≡ b
  and_true true = refl
  and_true false = refl

  pub marked_so : (marked : ℕ → Bool) (base : ℕ) → ((n : ℕ) → marked n ≡ derives edges n base)
      → map pos (filter marked numbers) ≡ derived_among edges numbers (base ∷ [])
  marked_so marked base are = ap (λ (test : ℕ → Bool). map pos (filter test numbers)) (fun_ext (λ n. are n ∙ sym (and_true (derives edges n base))))

  -- those that derive from one more
  one_more : (bases : List ℕ) (base : ℕ) (other : List ℤ) → other ≡ derived_among edges numbers (base ∷ [])
      → filter (λ n. list_any (int_eq (pos n)) other) (filter (λ n. list_all (derives edges n) bases) numbers)
      ≡ filter (λ n. list_all (derives edges n) (bases ++ base ∷ [])) numbers
  one_more bases base other other_is =
      ap (λ (keys : List ℤ). filter (λ n. list_any (int_eq (pos n)) keys) (filter (λ n. list_all (derives edges n) bases) numbers)) other_is
      ∙ (both_kept (λ n. list_all (derives edges n) bases) (λ n. list_all (derives edges n) (base ∷ [])) numbers
      ∙ ap (λ (test : ℕ → Bool). filter test numbers) (fun_ext (λ n. sym (list_all-append (derives edges n) bases (base ∷ [])))))

all_numbers : (ns : List ℕ) → filter (λ n. true) ns ≡ ns
all_numbers [] = refl
all_numbers (n ∷ ns) = ap (λ (l : List ℕ). n ∷ l) (all_numbers ns)

-- the same of a set
module _ (kept : Keeping) (set : Forest Source) (numbers : List ℕ)
    (are : numbers ≡ map (λ (p : Placed). p.source.number) (filter (λ (p : Placed). keeps kept p.below) (identities_of set))) where
  abbrev pub derived_numbers : List ℕ → List ℕ
  derived_numbers bases = filter (λ n. list_all (derives (definition_edges set) n) bases) numbers

  pub next_kept : (bases : List ℕ) (base : ℕ) (more : List ℕ) (other : List ℤ) → more ≡ bases ++ base ∷ [] → other ≡ numbers_kept kept set (base ∷ [])
      → filter (λ n. list_any (int_eq (pos n)) other) (derived_numbers bases) ≡ derived_numbers more
  next_kept bases base more other more_is other_is =
      one_more (definition_edges set) numbers bases base other (other_is ∙ sym (derived_so kept set numbers are (base ∷ [])))
      ∙ ap derived_numbers (sym more_is)

  pub first_kept : (base : ℕ) (one : List ℤ) → one ≡ numbers_kept kept set (base ∷ [])
      → filter (λ n. list_any (int_eq (pos n)) one) numbers ≡ derived_numbers (base ∷ [])
  first_kept base one one_is =
      ap (λ (ns : List ℕ). filter (λ n. list_any (int_eq (pos n)) one) ns) (sym (all_numbers numbers)) ∙ next_kept [] base (base ∷ []) one refl one_is

  pub all_derived : (bases held : List ℕ) (keys : List ℤ) → Ascend 0 numbers → (Ascend 0 held → keys ≡ map pos held) → held ≡ derived_numbers bases
      → keys ≡ numbers_kept kept set bases
  all_derived bases held keys ascend put is =
      put (subst (Ascend 0) (sym is) (kept_ascend (λ n. list_all (derives (definition_edges set) n) bases) 0 numbers ascend))
      ∙ (ap (map pos) is ∙ derived_so kept set numbers are bases)

-- ---- sets by number

abbrev Held : Type 0
Held = Option (Rc (BTreeSet ℤ) Global)

pub none_more : (sets : List Held) → ((n : ℕ) → set_at sets n ≡ None) → (n : ℕ) → set_at (sets ++ None ∷ []) n ≡ None
none_more [] none zero = refl
none_more [] none (suc n) = refl
none_more (s ∷ sets) none zero = none zero
none_more (s ∷ sets) none (suc n) = none_more sets (λ m. none (suc m)) n

-- a set that is put at a number of some
pub sets_more : (edges : List Edge) (numbers : List ℕ) (sets after : List Held) (base : ℕ) (s : Rc (BTreeSet ℤ) Global)
    → s.value.keys ≡ derived_among edges numbers (base ∷ []) → after ≡ slice_set sets base (Some s) → AreSets sets edges numbers → AreSets after edges numbers
sets_more edges numbers sets after base s own is are n t held = at sets base n (own_number n) (are n) (sym (ap (λ l. set_at l n) is) ∙ held)
  where
    own_number : (n : ℕ) → base ≡ n → s.value.keys ≡ derived_among edges numbers (n ∷ [])
    own_number n e = own ∙ ap (λ b. derived_among edges numbers (b ∷ [])) e

    at : (xs : List Held) (k m : ℕ) → (k ≡ m → s.value.keys ≡ derived_among edges numbers (n ∷ []))
        → ((u : Rc (BTreeSet ℤ) Global) → set_at xs m ≡ Some u → u.value.keys ≡ derived_among edges numbers (n ∷ []))
        → set_at (slice_set xs k (Some s)) m ≡ Some t → t.value.keys ≡ derived_among edges numbers (n ∷ [])
    at [] k m own others held = others t held
    at (x ∷ xs) zero zero own others held = let same : s ≡ t = cc in ap (λ (u : Rc (BTreeSet ℤ) Global). u.value.keys) (sym same) ∙ own refl
    at (x ∷ xs) zero (suc m) own others held = others t held
    at (x ∷ xs) (suc k) zero own others held = others t held
    at (x ∷ xs) (suc k) (suc m) own others held = at xs k m (λ e. own (ap suc e)) others held

-- one identity more, by name
pub ascend_below : (names : List Text) (identities : List Identity) (i : ℕ) (e d : Identity) → Ascend 0 (map number_of identities) → i < length identities
    → e ≡ get_or identities i d → list_all (λ (a : Assigned). int_lt a.number (pos e.number)) (map (assigned_by names) (take i identities)) ≡ true
ascend_below names identities i e d ascend within is =
    ap (λ (k : Identity). list_all (λ (a : Assigned). int_lt a.number (pos k.number)) (map (assigned_by names) (take i identities))) is
    ∙ (numbers_all (pos (get_or identities i d).number) (take i identities)
    ∙ (ap (λ (ns : List ℕ). list_all (λ z. int_lt z (pos (get_or identities i d).number)) (map pos ns)) (sym (take-map number_of i identities))
    ∙ (ap (λ (k : ℕ). list_all (λ z. int_lt z (pos k)) (map pos (take i (map number_of identities)))) (sym (get_or-map number_of identities i d))
    ∙ ascend_before 0 (map number_of identities) i (number_of d) ascend (subst (λ n. i < n) (sym (length-map identities number_of)) within))))
  where
    numbers_all : (z : ℤ) (es : List Identity) → list_all (λ (a : Assigned). int_lt a.number z) (map (assigned_by names) es) ≡ list_all (λ y. int_lt y z) (map pos (map number_of es))
    numbers_all z [] = refl
    numbers_all z (k ∷ es) = ap (λ b. int_lt (pos k.number) z && b) (numbers_all z es)

    take-map : (f : Identity → ℕ) (k : ℕ) (es : List Identity) → take k (map f es) ≡ map f (take k es)
    take-map f zero es = refl
    take-map f (suc k) [] = refl
    take-map f (suc k) (x ∷ es) = ap (λ (l : List ℕ). f x ∷ l) (take-map f k es)

    get_or-map : (f : Identity → ℕ) (es : List Identity) (k : ℕ) (d : Identity) → get_or (map f es) k (f d) ≡ f (get_or es k d)
    get_or-map f [] k d = refl
    get_or-map f (x ∷ es) zero d = refl
    get_or-map f (x ∷ es) (suc k) d = get_or-map f es k d
