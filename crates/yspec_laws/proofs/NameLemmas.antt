-- Where no name is taken, one definition of each name stands around a statement.
use Rattle.std.proofs.Common.{◌≡◌, zero, suc, Bool, true, false, cond, not, List, [], ◌∷◌, ◌++◌, Option, Some, refl, sym, ap, ap₂, ◌∙◌, subst, arith}
use Rattle.std.specs.Prelude.{⊤, ◌==◌, ◌&&◌, ◌||◌, find, reverse}
use Rattle.std.specs.List.{Contains, flat_map}
use Rattle.std.specs.Option.{option_map_or}
use Rattle.std.proofs.lemmas.Bool.{and_parts, false≢true}
use Rattle.std.proofs.lemmas.Bool.Decides.{Decides-eqb}
use Rattle.std.proofs.lemmas.List.Elements.{Contains-append_left, Contains-append_right, Contains-append_cases}
use Rattle.std.proofs.lemmas.Grind.{flat_map-append}
use Rattle.std.proofs.lemmas.List.{append-nil, reverse-append}
use Rattle.std.proofs.lemmas.Slice.Eq.{bytes_eq-Decides}
use mathlib.Core.Logic.{⊎_elim}
use Rattle.yspec.specs.Forest.{Forest, end, node, row}
use Rattle.yspec.specs.text.Text.{Text, is_text}
use Rattle.yspec.specs.linking.Keyword.{Keyword, same_keyword, grouping_word, identity_word, typedef_word}
use Rattle.yspec.specs.linking.Source.{Source, is_source_of, argument_in}
use Rattle.yspec.specs.linking.Scopes.{Placed, placed, around, defines, holder, is_built_in, is_definition, is_taken, statements_of, taken_break, taken_breaks}
use Rattle.yspec.proofs.LinkingProofs.BreakLemmas.{none_first, none_second, unbroken}
use Rattle.yspec.proofs.LinkingProofs.KeywordLemmas.{same_is}

-- ---- statements that stand around one stand in the set

module _ (all : List Placed) where
  -- each statement of the rows of some ancestors is one of these, below the ancestors from there on
  abbrev AreAmong : List (Source × Forest Source) → Type 0
  AreAmong [] = ⊤
  AreAmong (x ∷ rest) = ((s : Source) → Contains (row x.1) s → (q : Placed) × Contains all q × (q.source ≡ s) × (q.ancestors ≡ x ∷ rest)) × AreAmong rest

  of_row : (ancestors : List (Source × Forest Source)) (f : Forest Source) → ((q : Placed) → Contains (placed ancestors f) q → Contains all q)
      → (s : Source) → Contains (row f) s → (q : Placed) × Contains all q × (q.source ≡ s) × (q.ancestors ≡ ancestors)
  unfolding placed
  of_row ancestors end inside s at = absurd (let within = at.1 in omega (arith, within))
  of_row ancestors (node l below after) inside s (zero, within, is) =
      (record { source = l; below = below; ancestors = ancestors }, inside _ (0, omega arith, refl), is, refl)
  of_row ancestors (node l below after) inside s (suc k, within, is) =
      of_row ancestors after (λ q at. inside q (behind q (Contains-append_right (placed ((l, below) ∷ ancestors) below) (placed ancestors after) q at)))
      s (k, omega (arith, within), is)
    where
      behind : (q : Placed) → Contains (placed ((l, below) ∷ ancestors) below ++ placed ancestors after) q
          → Contains (record { source = l; below = below; ancestors = ancestors } ∷ (placed ((l, below) ∷ ancestors) below ++ placed ancestors after)) q
      behind q at = let low = at.1 in (suc at.0, omega (arith, low), at.2)

  of_placed : (ancestors : List (Source × Forest Source)) (f : Forest Source) → ((q : Placed) → Contains (placed ancestors f) q → Contains all q)
      → AreAmong ancestors → (p : Placed) → Contains (placed ancestors f) p → AreAmong p.ancestors
  unfolding placed
  of_placed ancestors end inside among p at = absurd (let within = at.1 in omega (arith, within))
  of_placed ancestors (node l below after) inside among p (zero, within, is) = subst (λ (q : Placed). AreAmong q.ancestors) is among
  of_placed ancestors (node l below after) inside among p (suc k, within, is) = ⊎_elim
      (λ at. of_placed ((l, below) ∷ ancestors) below under (of_row ((l, below) ∷ ancestors) below under, among) p at)
      (λ at. of_placed ancestors after (λ q there. inside q (later q (Contains-append_right (placed ((l, below) ∷ ancestors) below) (placed ancestors after) q there))) among p at)
      (Contains-append_cases (placed ((l, below) ∷ ancestors) below) (placed ancestors after) p (k, omega (arith, within), is))
    where
      later : (q : Placed) → Contains (placed ((l, below) ∷ ancestors) below ++ placed ancestors after) q
          → Contains (record { source = l; below = below; ancestors = ancestors } ∷ (placed ((l, below) ∷ ancestors) below ++ placed ancestors after)) q
      later q at = let low = at.1 in (suc at.0, omega (arith, low), at.2)

      under : (q : Placed) → Contains (placed ((l, below) ∷ ancestors) below) q → Contains all q
      under q there = inside q (later q (Contains-append_left (placed ((l, below) ∷ ancestors) below) (placed ancestors after) q there))

-- ---- none is taken

no_break : (p : Placed) (ps : List Placed) → flat_map taken_break ps ≡ [] → Contains ps p → is_taken p ≡ false
no_break p [] none at = absurd (let within = at.1 in omega (arith, within))
no_break p (q ∷ ps) none (zero, within, is) =
    subst (λ (r : Placed). is_taken r ≡ false) is
    (unbroken (is_taken q) 7 q.source.home q.source.statement.line (none_first (taken_break q) (flat_map taken_break ps) none))
no_break p (q ∷ ps) none (suc k, within, is) = no_break p ps (none_second (taken_break q) (flat_map taken_break ps) none) (k, omega (arith, within), is)

-- the first definition of its name around a definition that isn't taken is itself
held_by_itself : (p : Placed) → is_definition p.source ≡ true → is_taken p ≡ false → (h : Source) → holder p ≡ Some h → h.number ≡ p.source.number
held_by_itself p definition free h held = by (h.number == p.source.number) refl
  where
    other : (b : Bool) → (h.number == p.source.number) ≡ b → (not b || (is_source_of typedef_word p.source && is_built_in (argument_in p.source))) ≡ false → b ≡ true
    other true is none = refl
    other false is none = absurd (false≢true (sym none))

    by : (b : Bool) → (h.number == p.source.number) ≡ b → h.number ≡ p.source.number
    by true same = (Decides-eqb h.number p.source.number).0 same
    by false differs = absurd (false≢true (sym free ∙ (ap₂ (λ d o. d && (option_map_or (λ (x : Source). not (x.number == p.source.number)) o false
        || (is_source_of typedef_word p.source && is_built_in (argument_in p.source)))) definition held
        ∙ ap (λ b. not b || (is_source_of typedef_word p.source && is_built_in (argument_in p.source))) differs)))

-- ---- what is found first

module _ {A : Type 0} (test : A → Bool) where
  found_first : (xs ys : List A) (h : A) → find test xs ≡ Some h → find test (xs ++ ys) ≡ Some h
  found_first [] ys h e = absurd cc
  found_first (x ∷ xs) ys h e = by (test x) e (found_first xs ys h)
    where
      by : (b : Bool) → cond b (Some x) (find test xs) ≡ Some h → (find test xs ≡ Some h → find test (xs ++ ys) ≡ Some h)
          → cond b (Some x) (find test (xs ++ ys)) ≡ Some h
      by true e rest = e
      by false e rest = rest e

  found_some : (xs : List A) (x : A) → Contains xs x → test x ≡ true → (h : A) × (find test xs ≡ Some h)
  found_some [] x at is = absurd (let within = at.1 in omega (arith, within))
  found_some (y ∷ ys) x (zero, within, same) is = (y, ap (λ b. cond b (Some y) (find test ys)) (ap test same ∙ is))
  found_some (y ∷ ys) x (suc k, within, same) is = by (test y) (found_some ys x (k, omega (arith, within), same) is)
    where
      by : (b : Bool) → (h : A) × (find test ys ≡ Some h) → (h : A) × (cond b (Some y) (find test ys) ≡ Some h)
      by true rest = (y, refl)
      by false rest = rest

-- ---- all of a name are one

around_more : (x : Source × Forest Source) (rest : List (Source × Forest Source)) → around (reverse (x ∷ rest)) ≡ around (reverse rest) ++ row x.1
around_more x rest = ap around (reverse-append (x ∷ []) rest)
    ∙ (flat_map-append (λ (a : Source × Forest Source). row a.1) (reverse rest) (x ∷ []) ∙ ap (λ l. around (reverse rest) ++ l) (append-nil (row x.1)))

kind_of : (kind : Keyword) (name : Text) (a : Source) → defines kind name a ≡ true → kind ≡ a.keyword
kind_of kind name a is = same_is kind a.keyword (and_parts (is_source_of kind a) (is_text (argument_in a) name) is).0

-- a definition of a name has its own keyword and argument
same_test : (kind : Keyword) (name : Text) (a : Source) → defines kind name a ≡ true → find (defines a.keyword (argument_in a)) ≡ find (defines kind name)
same_test kind name a is =
    let parts = and_parts (is_source_of kind a) (is_text (argument_in a) name) is in
    ap₂ (λ k t. find (defines k t)) (sym (same_is kind a.keyword parts.0)) ((bytes_eq-Decides (argument_in a) name).0 parts.1)

module _ (all : List Placed) (none : flat_map taken_break all ≡ []) (kind : Keyword) (name : Text) where
  -- each has the number of the first of them
  each_first : (ancestors : List (Source × Forest Source)) → AreAmong all ancestors → (a : Source) → Contains (around ancestors) a → defines kind name a ≡ true
      → is_definition a ≡ true → (h : Source) × (find (defines kind name) (around (reverse ancestors)) ≡ Some h) × (h.number ≡ a.number)
  each_first [] among a at is definition = absurd (let within = at.1 in omega (arith, within))
  each_first (x ∷ rest) among a at is definition =
      ⊎_elim own (λ there. above (each_first rest among.1 a there is definition)) (Contains-append_cases (row x.1) (around rest) a at)
    where
      whole : List Source
      whole = around (reverse rest) ++ row x.1

      above : (h : Source) × (find (defines kind name) (around (reverse rest)) ≡ Some h) × (h.number ≡ a.number)
          → (h : Source) × (find (defines kind name) (around (reverse (x ∷ rest))) ≡ Some h) × (h.number ≡ a.number)
      above found =
          (found.0, ap (find (defines kind name)) (around_more x rest) ∙ found_first (defines kind name) (around (reverse rest)) (row x.1) found.0 found.1, found.2)

      own : Contains (row x.1) a → (h : Source) × (find (defines kind name) (around (reverse (x ∷ rest))) ≡ Some h) × (h.number ≡ a.number)
      own at =
          let q = among.0 a at in
          let placed_there = q.1 in
          let found = found_some (defines kind name) whole a (Contains-append_right (around (reverse rest)) (row x.1) a at) is in
          let first = ap (find (defines kind name)) (around_more x rest) ∙ found.1 in
          let free = no_break q.0 all none placed_there in
          let held = ap₂ (λ (s : Source) (l : List (Source × Forest Source)). find (defines s.keyword (argument_in s)) (around (reverse l))) q.2 q.3
          ∙ (ap (λ look. look (around (reverse (x ∷ rest)))) (same_test kind name a is) ∙ first) in
          (found.0, first, held_by_itself q.0 (ap is_definition q.2 ∙ definition) free found.0 held ∙ ap (λ (s : Source). s.number) q.2)

pub meaning_once : (modules : Forest Source) (kind : Keyword) (name : Text) (p : Placed) (a b : Source) → taken_breaks modules ≡ []
    → Contains (statements_of modules) p → Contains (around p.ancestors) a → Contains (around p.ancestors) b
    → defines kind name a ≡ true → defines kind name b ≡ true → is_definition a ≡ true → a.number ≡ b.number
meaning_once modules kind name p a b none at in_a in_b is_a is_b def_a =
    let all = statements_of modules in
    let among = of_placed all [] modules (λ q there. there) tt p at in
    let one = each_first all none kind name p.ancestors among a in_a is_a def_a in
    let word = sym (kind_of kind name b is_b) ∙ kind_of kind name a is_a in
    let def_b = ap (λ k. same_keyword typedef_word k || (same_keyword grouping_word k || same_keyword identity_word k)) word ∙ def_a in
    let two = each_first all none kind name p.ancestors among b in_b is_b def_b in
    let same : Some one.0 ≡ Some two.0 = sym one.1 ∙ two.1 in
    sym one.2 ∙ (ap (λ (o : Option Source). option_map_or (λ s. s.number) o 0) same ∙ two.2)
