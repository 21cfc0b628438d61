-- What is known of typedefs, learned in an order in which each stands behind those that it names.
use Rattle.std.proofs.Common.{◌≡◌, ℕ, zero, suc, ◌+◌, ◌<◌, Bool, true, false, cond, List, [], ◌∷◌, length, get_or, slice_set, Option, Some, None, Result, Ok, Err, refl, sym, ap, ap₂, ◌∙◌, arith, subst}
use Rattle.std.specs.Prelude.{IfOk, is_some, option_map, option_and_then, ◌==◌, ◌||◌, if◌then◌else◌}
use Rattle.std.specs.List.{range_with_len, flat_map, filter_map, cons_option, list_any}
use Rattle.std.specs.List.Sorted.{IsPermutation}
use Rattle.std.specs.Global.{Box}
use Rattle.std.specs.Option.{option_map_or}
use Rattle.std.proofs.lemmas.Bool.{and_parts}
use Rattle.std.proofs.lemmas.Bool.Decides.{Decides-eqb}
use Rattle.std.proofs.lemmas.List.FromFn.{length-range_with_len, get_or-range_with_len}
use Rattle.std.proofs.lemmas.List.Sorted.{All-permutation, Contains-permutation, length_permutation}
use Rattle.yspec.specs.Forest.{Forest, size}
use Rattle.yspec.specs.linking.Circles.{circle_break, definition_circles, definition_edge, definition_edges}
use Rattle.yspec.specs.linking.DerivedTypes.{Known, unknown, number_named, named, typedef_row}
use Rattle.yspec_wide.specs.Types.{Keeping, known_in_row_of, known_named_of, known_within_of}
use Rattle.yspec.specs.linking.Graph as graph
use Rattle.yspec.specs.linking.Graph.{is_on_circle}
use Rattle.yspec.specs.linking.Scopes.{Placed, meaning, statements_of, statement_at}
use Rattle.yspec.specs.linking.Source.{Source}
use Rattle.yspec.proofs.LinkingProofs.BreakLemmas.{none_first, none_second, unbroken}
use Rattle.ybase_graph.specs.Reaching.{leads, has_edge, HasEdge, StandsBefore}
use Rattle.ybase_preorder.specs.Layout.{numbered_by}
use Rattle.ybase_preorder.proofs.LabelLemmas.{size-by}
use Rattle.ylink_grammar.specs.declared.source.Source as held
use Rattle.ylink_grammar.specs.SourceView.{source_view}
use Rattle.ylink_names.specs.MeaningView.{meaning_at, AreMeanings}
use Rattle.ylink_names.specs.Ordered.{IsNamed, AreInOrder}
use Rattle.ylink_types.specs.TypedefView.{known_at, known_held}
use Rattle.ylink_types.specs.declared.typedefs.Known as known_in_code
use Rattle.ylink_types.proofs.KnownLemmas.{same_known_of}
use Rattle.ylink_names.proofs.OrderedLemmas.{edge_named, place_of}
use Rattle.ylink_names.proofs.PlacedLemmas.{are_from, among_them, number_named_at}
use Rattle.ylink_types.proofs.WithinLemmas.{meant_within}

none_at : (meanings : List (Option ℕ)) (n : ℕ) → list_any is_some meanings ≡ false → meaning_at meanings n ≡ None
none_at [] n none = refl
none_at (None ∷ ms) zero none = refl
none_at (None ∷ ms) (suc n) none = none_at ms n none
none_at (Some m ∷ ms) n none = absurd cc

any_at : (e : ℕ) (nodes : List ℕ) (i : ℕ) → i < length nodes → get_or nodes i e ≡ e → list_any (λ k. e == k) nodes ≡ true
any_at e [] i within is = absurd (omega (arith, within))
any_at e (x ∷ xs) zero within is = ap (λ b. b || list_any (λ k. e == k) xs) ((Decides-eqb e x).1 (sym is))
any_at e (x ∷ xs) (suc i) within is = by (e == x) (any_at e xs i (omega (arith, within)) is)
  where
    by : (b : Bool) → list_any (λ k. e == k) xs ≡ true → (b || list_any (λ k. e == k) xs) ≡ true
    by true rest = refl
    by false rest = rest

-- of the first typedefs in an order it is known what they mean in the end
abbrev pub IsLearned : Keeping → Forest held.Source → List ℕ → (ℕ → Known) → ℕ → Type 0
IsLearned kept f nodes table i = (j : ℕ) → j < i → j < length nodes
    → table (get_or nodes j 0) ≡ known_within_of kept (numbered_by source_view 0 f) (size (numbered_by source_view 0 f)) (get_or nodes j 0)

module _ (f : Forest held.Source) where
  abbrev set : Forest Source
  set = numbered_by source_view 0 f

  same_size : size set ≡ size f
  same_size = size-by source_view 0 f

  module _ (kept : Keeping) (nodes : List ℕ) (order : AreInOrder nodes set) where
    abbrev finally : ℕ → Known
    finally = known_within_of kept set (size set)

    -- with as many steps as stand before a typedef, and one more, all is known of it
    stable : (n i : ℕ) → i < n → i < length nodes → known_within_of kept set (suc n) (get_or nodes i 0) ≡ known_within_of kept set n (get_or nodes i 0)
    unfolding known_within_of
    stable zero i below within = absurd (omega (arith, below))
    stable (suc m) i below within =
        same_known_of kept set (are_from [] 0 f) (known_within_of kept set (suc m)) (known_within_of kept set m) (get_or nodes i 0) (λ e edge.
        let at = place_of nodes set order e (edge_named f (get_or nodes i 0) e edge) in
        let inside = at.1 in
        let before = order.behind (get_or nodes i 0) e edge i at.0 within inside refl at.2 in
        subst (λ d. known_within_of kept set (suc m) d ≡ known_within_of kept set m d) at.2 (stable m at.0 (omega (arith, before, below)) inside))

    learned_own : (table : ℕ → Known) (i : ℕ) → IsLearned kept f nodes table i → i < length nodes
        → option_map_or (known_in_row_of kept set (named set table)) (typedef_row set (get_or nodes i 0)) unknown ≡ finally (get_or nodes i 0)
    unfolding known_within_of
    learned_own table i so_far within =
        same_known_of kept set (are_from [] 0 f) table finally (get_or nodes i 0) (λ e edge.
        let at = place_of nodes set order e (edge_named f (get_or nodes i 0) e edge) in
        let inside = at.1 in
        let before = order.behind (get_or nodes i 0) e edge i at.0 within inside refl at.2 in
        subst (λ d. table d ≡ finally d) at.2 (so_far at.0 before inside))
        ∙ stable (size set) i (let few = order.count in omega (arith, within, few)) within

    pub learned_next : (table more : ℕ → Known) (i : ℕ) → IsLearned kept f nodes table i → i < length nodes
        → ((e : ℕ) → more e ≡ (if e == get_or nodes i 0 then option_map_or (known_in_row_of kept set (named set table)) (typedef_row set (get_or nodes i 0)) unknown else table e))
        → IsLearned kept f nodes more (i + 1)
    learned_next table more i so_far within set_to j below inside = set_to (get_or nodes j 0) ∙ by (get_or nodes j 0 == get_or nodes i 0) refl
      where
        own : Known
        own = option_map_or (known_in_row_of kept set (named set table)) (typedef_row set (get_or nodes i 0)) unknown

        earlier : (get_or nodes j 0 == get_or nodes i 0) ≡ false → j < i
        earlier other = less (i == j) refl
          where
            clash : i ≡ j → ⊥
            clash same = absurd (let e : false ≡ true = sym other ∙ (Decides-eqb (get_or nodes j 0) (get_or nodes i 0)).1 (ap (λ k. get_or nodes k 0) (sym same)) in cc)

            less : (b : Bool) → (i == j) ≡ b → j < i
            less true is = absurd (clash ((Decides-eqb i j).0 is))
            less false is = let differ : (i ≡ j) → ⊥ = clash in omega (arith, below, differ)

        by : (b : Bool) → (get_or nodes j 0 == get_or nodes i 0) ≡ b → cond b own (table (get_or nodes j 0)) ≡ finally (get_or nodes j 0)
        by true is = learned_own table i so_far within ∙ ap finally (sym ((Decides-eqb (get_or nodes j 0) (get_or nodes i 0)).0 is))
        by false is = so_far j (earlier is) inside

    -- and in the end of all that statements name
    pub learned_all : (table : ℕ → Known) → IsLearned kept f nodes table (length nodes) → (number : ℕ) → named set table number ≡ known_named_of kept set number
    learned_all table so_far number = by (number_named set number) refl
      where
        by : (o : Option ℕ) → number_named set number ≡ o → option_map_or table o unknown ≡ option_map_or finally o unknown
        by None is = refl
        by (Some e) is =
            let at = place_of nodes set order e (number, is) in
            let inside = at.1 in
            subst (λ d. table d ≡ finally d) at.2 (so_far at.0 inside inside)

  -- ---- what is in order

  -- what is named is a statement
  named_within : (e : ℕ) → IsNamed set e → e < size f
  named_within e named = of_statement (statement_at set named.0) refl named.1
    where
      of_meaning : (p : Placed) (o : Option Source) → statement_at set named.0 ≡ Some p → meaning set p ≡ o
          → option_map (λ (d : Source). d.number) o ≡ Some e → e < size f
      of_meaning p None at meant is = absurd cc
      of_meaning p (Some d) at meant is =
          let same : d.number ≡ e = cc in
          subst (λ k. k < size f) same (meant_within f p (among_them f named.0 p at).0 d meant)

      of_statement : (o : Option Placed) → statement_at set named.0 ≡ o
          → option_map (λ (d : Source). d.number) (option_and_then (meaning set) o) ≡ Some e → e < size f
      of_statement None at is = absurd cc
      of_statement (Some p) at is = of_meaning p (meaning set p) at refl is

  -- all statements, where each definition stands behind those to which it refers
  pub all_in_order : (nodes : List ℕ) → IsPermutation (range_with_len 0 (size f)) nodes
      → ((a b : ℕ) → HasEdge (definition_edges set) a b → StandsBefore nodes b a) → AreInOrder nodes set
  all_in_order nodes all behind = record { among = among; behind = behind; within = within; count = omega (arith, long, same_size) }
    where
      numbers : List ℕ
      numbers = range_with_len 0 (size f)

      count : length numbers ≡ size f
      count = length-range_with_len 0 (size f)

      long : length nodes ≡ size f
      long = length_permutation numbers nodes all ∙ count

      among : (e : ℕ) → IsNamed set e → list_any (λ k. e == k) nodes ≡ true
      among e named =
          let inside = named_within e named in
          let plain : 0 + e ≡ e = omega arith in
          let at = Contains-permutation numbers nodes e all
          (e, (let whole = count in omega (arith, inside, whole)), get_or-range_with_len 0 (size f) e e inside ∙ plain) in
          any_at e nodes at.0 at.1 at.2

      each : (k d : ℕ) → k < length numbers → get_or numbers k d < size set
      each k d inside =
          let whole = count in
          let same = same_size in
          let is = get_or-range_with_len 0 (size f) k d (omega (arith, inside, whole)) in
          omega (arith, is, inside, whole, same)

      within : (i : ℕ) → i < length nodes → get_or nodes i 0 < size set
      within i inside = All-permutation (λ m. m < size set) numbers nodes all each i 0 inside

  -- where no statement names a definition there is nothing to be in order
  pub none_in_order : (meanings : List (Option ℕ)) → AreMeanings meanings set → list_any is_some meanings ≡ false → AreInOrder [] set
  none_in_order meanings are none = record {
    among = λ e named.
        let is = sym named.1 ∙ (number_named_at f meanings are named.0 ∙ none_at meanings named.0 none) in
        absurd cc;
    behind = λ a b edge i j within. absurd (omega (arith, within));
    within = λ i within. absurd (omega (arith, within));
    count = omega arith;
  }

-- what two clauses say of one call
pub both_ok : {X Y : Type 0} (r : Result X Y) (P Q R : X → Type 0) → ((x : X) → P x → Q x → R x) → IfOk r P → IfOk r Q → IfOk r R
both_ok (Ok x) P Q R gives first second = gives x first second
both_ok (Err e) P Q R gives first second = tt

-- ---- where nothing refers to itself

no_circle : (edges : List graph.Edge) (h : Placed → Option graph.Edge) (a b : ℕ) (ps : List Placed) → flat_map (λ p. circle_break edges (h p) p.source) ps ≡ []
    → has_edge (filter_map h ps) a b ≡ true → is_on_circle edges (record { source = a; target = b }) ≡ false
no_circle edges h a b [] none e = absurd cc
no_circle edges h a b (p ∷ ps) none e =
    by (h p) (none_first (circle_break edges (h p) p.source) (flat_map (λ q. circle_break edges (h q) q.source) ps) none) e
    (no_circle edges h a b ps (none_second (circle_break edges (h p) p.source) (flat_map (λ q. circle_break edges (h q) q.source) ps) none))
  where
    found : (x : graph.Edge) (y : Bool) → circle_break edges (Some x) p.source ≡ [] → leads a b x ≡ y → (y || has_edge (filter_map h ps) a b) ≡ true
        → (has_edge (filter_map h ps) a b ≡ true → is_on_circle edges (record { source = a; target = b }) ≡ false)
        → is_on_circle edges (record { source = a; target = b }) ≡ false
    found x true own is e rest =
        let both = and_parts (x.source == a) (x.target == b) is in
        sym (ap₂ (λ s t. is_on_circle edges (record { source = s; target = t })) ((Decides-eqb x.source a).0 both.0) ((Decides-eqb x.target b).0 both.1))
        ∙ unbroken (is_on_circle edges x) 9 p.source.home p.source.statement.line own
    found x false own is e rest = rest e

    by : (o : Option graph.Edge) → circle_break edges o p.source ≡ [] → has_edge (cons_option o (filter_map h ps)) a b ≡ true
        → (has_edge (filter_map h ps) a b ≡ true → is_on_circle edges (record { source = a; target = b }) ≡ false)
        → is_on_circle edges (record { source = a; target = b }) ≡ false
    by None own e rest = rest e
    by (Some x) own e rest = found x (leads a b x) own refl e rest

pub straight : (modules : Forest Source) → definition_circles modules ≡ [] → (a b : ℕ) → HasEdge (definition_edges modules) a b
    → is_on_circle (definition_edges modules) (record { source = a; target = b }) ≡ false
straight modules none a b edge = no_circle (definition_edges modules) (definition_edge modules) a b (statements_of modules) none edge

-- ---- a table in which what is known of one typedef is set

set_same : (items : List (Option (Box known_in_code.Known))) (n : ℕ) (k : Option (Box known_in_code.Known)) → n < length items
    → known_at (slice_set items n k) n ≡ known_held k
set_same [] n k within = absurd (omega (arith, within))
set_same (x ∷ xs) zero k within = refl
set_same (x ∷ xs) (suc n) k within = set_same xs n k (omega (arith, within))

set_other : (items : List (Option (Box known_in_code.Known))) (n e : ℕ) (k : Option (Box known_in_code.Known)) → (e ≡ n → ⊥)
    → known_at (slice_set items n k) e ≡ known_at items e
set_other [] n e k other = refl
set_other (x ∷ xs) zero zero k other = absurd (other refl)
set_other (x ∷ xs) zero (suc e) k other = refl
set_other (x ∷ xs) (suc n) zero k other = refl
set_other (x ∷ xs) (suc n) (suc e) k other = set_other xs n e k (λ same. other (ap suc same))

pub known_set : (items : List (Option (Box known_in_code.Known))) (n e : ℕ) (k : Option (Box known_in_code.Known)) (own : Known) → n < length items
    → known_held k ≡ own → known_at (slice_set items n k) e ≡ (if e == n then own else known_at items e)
known_set items n e k own within is = by (e == n) refl
  where
    by : (b : Bool) → (e == n) ≡ b → known_at (slice_set items n k) e ≡ cond b own (known_at items e)
    by true same = ap (known_at (slice_set items n k)) ((Decides-eqb e n).0 same) ∙ (set_same items n k within ∙ is)
    by false other = set_other items n e k (λ same. let clash : false ≡ true = sym other ∙ (Decides-eqb e n).1 same in cc)
