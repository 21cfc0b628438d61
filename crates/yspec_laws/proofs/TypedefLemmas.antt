-- Where no definition refers to itself, what a typedef means is found in as many steps as there are statements.
use Rattle.std.proofs.Common.{◌≡◌, ℕ, zero, suc, ◌+◌, ◌<◌, Bool, true, false, cond, List, [], ◌∷◌, ◌++◌, length, Option, Some, None, refl, sym, ap, ap₂, ◌∙◌, arith, subst, length-append, append_assoc}
use Rattle.std.specs.Prelude.{option_map, option_and_then}
use Rattle.std.specs.Option.{option_map_or}
use Rattle.yspec.specs.Forest.{Forest, end, node, join, size}
use Rattle.yspec.specs.text.Statement.{Statement}
use Rattle.yspec.specs.linking.Keyword.{Keyword, typedef_word}
use Rattle.yspec.specs.linking.Source.{Source, is_source_of, kept, numbered, sources_from, sources_of}
use Rattle.yspec.specs.linking.Scopes.{Placed, placed, statements_of, statement_at, kind_named, names_built_in, definition_named}
use Rattle.yspec.specs.linking.Arguments.{name_of}
use Rattle.yspec.specs.linking.Source.{argument_in}
use Rattle.yspec.specs.linking.Graph.{Edge}
use Rattle.yspec.specs.linking.Circles.{definition_circles, definition_edge, definition_edges, referring}
use Rattle.yspec.specs.linking.DerivedTypes.{unknown, named, known_in_row, known_within, typedef_row}
use Rattle.yspec.proofs.LinkingProofs.KeywordLemmas.{same_is}
use Rattle.yspec.proofs.LinkingProofs.NumberedLemmas.{size-numbered}
use Rattle.ybase_graph.specs.Reaching.{HasEdge}
use Rattle.ybase_preorder.proofs.NumberLemmas.{AreFrom, from_append, found_among}
use Rattle.ylink_names.proofs.PlacedLemmas.{number_of}
use Rattle.ylink_types.proofs.KnownLemmas.{same_known}
use Rattle.ylink_types.proofs.OrderLemmas.{straight}
use Rattle.yspec_laws.proofs.ListLemmas.{fewer}
use Rattle.yspec_laws.proofs.RankLemmas.{rank, rank_most, settled, IsStraight}

-- ---- statements have the numbers from 0 on

-- there are as many of them as labels
length_placed : (ancestors : List (Source × Forest Source)) (f : Forest Source) → length (placed ancestors f) ≡ size f
unfolding placed
length_placed ancestors end = refl
length_placed ancestors (node s below after) =
    let under = placed ((s, below) ∷ ancestors) below in
    ap suc (length-append under (placed ancestors after) ∙ ap₂ (λ a b. a + b) (length_placed ((s, below) ∷ ancestors) below) (length_placed ancestors after))

placed_join : (ancestors : List (Source × Forest Source)) (f g : Forest Source) → placed ancestors (join f g) ≡ placed ancestors f ++ placed ancestors g
unfolding placed
placed_join ancestors end g = refl
placed_join ancestors (node s below after) g =
    let under = placed ((s, below) ∷ ancestors) below in
    ap (λ ps. record { source = s; below = below; ancestors = ancestors } ∷ (under ++ ps)) (placed_join ancestors after g)
    ∙ ap (λ ps. record { source = s; below = below; ancestors = ancestors } ∷ ps) (sym (append_assoc under (placed ancestors after) (placed ancestors g)))

numbered_from : (may : Bool) (ancestors : List (Source × Forest Source)) (home k : ℕ) (f : Forest (Keyword × Statement))
    → AreFrom number_of k (placed ancestors (numbered may home k f))
unfolding placed numbered
numbered_from may ancestors home k end = tt
numbered_from may ancestors home k (node (word, s) below after) =
    let source : Source = record { keyword = word; statement = s; number = k; home = home; may_refer = may } in
    let inner = numbered may home (k + 1) below in
    let under = placed ((source, inner) ∷ ancestors) inner in
    let behind = placed ancestors (numbered may home (k + suc (size below)) after) in
    let count = length_placed ((source, inner) ∷ ancestors) inner in
    let few = size-numbered may home (k + 1) below in
    let same : k + suc (size below) ≡ (k + 1) + length under = omega (arith, count, few) in (
      refl,
      from_append number_of (k + 1) under behind (numbered_from may ((source, inner) ∷ ancestors) home (k + 1) below)
          (subst (λ n. AreFrom number_of n behind) same (numbered_from may ancestors home (k + suc (size below)) after)),
    )

sources_numbered : (home k : ℕ) (f : Forest Statement) → AreFrom number_of k (placed [] (sources_from home k f))
unfolding placed sources_from
sources_numbered home k end = tt
sources_numbered home k (node s below after) =
    let row = kept (node s below end) in
    let own = placed [] (numbered false home k row) in
    let behind = placed [] (sources_from (home + 1) (k + size row) after) in
    let count = length_placed [] (numbered false home k row) in
    let few = size-numbered false home k row in
    let same : k + size row ≡ k + length own = omega (arith, count, few) in
    subst (λ ps. AreFrom number_of k ps) (sym (placed_join [] (numbered false home k row) (sources_from (home + 1) (k + size row) after)))
    (from_append number_of k own behind (numbered_from false [] home k row)
    (subst (λ n. AreFrom number_of n behind) same (sources_numbered (home + 1) (k + size row) after)))

-- ---- fewer edges than statements

no_edge : (modules : Forest Source) (p : Placed) → is_source_of typedef_word p.source ≡ true → definition_edge modules p ≡ None
no_edge modules p is =
    let word : typedef_word ≡ p.source.keyword = same_is typedef_word p.source.keyword is in
    ap (option_and_then (λ (d : Source). option_map (λ (a : ℕ). record { source = a; target = d.number }) (referring p)))
    (by (names_built_in p.source) (ap kind_named (sym word)))
  where
    by : (b : Bool) → kind_named p.source.keyword ≡ None
        → cond b None (option_and_then (λ kind. option_and_then (definition_named modules kind p) (name_of (argument_in p.source))) (kind_named p.source.keyword)) ≡ None
    by true none = refl
    by false none = ap (option_and_then (λ kind. option_and_then (definition_named modules kind p) (name_of (argument_in p.source)))) none

-- ---- steps

module _ (set : Forest Source) (numbers : AreFrom number_of 0 (statements_of set)) (apart : definition_circles set ≡ []) where
  abbrev edges : List Edge
  edges = definition_edges set

  by_targets : (few many d : ℕ) → ((t : ℕ) → HasEdge edges d t → IsStraight edges d t → known_within set many t ≡ known_within set few t)
      → known_within set (suc many) d ≡ known_within set (suc few) d
  unfolding known_within
  by_targets few many d same =
      same_known set numbers (known_within set many) (known_within set few) d (λ t edge. same t edge (straight set apart d t edge))

  -- what is no typedef means nothing
  nothing_known : (steps d : ℕ) → typedef_row set d ≡ None → known_within set steps d ≡ unknown
  unfolding known_within
  nothing_known zero d none = refl
  nothing_known (suc steps) d none = ap (λ o. option_map_or (known_in_row set (named set (known_within set steps))) o unknown) none

  low : (d : ℕ) (row : Forest Source) → typedef_row set d ≡ Some row → rank edges d < size set
  low d row is = by (statement_at set d) refl is
    where
      by : (o : Option Placed) → statement_at set d ≡ o
          → option_and_then (λ (p : Placed). cond (is_source_of typedef_word p.source) (Some p.below) None) o ≡ Some row → rank edges d < size set
      by None at e = absurd cc
      by (Some p) at e = of_word (is_source_of typedef_word p.source) refl e
        where
          of_word : (b : Bool) → is_source_of typedef_word p.source ≡ b → cond b (Some p.below) None ≡ Some row → rank edges d < size set
          of_word false other e = absurd cc
          of_word true typedef e =
              let inside = (found_among number_of d p (statements_of set) at).0 in
              let few = fewer (definition_edge set) (statements_of set) p inside (no_edge set p typedef) in
              let most = rank_most edges d in
              let count = length_placed [] set in
              omega (arith, few, most, count)

  known_settled : (more d : ℕ) → known_within set (size set + more) d ≡ known_within set (size set) d
  known_settled more d = by (typedef_row set d) refl
    where
      by : (o : Option (Forest Source)) → typedef_row set d ≡ o → known_within set (size set + more) d ≡ known_within set (size set) d
      by None is = nothing_known (size set + more) d is ∙ sym (nothing_known (size set) d is)
      by (Some row) is = settled edges (known_within set) by_targets (size set) (size set + more) d (low d row is) (omega arith)

pub typedefs_settled : (statements : Forest Statement) (more number : ℕ) → definition_circles (sources_of statements) ≡ []
    → known_within (sources_of statements) (size (sources_of statements) + more) number
    ≡ known_within (sources_of statements) (size (sources_of statements)) number
typedefs_settled statements more number apart = known_settled (sources_of statements) (sources_numbered 0 0 statements) apart more number
