-- How many edges are still to be gone from a node falls along each edge that lies on no circle, and so bounds a recursion that
-- follows such edges.
use Rattle.std.proofs.Common.{◌≡◌, ℕ, zero, suc, ◌+◌, ◌≤◌, ◌<◌, Bool, true, false, cond, List, [], ◌∷◌, length, refl, sym, ap, ◌∙◌, arith}
use Rattle.std.specs.Prelude.{◌||◌}
use Rattle.std.specs.List.{list_any}
use Rattle.std.proofs.lemmas.Bool.{false≢true}
use Rattle.yspec.specs.linking.Graph.{Edge, is_on_circle}
use Rattle.ybase_graph.specs.Reaching.{leads, HasEdge, here, along}
use Rattle.ybase_graph.proofs.ReachingLaws.{circle_leads, leads_circle, edge_first}

-- ---- how many of a list pass a test

module _ {A : Type 0} where
  abbrev pub passing : (A → Bool) → List A → ℕ
  passing test [] = 0
  passing test (x ∷ xs) = cond (test x) 1 0 + passing test xs

  pub passing_most : (test : A → Bool) (xs : List A) → passing test xs ≤ length xs
  passing_most test [] = omega arith
  passing_most test (x ∷ xs) = by (test x) (passing_most test xs)
    where
      by : (b : Bool) → passing test xs ≤ length xs → cond b 1 0 + passing test xs ≤ suc (length xs)
      by true rest = omega (arith, rest)
      by false rest = omega (arith, rest)

  module _ (less more : A → Bool) (weaker : (x : A) → less x ≡ true → more x ≡ true) where
    no_fewer : (xs : List A) → passing less xs ≤ passing more xs
    no_fewer [] = omega arith
    no_fewer (x ∷ xs) = by (less x) (more x) (weaker x) (no_fewer xs)
      where
        by : (l m : Bool) → (l ≡ true → m ≡ true) → passing less xs ≤ passing more xs → cond l 1 0 + passing less xs ≤ cond m 1 0 + passing more xs
        by true true up rest = omega (arith, rest)
        by true false up rest = absurd (false≢true (up refl))
        by false true up rest = omega (arith, rest)
        by false false up rest = omega (arith, rest)

    -- where one passes the second test alone
    fewer : (own : A → Bool) → ((x : A) → own x ≡ true → (less x ≡ false) × (more x ≡ true)) → (xs : List A) → list_any own xs ≡ true
        → passing less xs < passing more xs
    fewer own apart [] any = absurd (false≢true any)
    fewer own apart (x ∷ xs) any = by (own x) (less x) (more x) (apart x) (weaker x) any (fewer own apart xs) (no_fewer xs)
      where
        by : (o l m : Bool) → (o ≡ true → (l ≡ false) × (m ≡ true)) → (l ≡ true → m ≡ true) → (o || list_any own xs) ≡ true
            → (list_any own xs ≡ true → passing less xs < passing more xs) → passing less xs ≤ passing more xs
            → cond l 1 0 + passing less xs < cond m 1 0 + passing more xs
        by true true m one up any later rest = absurd (false≢true (sym (one refl).0))
        by true false false one up any later rest = absurd (false≢true (one refl).1)
        by true false true one up any later rest = omega (arith, rest)
        by false true true one up any later rest = let l = later any in omega (arith, l)
        by false true false one up any later rest = absurd (false≢true (up refl))
        by false false true one up any later rest = let l = later any in omega (arith, l)
        by false false false one up any later rest = let l = later any in omega (arith, l)

-- ---- the rank of a node

module _ (edges : List Edge) where
  abbrev edge_back : ℕ → ℕ → Edge
  edge_back d t = record { source = d; target = t }

  -- whether a node leads to another, be it by no edge
  abbrev leads_to : ℕ → ℕ → Bool
  leads_to d x = is_on_circle edges (edge_back x d)

  -- an edge between them would close no circle
  abbrev pub IsStraight : ℕ → ℕ → Type 0
  IsStraight d t = is_on_circle edges (edge_back d t) ≡ false

  -- the edges that begin where it leads
  abbrev pub rank : ℕ → ℕ
  rank d = passing (λ e. leads_to d e.source) edges

  pub rank_most : (d : ℕ) → rank d ≤ length edges
  rank_most d = passing_most (λ e. leads_to d e.source) edges

  pub rank_less : (d t : ℕ) → HasEdge edges d t → IsStraight d t → rank t < rank d
  rank_less d t edge straight = fewer (λ e. leads_to t e.source) (λ e. leads_to d e.source)
      (λ e led. leads_circle edges (edge_back e.source d) (along edge (circle_leads edges (edge_back e.source t) led)))
      (leads d t)
      (λ e is. let from = (edge_first e d t is).0 in (
        ap (λ x. leads_to t x) from ∙ straight,
        ap (λ x. leads_to d x) from ∙ leads_circle edges (edge_back d d) here,
      ))
      edges edge

  -- What is found of a node in so many steps stays so in more, where a step asks only for what straight edges lead to.
  module _ {X : Type 0} (found : ℕ → ℕ → X)
      (by_targets : (few many d : ℕ) → ((t : ℕ) → HasEdge edges d t → IsStraight d t → found many t ≡ found few t)
      → found (suc many) d ≡ found (suc few) d) where
    pub settled : (few many d : ℕ) → rank d < few → few ≤ many → found many d ≡ found few d
    settled zero many d low le = absurd (omega (arith, low))
    settled (suc few) zero d low le = absurd (omega (arith, le))
    settled (suc few) (suc many) d low le = by_targets few many d (λ t edge straight.
        let down = rank_less d t edge straight in settled few many t (omega (arith, low, down)) (omega (arith, le)))
