-- Statements where they stand, by their numbers: the one of a number, what it names, and those that stand below it.
use Rattle.std.proofs.Common.{◌≡◌, ℕ, zero, suc, ◌+◌, Bool, true, false, List, [], ◌∷◌, ◌++◌, length, Option, Some, None, refl, sym, ap, ap₂, ◌∙◌, arith, subst}
use Rattle.std.specs.Prelude.{slice_get, option_map, option_and_then, ◌==◌, ◌&&◌, ◌||◌}
use Rattle.std.specs.List.{Contains, filter_map, cons_option}
use Rattle.std.proofs.lemmas.Bool.Decides.{Decides-eqb}
use Rattle.std.proofs.lemmas.List.Elements.{Contains-append_left, Contains-append_right, Contains-append_cases}
use Rattle.std.proofs.lemmas.Option.{slice_get-map}
use mathlib.Core.Logic.{⊎_elim}
use Rattle.yspec.specs.Forest.{Forest, end, node, size}
use Rattle.yspec.specs.linking.Graph.{Edge}
use Rattle.yspec.specs.linking.Source.{Source}
use Rattle.ybase_graph.specs.Reaching.{leads, has_edge}
use Rattle.yspec.specs.linking.Scopes.{Placed, placed, statements_of, statement_at, meaning}
use Rattle.yspec.specs.linking.DerivedTypes.{number_named}
use Rattle.ybase_preorder.specs.Layout.{numbered_by}
use Rattle.ybase_preorder.proofs.NumberLemmas.{AreFrom, from_append, found_at as found_by_number, found_again, found_among}
use Rattle.ylink_grammar.specs.declared.source.Source as held
use Rattle.ylink_grammar.specs.SourceView.{source_view}
use Rattle.ylink_names.specs.MeaningView.{number_meant, meaning_at, AreMeanings}
use Rattle.ylink_names.specs.ScopeView.{placed_at}
use Rattle.ylink_names.proofs.NumberedLemmas.{length_placed}

-- ---- numbers

abbrev pub number_of : Placed → ℕ
number_of p = p.source.number

pub are_from : (ancestors : List (Source × Forest Source)) (k : ℕ) (f : Forest held.Source) → AreFrom number_of k (placed ancestors (numbered_by source_view k f))
unfolding placed
are_from ancestors k end = tt
are_from ancestors k (node l below after) =
    let s = source_view k l in
    let inner = numbered_by source_view (k + 1) below in
    let under = placed ((s, inner) ∷ ancestors) inner in
    let behind = placed ancestors (numbered_by source_view (k + suc (size below)) after) in
    let count = length_placed source_view ((s, inner) ∷ ancestors) (k + 1) below in
    let same : k + suc (size below) ≡ (k + 1) + length under = omega (arith, count) in (
      refl,
      from_append number_of (k + 1) under behind (are_from ((s, inner) ∷ ancestors) (k + 1) below)
          (subst (λ n. AreFrom number_of n behind) same (are_from ancestors (k + suc (size below)) after)),
    )

-- ---- a set of modules

module _ (f : Forest held.Source) where
  abbrev pub modules : Forest Source
  modules = numbered_by source_view 0 f

  pub found_at : (n : ℕ) → statement_at modules n ≡ slice_get (statements_of modules) n
  found_at n = found_by_number number_of (statements_of modules) (are_from [] 0 f) n

  -- each of its statements is the one that has its number
  pub stands_at : (p : Placed) → Contains (statements_of modules) p → statement_at modules p.source.number ≡ Some p
  stands_at p at = found_again number_of (statements_of modules) (are_from [] 0 f) p at

  -- and is among them
  pub among_them : (n : ℕ) (p : Placed) → statement_at modules n ≡ Some p → Contains (statements_of modules) p × (p.source.number ≡ n)
  among_them n p e = found_among number_of n p (statements_of modules) e

  pub number_named_at : (meanings : List (Option ℕ)) → AreMeanings meanings modules → (n : ℕ) → number_named modules n ≡ meaning_at meanings n
  number_named_at meanings are n =
      let ps = statements_of modules in
      ap (λ o. option_map (λ (d : Source). d.number) (option_and_then (meaning modules) o)) (found_at n)
      ∙ (by (slice_get ps n)
      ∙ sym (ap (λ ms. option_and_then (λ m. m) (slice_get ms n)) are ∙ ap (option_and_then (λ m. m)) (slice_get-map (number_meant modules) ps n)))
    where
      by : (o : Option Placed) → option_map (λ (d : Source). d.number) (option_and_then (meaning modules) o)
          ≡ option_and_then (λ m. m) (option_map (number_meant modules) o)
      by None = refl
      by (Some p) = refl

-- ---- what stands below a statement

-- the statements below one of some are among them
pub below_them : (ancestors : List (Source × Forest Source)) (f : Forest Source) (p q : Placed) → Contains (placed ancestors f) p
    → Contains (placed ((p.source, p.below) ∷ p.ancestors) p.below) q → Contains (placed ancestors f) q
unfolding placed
below_them ancestors end p q at inside = absurd (let within = at.1 in omega (arith, within))
below_them ancestors (node s below after) p q (zero, within, is) inside =
    let under = placed ((s, below) ∷ ancestors) below in
    let own = subst (λ (r : Placed). Contains (placed ((r.source, r.below) ∷ r.ancestors) r.below) q) (sym is) inside in
    later (placed_at s below ancestors) (under ++ placed ancestors after) q (Contains-append_left under (placed ancestors after) q own)
  where
    later : (r : Placed) (ps : List Placed) (q : Placed) → Contains ps q → Contains (r ∷ ps) q
    later r ps q at = let within = at.1 in (suc at.0, omega (arith, within), at.2)
below_them ancestors (node s below after) p q (suc k, within, is) inside =
    let under = placed ((s, below) ∷ ancestors) below in
    let behind = placed ancestors after in
    let among = ⊎_elim
    (λ at. Contains-append_left under behind q (below_them ((s, below) ∷ ancestors) below p q at inside))
    (λ at. Contains-append_right under behind q (below_them ancestors after p q at inside))
    (Contains-append_cases under behind p (k, omega (arith, within), is)) in
    let within_them = among.1 in
    (suc among.0, omega (arith, within_them), among.2)

-- ---- edges

pub edge_among : {A : Type 0} (h : A → Option Edge) (ps : List A) (p : A) (a b : ℕ) → Contains ps p → h p ≡ Some (record { source = a; target = b })
    → has_edge (filter_map h ps) a b ≡ true
edge_among h [] p a b at e = absurd (let within = at.1 in omega (arith, within))
edge_among h (q ∷ ps) p a b (zero, within, is) e = ap (λ o. has_edge (cons_option o (filter_map h ps)) a b) (ap h is ∙ e)
    ∙ first ((a == a) && (b == b)) (ap₂ (λ x y. x && y) ((Decides-eqb a a).1 refl) ((Decides-eqb b b).1 refl))
  where
    first : (x : Bool) → x ≡ true → (x || has_edge (filter_map h ps) a b) ≡ true
    first true is = refl
    first false is = absurd cc
edge_among h (q ∷ ps) p a b (suc k, within, is) e = by (h q) (edge_among h ps p a b (k, omega (arith, within), is) e)
  where
    by : (o : Option Edge) → has_edge (filter_map h ps) a b ≡ true → has_edge (cons_option o (filter_map h ps)) a b ≡ true
    by None rest = rest
    by (Some x) rest = or_right (leads a b x) rest
      where
        or_right : (y : Bool) → has_edge (filter_map h ps) a b ≡ true → (y || has_edge (filter_map h ps) a b) ≡ true
        or_right true rest = refl
        or_right false rest = rest
