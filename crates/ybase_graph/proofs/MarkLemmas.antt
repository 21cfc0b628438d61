-- The nodes that derive from one are marked in an order in which each stands behind those to which it leads.
use Rattle.std.proofs.Common.{◌≡◌, ℕ, suc, ◌+◌, ◌<◌, ◌==◌, ◌||◌, Bool, true, false, List, [], ◌∷◌, length, get_or, refl, sym, ap, ap₂, ◌∙◌, subst, inl, inr, arith}
use Rattle.std.specs.List.{All, Contains, list_any, range_with_len}
use Rattle.std.specs.List.Sorted.{IsPermutation}
use Rattle.std.proofs.Math.ListN.{set}
use Rattle.std.proofs.lemmas.Bool.{cases_lt, cases_eq, or_cases, or_left, or_right, eqb-true, eq-eqb, false_from_ne_true}
use Rattle.std.proofs.lemmas.List.{length-set, get_or-set_same, get_or-set_other, get_or_default, get_or_past}
use Rattle.std.proofs.lemmas.List.Folds.{Any-from_list_any, list_any-from_Any}
use Rattle.std.proofs.lemmas.List.FromFn.{length-range_with_len, get_or-range_with_len}
use Rattle.std.proofs.lemmas.List.Sorted.{All-permutation, Contains-permutation}
use Rattle.yspec.specs.linking.Graph.{Edge}
use Rattle.ybase_graph.specs.Reaching.{HasEdge}
use Rattle.ybase_graph.specs.Search.{targets_of}
use Rattle.ybase_graph.specs.Derivation.{derives, Derives, by_one, by_more}
use Rattle.ybase_graph.specs.Derivations.{AreStraight, IsOf}
use Rattle.ybase_graph.specs.declared.derivations.Derivations.{Derivations}
use Rattle.ybase_graph.proofs.DerivationLaws.{derives_so, first_edge}
use Rattle.ybase_graph.proofs.EdgeLemmas.{bool_same}
use Rattle.ybase_graph.proofs.RankLemmas.{source_within}

-- whether a node is another one, or is marked
abbrev pub is_at : ℕ → List Bool → ℕ → Bool
is_at base marks n = n == base || get_or marks n false

any_same : {X : Type 0} (p q : X → Bool) (xs : List X) → ((x : X) → Contains xs x → p x ≡ q x) → list_any p xs ≡ list_any q xs
any_same p q [] same = refl
any_same p q (x ∷ xs) same =
    ap₂ (λ a b. a || b) (same x (0, omega arith, refl)) (any_same p q xs (λ y at. same y (suc at.0, (let low = at.1 in omega (arith, low)), at.2)))

-- all nodes of an order of the numbers below one are below it
pub all_within : (n : ℕ) (nodes : List ℕ) → IsPermutation (range_with_len 0 n) nodes → All (λ k. k < n) nodes
all_within n nodes all = All-permutation (λ k. k < n) (range_with_len 0 n) nodes all (λ k d low.
    let count = length-range_with_len 0 n in
    let is = get_or-range_with_len 0 n k d (omega (arith, low, count)) in
    omega (arith, low, count, is))

-- the marks of the first so many nodes of the order are right
pub record Marked (d : Derivations) (base : ℕ) (marks : List Bool) (i : ℕ) : Type 0 where
  pub count : length marks ≡ length d.rows.items
  pub right : (edges : List Edge) → IsOf d edges → AreStraight edges → (j : ℕ) → j < i → j < length d.order.items
      → get_or marks (get_or d.order.items j 0) false ≡ derives edges (get_or d.order.items j 0) base

module _ (d : Derivations) (base : ℕ) where
  abbrev order : List ℕ
  order = d.order.items

  abbrev row : ℕ → List ℕ
  row a = targets_of d.rows.items a

  module _ (edges : List Edge) (of : IsOf d edges) where
    abbrev leads_so : ℕ → Bool
    leads_so t = t == base || derives edges t base

    -- a node derives from the base exactly where an edge leads to that, or to one that derives from it
    step : (a : ℕ) → list_any leads_so (row a) ≡ derives edges a base
    step a = bool_same (list_any leads_so (row a)) (derives edges a base) forth (λ h. back ((derives_so edges a base).0 h))
      where
        forth : list_any leads_so (row a) ≡ true → derives edges a base ≡ true
        forth h =
            let found = Any-from_list_any leads_so (row a) h in
            let edge = of.edge a found.1 (found.0, found.2, found.3) in
            elim (or_cases (found.1 == base) (derives edges found.1 base) found.4) [
              | inl same ↦ (derives_so edges a base).1 (by_one (subst (λ (b : ℕ). HasEdge edges a b) (eqb-true found.1 base same) edge))
              | inr more ↦ (derives_so edges a base).1 (by_more edge ((derives_so edges found.1 base).0 more))
            ]

        back : Derives (HasEdge edges) a base → list_any leads_so (row a) ≡ true
        back (by_one edge) =
            let at = of.target a base edge in
            list_any-from_Any leads_so (row a) (at.0, base, at.1, at.2, or_left (base == base) (derives edges base base) (eq-eqb base base refl))
        back (by_more {b = b} edge more) =
            let at = of.target a b edge in
            list_any-from_Any leads_so (row a) (at.0, b, at.1, at.2, or_right (b == base) (derives edges b base) ((derives_so edges b base).1 more))

    -- each node stands in the order
    placed : (n : ℕ) → n < length d.rows.items → Contains order n
    placed n low =
        let count = length-range_with_len 0 (length d.rows.items) in
        let plain : 0 + n ≡ n = omega arith in
        Contains-permutation (range_with_len 0 (length d.rows.items)) order n of.all
        (n, omega (arith, low, count), get_or-range_with_len 0 (length d.rows.items) n n low ∙ plain)

    -- what is no node derives from none
    outside : (n : ℕ) → length d.rows.items < n + 1 → derives edges n base ≡ false
    outside n past = false_from_ne_true (derives edges n base) (λ h.
        let first = first_edge ((derives_so edges n base).0 h) in
        let low = source_within d.rows.items n first.0 (of.target n first.0 first.1) in
        omega (arith, low, past))

  pub none_marked : (marks : List Bool) → length marks ≡ length d.rows.items → Marked d base marks 0
  none_marked marks count = record { count = count; right = λ edges of straight j low. absurd (omega (arith, low)) }

  pub next_marked : (marks marks' : List Bool) (i node : ℕ) (mark : Bool) → i < length order → node ≡ get_or order i 0
      → node < length d.rows.items → mark ≡ list_any (is_at base marks) (row node) → marks' ≡ set marks node mark
      → Marked d base marks i → Marked d base marks' (i + 1)
  next_marked marks marks' i node mark low is_node within is_mark is_set so_far = record {
    count = ap length is_set ∙ length-set marks node mark ∙ so_far.count;
    right = λ edges of straight j below inside.
        let other : (j : ℕ) → j < length order → j < i → get_or marks (get_or order j 0) false ≡ derives edges (get_or order j 0) base =
        λ j inside before. so_far.right edges of straight j before inside in
        let each : (t : ℕ) → Contains (row node) t → is_at base marks t ≡ leads_so edges of t =
        λ t target.
        let edge = of.edge node t target in
        let at = placed edges of t (of.within node t target) in
        let is_t = get_or_default order at.0 0 t at.1 ∙ at.2 in
        let before = of.behind node t edge (straight node t edge) i at.0 low at.1 (sym is_node) is_t in
        ap (λ b. t == base || b) (subst (λ (n : ℕ). get_or marks n false ≡ derives edges n base) is_t (other at.0 at.1 before)) in
        let now : mark ≡ derives edges node base =
        is_mark ∙ (any_same (is_at base marks) (leads_so edges of) (row node) each ∙ step edges of node) in
        let count = so_far.count in
        elim (cases_eq (get_or order j 0) node) [
          | inl same ↦ subst (λ (n : ℕ). get_or marks' n false ≡ derives edges n base) (sym same)
              (ap (λ (x : List Bool). get_or x node false) is_set ∙ (get_or-set_same marks node mark false (omega (arith, within, count)) ∙ now))
          | inr ne ↦ elim (cases_eq j i) [
            | inl last ↦ absurd (ne (ap (λ (k : ℕ). get_or order k 0) last ∙ sym is_node))
            | inr before ↦ ap (λ (x : List Bool). get_or x (get_or order j 0) false) is_set
                ∙ (get_or-set_other marks node (get_or order j 0) mark false ne ∙ other j inside (omega (arith, below, before)))
          ]
        ];
  }

  pub all_marked : (marks : List Bool) (i : ℕ) → length order < i + 1 → Marked d base marks i
      → (edges : List Edge) → IsOf d edges → AreStraight edges → (n : ℕ) → get_or marks n false ≡ derives edges n base
  all_marked marks i past made edges of straight n =
      let count = made.count in
      elim (cases_lt n (length d.rows.items)) [
        | inl low ↦
            let at = placed edges of n low in
            let inside = at.1 in
            subst (λ (k : ℕ). get_or marks k false ≡ derives edges k base) (get_or_default order at.0 0 n at.1 ∙ at.2)
            (made.right edges of straight at.0 (omega (arith, inside, past)) at.1)
        | inr high ↦ get_or_past marks n false (omega (arith, high, count)) ∙ sym (outside edges of n (omega (arith, high)))
      ]
