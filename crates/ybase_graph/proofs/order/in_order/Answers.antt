use Rattle.std.proofs.Common.{List, [], ◌∷◌, ℕ, ◌≡◌, false, get_or, length, map, IfOk, ap, sym, subst, ◌∙◌, rules, arith}
use Rattle.std.proofs.lemmas.Result.{IfOk-weaker}
use Rattle.std.proofs.lemmas.List.Sorted.{IsPermutation-refl}
use Rattle.std.specs.List.{range_with_len}
use Rattle.std.specs.List.Sorted.{IsPermutation, IsNonDecreasingBy}
use Rattle.std.specs.declared.alloc.Global.{Global}
use Rattle.std.specs.declared.vec.Vec.{Vec}
use Rattle.yspec.specs.linking.Graph.{is_on_circle}
use Rattle.ybase_graph.specs.Reaching.{HasEdge, StandsBefore}
use Rattle.ybase_graph.specs.Edges.{edge_view}
use Rattle.ybase_graph.specs.declared.circles.Edge.{Edge}
use Rattle.ybase_graph.specs.Search.{Rows, TargetsWithin, IsRanking}
use Rattle.ybase_graph.proofs.EdgeLemmas.{rows_within, stands_before}
use Rattle.ybase_graph.proofs.order.in_order.Goals as goal

pub ranks-requires : goal.ranks-requires
ranks-requires c = record {
  within = subst (λ (x : Rows). TargetsWithin x) (sym c.as_slice.ensures.value)
      (rows_within c.args.count c.args.edges.now c.requires c.in_ok-rows.rows.items c.in_ok-rows.ensures);
}

pub returns-clause-all : goal.returns-clause-all
returns-clause-all c = subst (λ (k : ℕ). IfOk c.by_rank.result (λ (nodes : Vec ℕ Global). IsPermutation (range_with_len 0 k) nodes.items))
    (ap length c.as_slice-2.ensures.value ∙ c.in_ok-ranks.ensures.count ∙ ap length c.as_slice.ensures.value ∙ c.in_ok-rows.ensures.count)
    c.by_rank.ensures.all

pub returns-clause-behind : goal.returns-clause-behind
returns-clause-behind c = IfOk-weaker c.by_rank.result (λ (nodes : Vec ℕ Global). IsNonDecreasingBy (λ v. get_or c.as_slice-2.result.now v 0) nodes.items)
    (λ (nodes : Vec ℕ Global). (a b : ℕ) → HasEdge (map edge_view c.args.edges.now) a b
    → is_on_circle (map edge_view c.args.edges.now) (record { source = a; target = b }) ≡ false → StandsBefore nodes.items b a)
    (λ nodes rising a b has off. stands_before c.args.count c.args.edges.now c.requires c.in_ok-rows.rows.items c.in_ok-rows.ensures
    c.as_slice-2.result.now (subst (λ (x : List ℕ). IsRanking c.in_ok-rows.rows.items x) (sym c.as_slice-2.ensures.value)
    (subst (λ (x : Rows). IsRanking x c.in_ok-ranks.ranks.items) c.as_slice.ensures.value c.in_ok-ranks.ensures)) a b has off nodes.items rising)
    c.by_rank.ensures.rising

no_edge : (edges : List Edge) (nodes : List ℕ) (a b : ℕ) → length edges ≡ 0 → HasEdge (map edge_view edges) a b → StandsBefore nodes b a
no_edge [] nodes a b none has = absurd cc
no_edge (e ∷ es) nodes a b none has = absurd (omega (arith, none))

pub returns-then-is_empty-clause-all : goal.returns-then-is_empty-clause-all
returns-then-is_empty-clause-all c =
    let all = range_with_len 0 c.args.count in
    IfOk-weaker c.numbers.result (λ (nodes : Vec ℕ Global). nodes.items ≡ all) (λ (nodes : Vec ℕ Global). IsPermutation all nodes.items)
    (λ nodes is. subst (λ xs. IsPermutation all xs) (sym is) (IsPermutation-refl all)) c.numbers.ensures

pub returns-then-is_empty-clause-behind : goal.returns-then-is_empty-clause-behind
returns-then-is_empty-clause-behind c =
    let none : length c.args.edges.now ≡ 0 = first_of (search rules, omega arith) in
    IfOk-weaker c.numbers.result (λ (nodes : Vec ℕ Global). nodes.items ≡ range_with_len 0 c.args.count)
    (λ (nodes : Vec ℕ Global). (a b : ℕ) → HasEdge (map edge_view c.args.edges.now) a b
    → is_on_circle (map edge_view c.args.edges.now) (record { source = a; target = b }) ≡ false → StandsBefore nodes.items b a)
    (λ nodes is a b has off. no_edge c.args.edges.now nodes.items a b none has) c.numbers.ensures
