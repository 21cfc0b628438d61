-- What the numbers of a finished search tell.
use Rattle.std.proofs.Common.{◌≡◌, ◌≢◌, ℕ, ◌<◌, ◌≤◌, List, [], length, get_or, map, Option, sym, ap, ◌∙◌, subst, inl, inr, arith}
use Rattle.std.specs.Prelude.{◌↔◌}
use Rattle.std.specs.Option.{option_map_or}
use Rattle.std.proofs.lemmas.Bool.{cases_lt}
use Rattle.std.proofs.lemmas.Option.{slice_get_past}
use Rattle.std.proofs.lemmas.List.{length-map}
use Rattle.std.proofs.Math.ListN.{get_or-map}
use Rattle.std.specs.declared.alloc.Global.{Global}
use Rattle.std.specs.declared.vec.Vec.{Vec}
use Rattle.ybase_graph.specs.Reaching.{Reaches, here, along}
use Rattle.ybase_graph.specs.Search.{Rows, HasTarget, TargetsWithin, IsRanking, state_at, Sound, rank_of}
use Rattle.ybase_graph.specs.declared.search.State.{State}
use Rattle.ybase_graph.specs.declared.search.State.TheVariants.{Unseen, Done}
use Rattle.ybase_graph.specs.declared.search.Segment.{Segment}
use Rattle.ybase_graph.proofs.StepLaws.{cases_state}

none_below : (k : ℕ) → k < 0 → ⊥
none_below k h = omega arith

pub source_within : (graph : Rows) → (a b : ℕ) → HasTarget graph a b → a < length graph
source_within graph a b has = elim (cases_lt a (length graph)) [
  | inl low ↦ low
  | inr past ↦ let t = subst (λ (l : List ℕ). (k : ℕ) × (k < length l) × (get_or l k b ≡ b))
      (ap (λ (o : Option (Vec ℕ Global)). option_map_or (λ (r : Vec ℕ Global). r.items) o []) (slice_get_past graph a past)) has in
      absurd (none_below t.0 t.1)
]

module _ (graph : Rows) (states : List State) (path : List ℕ) (segments : List Segment) (waiting : List ℕ) (known : ℕ)
    (s : Sound (HasTarget graph) (length graph) states path segments waiting known) (over : segments ≡ []) where
  pub no_path : (i : ℕ) → i < length path → ⊥
  no_path i h = let b = (s.begins i h).0 in let e : length segments ≡ 0 = ap length over in omega (arith, b, e)

  is_done : (v : ℕ) → state_at states v ≢ Unseen → (r : ℕ) × (state_at states v ≡ Done r)
  is_done v seen = elim (cases_state (state_at states v)) [
    | inl u ↦ absurd (seen u)
    | inr more ↦ elim more [
      | inl p ↦ absurd (no_path p.0 (s.on_path v p.0 p.1).0)
      | inr d ↦ d
    ]
  ]

  rank_at : (v : ℕ) → get_or (map rank_of states) v 0 ≡ rank_of (state_at states v)
  rank_at v = get_or-map rank_of states v Unseen

  rank_done : (v r : ℕ) → state_at states v ≡ Done r → get_or (map rank_of states) v 0 ≡ r
  rank_done v r h = rank_at v ∙ ap rank_of h

  pub is_ranking : ((v : ℕ) → v < length graph → state_at states v ≢ Unseen) → (ranks : List ℕ) → ranks ≡ map rank_of states → IsRanking graph ranks
  is_ranking seen ranks is = subst (λ (x : List ℕ). IsRanking graph x) (sym is) (record {
    count = length-map states rank_of ∙ s.count;
    down = λ a b has. let d = is_done a (seen a (source_within graph a b has)) in let t = s.done a d.0 b d.1 has in
        let x = rank_done a d.0 d.1 in let y = rank_done b t.0 t.1 in omega (arith, x, y, t.2);
    joined = λ a b in_a in_b same. let d = is_done a (seen a in_a) in let t = is_done b (seen b in_b) in
        let e : t.0 ≡ d.0 = sym (rank_done b t.0 t.1) ∙ sym same ∙ rank_done a d.0 d.1 in
        s.joined a b d.0 d.1 (t.1 ∙ ap (λ (x : ℕ). Done x) e);
  })

-- ---- circles

never_up : (E : ℕ → ℕ → Type 0) → (rank : ℕ → ℕ) → ((a b : ℕ) → E a b → rank b ≤ rank a) → (a b : ℕ) → Reaches E a b → rank b ≤ rank a
never_up E rank down a b here = omega arith
never_up E rank down a b (along {b = c} e r) = let one = down a c e in let rest = never_up E rank down c b r in omega (arith, one, rest)

pub ranks_tell : (graph : Rows) → (ranks : List ℕ) → TargetsWithin graph → IsRanking graph ranks → (a b : ℕ) → HasTarget graph a b
    → (Reaches (HasTarget graph) b a ↔ (get_or ranks a 0 ≡ get_or ranks b 0))
ranks_tell graph ranks within is a b has = (
  λ r. let up = never_up (HasTarget graph) (λ x. get_or ranks x 0) is.down b a r in let low = is.down a b has in omega (arith, up, low),
  λ e. is.joined b a (within a b has) (source_within graph a b has) (sym e),
)
