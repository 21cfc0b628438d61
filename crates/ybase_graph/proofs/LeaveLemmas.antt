-- The lists of the code where a segment ends.
use Rattle.std.proofs.Common.{◌≡◌, ℕ, suc, ◌+◌, ◌-◌, ◌<◌, ◌≤◌, List, [], length, get_or, take, refl, sym, ap, ◌∙◌, subst, inl, inr, arith}
use Rattle.std.proofs.lemmas.List.{get_or-take, length-take-le}
use Rattle.std.specs.Prelude.{◌⊎◌}
use Rattle.std.proofs.lemmas.Bool.{cases_eq, cases_lt}
use Rattle.ybase_graph.proofs.ReachingLaws.{joined}
use Rattle.std.proofs.lemmas.Grind.{get_or_default_zero}
use Rattle.std.proofs.lemmas.Option.{slice_get_read, get_or_from_slice_get}
use Rattle.ybase_graph.specs.Reaching.{Reaches}
use Rattle.ybase_graph.specs.Search.{Rows, HasTarget, state_at, node_at, segment_at, first_at, waiting_at, Sound, IsMarked, IsMet}
use Rattle.ybase_graph.specs.declared.search.State.{State}
use Rattle.ybase_graph.specs.declared.search.State.TheVariants.{Unseen, OnPath, Done}
use Rattle.ybase_graph.specs.declared.search.Segment.{Segment}
use Rattle.ybase_graph.proofs.StepLaws.{left_behind, merged, skipped, highest}

nothing : Segment
nothing = record { first = 0; waiting = 0 }

pub top_is : (segments : List Segment) → (top : Segment) → (t : ℕ) → t < length segments → top ≡ get_or segments t top → segment_at segments t ≡ top
top_is segments top t h e = get_or_from_slice_get segments t top (record { first = 0; waiting = 0 })
    (slice_get_read segments (length segments) t top refl h e)

module _ (graph : Rows) (states : List State) (path : List ℕ) (segments : List Segment) (waiting : List ℕ) (known : ℕ)
    (s : Sound (HasTarget graph) (length graph) states path segments waiting known)
    (top : Segment) (some : 0 < length segments) (is_top : top ≡ get_or segments (length segments - 1) top) where
  t : ℕ
  t = length segments - 1

  the_top : segment_at segments (length segments - 1) ≡ top
  the_top = top_is segments top (length segments - 1) (omega arith) is_top

  top_first : first_at segments (length segments - 1) ≡ top.first
  top_first = ap (λ (x : Segment). x.first) the_top

  top_waiting : waiting_at segments (length segments - 1) ≡ top.waiting
  top_waiting = ap (λ (x : Segment). x.waiting) the_top

  lower_waiting : (k : ℕ) → k < length segments → waiting_at segments k ≤ waiting_at segments (length segments - 1)
  lower_waiting k h = elim (cases_eq k (length segments - 1)) [
    | inl e ↦ let same : waiting_at segments k ≡ waiting_at segments (length segments - 1) = ap (waiting_at segments) e in omega (arith, same)
    | inr ne ↦ (s.rising k (length segments - 1) (omega arith) (omega arith)).1
  ]

  pub top_within : top.first < length path
  top_within = let b = s.below (length segments - 1) (omega arith) in let e = top_first in omega (arith, b, e)

  pub left_lists : (states' : List State) → (path' : List ℕ) → (rest : List Segment) → (m : ℕ) → m ≡ length segments
      → length waiting ≤ top.waiting → (line : List ℕ) → line ≡ path → IsMarked line top.first known states states'
      → path' ≡ take top.first path → rest ≡ take (m - 1) segments
      → Sound (HasTarget graph) (length graph) states' path' rest waiting (known + 1)
  left_lists states' path' rest m is_m none line is_line marked is_path is_rest =
      let e = top_first in let w = top_waiting in let b = top_within in
      let l : length rest ≡ m - 1 = ap length is_rest ∙ length-take-le (m - 1) segments (omega arith) in
      left_behind (HasTarget graph) (length graph) states path segments waiting known s (length segments - 1) (omega arith) (omega (arith, w, none))
      states' (subst (λ (x : ℕ). IsMarked path x known states states') (sym e)
      (subst (λ (x : List ℕ). IsMarked x top.first known states states') is_line marked))
      path' (ap length is_path ∙ length-take-le top.first path (omega (arith, b)) ∙ sym e)
      (λ i h. ap (λ (x : List ℕ). get_or x i 0) is_path ∙ get_or-take top.first path i 0 (omega (arith, h, e)))
      rest (omega (arith, l))
      (λ k h. ap (λ (x : List Segment). get_or x k (record { first = 0; waiting = 0 })) is_rest
      ∙ get_or-take (m - 1) segments k (record { first = 0; waiting = 0 }) (omega arith))

  -- each node of the path reaches a target that waits for the last segment
  pub reaches_waiting : (q : ℕ) → q < length waiting → top.waiting ≤ q → (j : ℕ) → j < length path
      → Reaches (HasTarget graph) (node_at path j) (node_at waiting q)
  reaches_waiting q high low j within =
      let count : length segments ≡ suc (length segments - 1) = omega arith in
      let b = s.below (length segments - 1) (omega arith) in let w = top_waiting in
      let from_first = s.reached (length segments - 1) q (omega arith) (omega (arith, w, low)) high in
      elim (cases_lt j (first_at segments (length segments - 1))) [
        | inl before ↦ joined (s.chain j (first_at segments (length segments - 1)) (omega arith) b) from_first
        | inr behind ↦ joined (s.back (first_at segments (length segments - 1)) j behind within
            (λ k within_k first. let up = highest (HasTarget graph) (length graph) states path segments waiting known s k (length segments - 1) count within_k in
            absurd (omega (arith, up, first)))) from_first
      ]

  -- the last target that waits is on the path before the last segment
  pub merged_lists : (rest : List Segment) → (m : ℕ) → m ≡ length segments → rest ≡ take (m - 1) segments
      → (v p q : ℕ) → q < length waiting → top.waiting ≤ q → v ≡ node_at waiting q → state_at states v ≡ OnPath p → p < top.first
      → Sound (HasTarget graph) (length graph) states path rest waiting known
  merged_lists rest m is_m is_rest v p q high low is_v on before =
      let e = top_first in
      let l : length rest ≡ m - 1 = ap length is_rest ∙ length-take-le (m - 1) segments (omega arith) in
      let count : length segments ≡ suc (length segments - 1) = omega arith in
      merged (HasTarget graph) (length graph) states path segments waiting known s rest (length segments - 1) count (omega (arith, l))
      (λ k h. ap (λ (x : List Segment). get_or x k (record { first = 0; waiting = 0 })) is_rest
      ∙ get_or-take (m - 1) segments k (record { first = 0; waiting = 0 }) (omega arith))
      p v (s.on_path v p on) (omega (arith, before, e))
      (λ j at within. subst (λ (x : ℕ). Reaches (HasTarget graph) (node_at path j) x) (sym is_v) (reaches_waiting q high low j within))

  -- the last target that waits is done, or stands in the last segment
  pub skipped_lists : (rest : List ℕ) → (m : ℕ) → m ≡ length waiting → rest ≡ take (m - 1) waiting → top.waiting < m
      → (v : ℕ) → v ≡ node_at waiting (m - 1) → ((r : ℕ) × (state_at states v ≡ Done r)) ⊎ ((p : ℕ) × (state_at states v ≡ OnPath p) × (top.first ≤ p))
      → Sound (HasTarget graph) (length graph) states path segments rest known
  skipped_lists rest m is_m is_rest high v is_v met =
      let e = top_first in let w = top_waiting in
      let count : length segments ≡ suc (length segments - 1) = omega arith in
      let l : length rest ≡ m - 1 = ap length is_rest ∙ length-take-le (m - 1) waiting (omega arith) in
      let at : node_at waiting (length rest) ≡ v = ap (node_at waiting) l ∙ sym is_v in
      skipped (HasTarget graph) (length graph) states path segments waiting known s rest (omega (arith, l))
      (λ q h. ap (λ (x : List ℕ). get_or x q 0) is_rest ∙ get_or-take (m - 1) waiting q 0 (omega (arith, l)))
      (λ k h. let f = lower_waiting k h in omega (arith, f, w, l, high))
      (λ k h. subst (λ (x : ℕ). IsMet states segments [] k x) (sym at) (elim met [
        | inl d ↦ inl d
        | inr p ↦ let up = highest (HasTarget graph) (length graph) states path segments waiting known s k (length segments - 1) count h in
            inr (inl (p.0, p.1, omega (arith, up, e, p.2)))
      ]))

pub read_state : (states : List State) → (v : ℕ) → (x y : State) → v < length states → x ≡ get_or states v x → x ≡ y → state_at states v ≡ y
read_state states v x y h e i = get_or_from_slice_get states v x Unseen (slice_get_read states (length states) v x refl h e) ∙ i

pub read_node : (xs : List ℕ) → (i x : ℕ) → i < length xs → x ≡ get_or xs i x → x ≡ node_at xs i
read_node xs i x h e = e ∙ get_or_default_zero xs i x h

-- a target that waits is a node
pub node_within : {E : ℕ → ℕ → Type 0} {n : ℕ} (states : List State) (path : List ℕ) (segments : List Segment) (waiting : List ℕ) (known : ℕ)
    → Sound E n states path segments waiting known → (q v : ℕ) → q < length waiting → v ≡ node_at waiting q → v < length states
node_within states path segments waiting known s q v h e = let c = s.count in let w = s.waits q h in omega (arith, c, w, e)
