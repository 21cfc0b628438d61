-- The lists of the code in a step of the search.
use Rattle.std.proofs.Common.{◌≡◌, ℕ, ◌+◌, ◌-◌, ◌<◌, ◌≤◌, List, [], ◌∷◌, ◌++◌, length, get_or, slice_set, Option, refl, sym, ap, ◌∙◌, subst, arith}
use Rattle.std.proofs.lemmas.List.{length-append, length-set, get_or_append_left, get_or-append-add, get_or-append_right, get_or-set_same, get_or-set_other}
use Rattle.std.proofs.Math.Seq.{get_or-append_seam}
use Rattle.std.proofs.lemmas.Grind.{get_or_default_zero}
use Rattle.std.specs.Option.{option_map_or}
use Rattle.std.proofs.lemmas.Option.{slice_get_read}
use Rattle.std.specs.declared.alloc.Global.{Global}
use Rattle.std.specs.declared.vec.Vec.{Vec}
use Rattle.ybase_graph.specs.Reaching.{Reaches}
use Rattle.ybase_graph.specs.Search.{Rows, targets_of, HasTarget, TargetsWithin, state_at, node_at, segment_at, Sound}
use Rattle.ybase_graph.specs.declared.search.State.{State}
use Rattle.ybase_graph.specs.declared.search.State.TheVariants.{Unseen, OnPath}
use Rattle.ybase_graph.specs.declared.search.Segment.{Segment}
use Rattle.ybase_graph.proofs.StepLaws.{entered}

none : Segment
none = record { first = 0; waiting = 0 }

module _ (graph : Rows) (states : List State) (path : List ℕ) (segments : List Segment) (waiting : List ℕ) (known : ℕ) (v : ℕ)
    (path' : List ℕ) (segments' : List Segment) (waiting' : List ℕ) (place w : ℕ) (row : Vec ℕ Global) (new : Segment) (ts : List ℕ)
    (is_place : place ≡ length path) (is_w : w ≡ length waiting)
    (is_path : path' ≡ path ++ v ∷ []) (is_new : (new.first ≡ place) × (new.waiting ≡ w)) (is_segments : segments' ≡ segments ++ new ∷ [])
    (is_waiting : waiting' ≡ waiting ++ ts) (is_ts : ts ≡ row.items) (is_row : row ≡ get_or graph v row) (low : v < length graph) where
  the_row : targets_of graph v ≡ ts
  the_row = ap (λ (o : Option (Vec ℕ Global)). option_map_or (λ (r : Vec ℕ Global). r.items) o []) (slice_get_read graph (length graph) v row refl low is_row)
      ∙ sym is_ts

  new_at : (q : ℕ) → length waiting ≤ q → q < length waiting' → HasTarget graph v (node_at waiting' q)
  new_at q h high = subst (λ (l : List ℕ). (k : ℕ) × (k < length l) × (get_or l k (node_at waiting' q) ≡ node_at waiting' q)) (sym the_row)
      (let total : length waiting' ≡ length waiting + length ts = ap length is_waiting ∙ length-append waiting ts in
      let within : q - length waiting < length ts = omega arith in (
        q - length waiting,
        within,
        get_or_default_zero ts (q - length waiting) (node_at waiting' q) within
            ∙ sym (ap (λ (l : List ℕ). get_or l q 0) is_waiting ∙ get_or-append_right waiting ts (length waiting) q 0 refl h),
      ))

  all_at : (b : ℕ) → HasTarget graph v b → (q : ℕ) × (length waiting ≤ q) × (q < length waiting') × (node_at waiting' q ≡ b)
  all_at b has = let t = subst (λ (l : List ℕ). (k : ℕ) × (k < length l) × (get_or l k b ≡ b)) the_row has in
      let total : length waiting' ≡ length waiting + length ts = ap length is_waiting ∙ length-append waiting ts in (
        length waiting + t.0,
        omega arith,
        omega (arith, total, t.1),
        ap (λ (l : List ℕ). get_or l (length waiting + t.0) 0) is_waiting
            ∙ get_or-append-add waiting ts t.0 0 ∙ sym (get_or_default_zero ts t.0 b t.1) ∙ t.2,
      )

  pub entered_lists : Sound (HasTarget graph) (length graph) states path segments waiting known
      → TargetsWithin graph → state_at states v ≡ Unseen → ((i : ℕ) → i < length path → Reaches (HasTarget graph) (node_at path i) v)
      → Sound (HasTarget graph) (length graph) (slice_set states v (OnPath place)) path' segments' waiting' known
  entered_lists s within unseen to =
      let c = s.count in let in_states : v < length states = omega (arith, c) in
      let total : length waiting' ≡ length waiting + length ts = ap length is_waiting ∙ length-append waiting ts in
      let l1 : length path' ≡ length path + length (v ∷ []) = ap length is_path ∙ length-append path (v ∷ []) in
      let l2 : length segments' ≡ length segments + length (new ∷ []) = ap length is_segments ∙ length-append segments (new ∷ []) in
      let at_new : segment_at segments' (length segments) ≡ new = ap (λ (l : List Segment). get_or l (length segments) (record { first = 0; waiting = 0 })) is_segments
      ∙ get_or-append_seam segments new [] (record { first = 0; waiting = 0 }) in
      entered (HasTarget graph) (length graph) states path segments waiting known s v low unseen to within
      (slice_set states v (OnPath place)) path' segments' waiting'
      (length-set states v (OnPath place))
      (get_or-set_same states v (OnPath place) Unseen in_states ∙ ap (λ (x : ℕ). OnPath x) is_place)
      (λ u ne. get_or-set_other states v u (OnPath place) Unseen ne)
      (omega (arith, l1))
      (λ i h. ap (λ (l : List ℕ). get_or l i 0) is_path ∙ get_or_append_left path (v ∷ []) 0 i h)
      (ap (λ (l : List ℕ). get_or l (length path) 0) is_path ∙ get_or-append_seam path v [] 0)
      (omega (arith, l2))
      (λ k h. ap (λ (l : List Segment). get_or l k (record { first = 0; waiting = 0 })) is_segments ∙ get_or_append_left segments (new ∷ []) (record { first = 0; waiting = 0 }) k h)
      (ap (λ (x : Segment). x.first) at_new ∙ is_new.0 ∙ is_place)
      (ap (λ (x : Segment). x.waiting) at_new ∙ is_new.1 ∙ is_w)
      (omega (arith, total))
      (λ q h. ap (λ (l : List ℕ). get_or l q 0) is_waiting ∙ get_or_append_left waiting ts 0 q h)
      new_at all_at
