-- That each step of the search leaves less to do, and that there are as many sets as nodes at most.
use Rattle.std.proofs.Common.{◌≡◌, ℕ, zero, suc, ◌+◌, ◌-◌, ◌<◌, ◌≤◌, List, [], ◌∷◌, ◌++◌, length, get_or, slice_set, take, Option, refl, sym, ap, ◌∙◌, subst, inl, inr, arith}
use Rattle.std.specs.Prelude.{replicate}
use Rattle.std.specs.Option.{option_map_or}
use Rattle.std.proofs.lemmas.Bool.{cases_lt}
use Rattle.std.proofs.lemmas.List.{length-append, length-take-le, length-replicate}
use Rattle.std.proofs.lemmas.Option.{slice_get_read}
use Rattle.std.specs.declared.alloc.Global.{Global}
use Rattle.std.specs.declared.vec.Vec.{Vec}
use Rattle.ybase_graph.specs.Search.{Rows, HasTarget, state_at, unseen_weight, steps_of, Sound, IsMarked}
use Rattle.ybase_graph.specs.declared.search.State.{State}
use Rattle.ybase_graph.specs.declared.search.State.TheVariants.{Unseen, OnPath, Done}
use Rattle.ybase_graph.specs.declared.search.Segment.{Segment}
use Rattle.ybase_graph.proofs.StepLaws.{cases_state, same_place, not_done, unseen_not_placed, unseen_not_done}

-- what wasn't seen before is all that isn't seen now
abbrev pub IsKept : List State → List State → Type 0
IsKept old new = (i : ℕ) → state_at new i ≡ Unseen → state_at old i ≡ Unseen

module _ (w : ℕ → ℕ) where
  head_kept : (v x : ℕ) (o n : State) (os ns : List State) → (n ≡ Unseen → o ≡ Unseen)
      → unseen_weight w (suc v) ns + x ≤ unseen_weight w (suc v) os
      → unseen_weight w v (n ∷ ns) + x ≤ unseen_weight w v (o ∷ os)
  unfolding unseen_weight
  head_kept v x Unseen Unseen os ns up h = omega (arith, h)
  head_kept v x Unseen (OnPath i) os ns up h = omega (arith, h)
  head_kept v x Unseen (Done r) os ns up h = omega (arith, h)
  head_kept v x (OnPath i) Unseen os ns up h = absurd (unseen_not_placed i (sym (up refl)))
  head_kept v x (OnPath i) (OnPath j) os ns up h = h
  head_kept v x (OnPath i) (Done r) os ns up h = h
  head_kept v x (Done r) Unseen os ns up h = absurd (unseen_not_done r (sym (up refl)))
  head_kept v x (Done r) (OnPath i) os ns up h = h
  head_kept v x (Done r) (Done q) os ns up h = h

  pub not_more : (v : ℕ) (old new : List State) → length new ≡ length old → IsKept old new
      → unseen_weight w v new + 0 ≤ unseen_weight w v old
  unfolding unseen_weight
  not_more v [] [] l kept = omega arith
  not_more v [] (n ∷ ns) l kept = absurd (uneven (length ns) l)
    where
      uneven : (k : ℕ) → suc k ≡ 0 → ⊥
      uneven k e = omega (arith, e)
  not_more v (o ∷ os) [] l kept = absurd (uneven (length os) l)
    where
      uneven : (k : ℕ) → 0 ≡ suc k → ⊥
      uneven k e = omega (arith, e)
  not_more v (o ∷ os) (n ∷ ns) l kept =
      head_kept v 0 o n os ns (kept 0) (not_more (suc v) os ns (omega (arith, l)) (λ i. kept (suc i)))

  set_head : (v x : ℕ) (o : State) (os ns : List State) → unseen_weight w (suc v) ns + x ≡ unseen_weight w (suc v) os
      → unseen_weight w v (o ∷ ns) + x ≡ unseen_weight w v (o ∷ os)
  unfolding unseen_weight
  set_head v x Unseen os ns h = omega (arith, h)
  set_head v x (OnPath i) os ns h = h
  set_head v x (Done r) os ns h = h

  pub one_seen : (v i place : ℕ) (states : List State) → state_at states i ≡ Unseen → i < length states
      → unseen_weight w v (slice_set states i (OnPath place)) + w (v + i) ≡ unseen_weight w v states
  unfolding unseen_weight
  one_seen v i place [] is low = absurd (none i low)
    where
      none : (k : ℕ) → k < 0 → ⊥
      none k h = omega (arith, h)
  one_seen v zero place (Unseen ∷ states) is low = let same : w (v + 0) ≡ w v = ap w (omega arith) in omega (arith, same)
  one_seen v zero place (OnPath j ∷ states) is low = absurd (unseen_not_placed j (sym is))
  one_seen v zero place (Done r ∷ states) is low = absurd (unseen_not_done r (sym is))
  one_seen v (suc i) place (o ∷ states) is low =
      let later = one_seen (suc v) i place states is (omega (arith, low)) in
      let same : w (suc v + i) ≡ w (v + suc i) = ap w (omega arith) in
      set_head v (w (v + suc i)) o states (slice_set states i (OnPath place))
      (subst (λ (x : ℕ). unseen_weight w (suc v) (slice_set states i (OnPath place)) + x ≡ unseen_weight w (suc v) states) same later)

-- ---- a node that is entered

module _ (graph : Rows) (states : List State) (segments segments' : List Segment) (v place : ℕ) (new : Segment)
    (is : state_at states v ≡ Unseen) (low : v < length states) (is_segments : segments' ≡ segments ++ new ∷ []) where
  one_segment : length segments' ≡ length segments + 1
  one_segment = ap length is_segments ∙ length-append segments (new ∷ [])

  pub entered_counted : (known n : ℕ) → known + length segments + unseen_weight (λ v. 1) 0 states ≤ n
      → known + length segments' + unseen_weight (λ v. 1) 0 (slice_set states v (OnPath place)) ≤ n
  entered_counted known n h =
      let f = one_seen (λ v. 1) 0 v place states is low in let l = one_segment in omega (arith, h, f, l)

  pub entered_less : (waiting waiting' ts : List ℕ) (row : Vec ℕ Global) → waiting' ≡ waiting ++ ts → ts ≡ row.items
      → row ≡ get_or graph v row → v < length graph
      → unseen_weight (steps_of graph) 0 (slice_set states v (OnPath place)) + length waiting' + length segments'
      < unseen_weight (steps_of graph) 0 states + length waiting + length segments
  entered_less waiting waiting' ts row is_waiting is_ts is_row within =
      let f = one_seen (steps_of graph) 0 v place states is low in
      let l = one_segment in
      let total : length waiting' ≡ length waiting + length ts = ap length is_waiting ∙ length-append waiting ts in
      let same : steps_of graph (0 + v) ≡ length ts + 2 = ap (steps_of graph) (omega arith)
      ∙ ap (λ (o : Option (Vec ℕ Global)). length (option_map_or (λ (r : Vec ℕ Global). r.items) o []) + 2)
      (slice_get_read graph (length graph) v row refl within is_row) ∙ ap (λ (l : List ℕ). length l + 2) (sym is_ts) in
      omega (arith, f, l, total, same)

-- ---- a segment that ends

module _ (graph : Rows) (states : List State) (path : List ℕ) (segments : List Segment) (waiting : List ℕ) (known : ℕ)
    (s : Sound (HasTarget graph) (length graph) states path segments waiting known) (first rank : ℕ) (states' : List State)
    (line : List ℕ) (is_line : line ≡ path) (m : IsMarked line first rank states states') where
  marked : IsMarked path first rank states states'
  marked = subst (λ (x : List ℕ). IsMarked x first rank states states') is_line m

  left_kept : IsKept states states'
  left_kept v is = elim (cases_state (state_at states v)) [
    | inl unseen ↦ unseen
    | inr (inl placed) ↦ elim (cases_lt placed.0 first) [
      | inl before ↦ sym (marked.others v (λ j ge low e. apart placed.0 j before ge
          (sym placed.1 ∙ sym (ap (state_at states) e) ∙ s.placed j low))) ∙ is
      | inr behind ↦ let at = s.on_path v placed.0 placed.1 in
          absurd (unseen_not_done rank (sym is ∙ sym (ap (state_at states') at.1) ∙ marked.marked placed.0 behind at.0))
    ]
    | inr (inr settled) ↦ sym (marked.others v (λ j ge low e.
        not_done j settled.0 (sym (s.placed j low) ∙ ap (state_at states) e ∙ settled.1))) ∙ is
  ]
    where
      apart : (i j : ℕ) → i < first → first ≤ j → OnPath i ≡ OnPath j → ⊥
      apart i j before ge e = let same = same_place i j e in omega (arith, before, ge, same)

  module _ (rest : List Segment) (k : ℕ) (is_k : k ≡ length segments) (some : 0 < length segments) (is_rest : rest ≡ take (k - 1) segments) where
    one_fewer : length rest ≡ k - 1
    one_fewer = ap length is_rest ∙ length-take-le (k - 1) segments (omega (arith, is_k))

    pub left_counted : known + length segments + unseen_weight (λ v. 1) 0 states ≤ length graph
        → known + 1 + length rest + unseen_weight (λ v. 1) 0 states' ≤ length graph
    left_counted h = let c = marked.count in let l = one_fewer in
        let f = not_more (λ v. 1) 0 states states' c left_kept in omega (arith, h, f, l, is_k, some)

    pub left_less : unseen_weight (steps_of graph) 0 states' + length waiting + length rest
        < unseen_weight (steps_of graph) 0 states + length waiting + length segments
    left_less = let c = marked.count in let l = one_fewer in
        let f = not_more (steps_of graph) 0 states states' c left_kept in omega (arith, f, l, is_k, some)

-- ---- before the first step

pub none_seen : (v n : ℕ) → unseen_weight (λ v. 1) v (replicate n Unseen) ≡ n
unfolding unseen_weight
none_seen v zero = refl
none_seen v (suc n) = let h = none_seen (suc v) n in omega (arith, h)

unseen_at : (n v : ℕ) → state_at (replicate n Unseen) v ≡ Unseen
unseen_at zero v = refl
unseen_at (suc n) zero = refl
unseen_at (suc n) (suc v) = unseen_at n v

module _ (graph : Rows) (states : List State) (path : List ℕ) (segments : List Segment) (waiting : List ℕ)
    (is_states : states ≡ replicate (length graph) Unseen) (is_path : path ≡ []) (is_segments : segments ≡ []) (is_waiting : waiting ≡ []) where
  first_state : (v : ℕ) → state_at states v ≡ Unseen
  first_state v = ap (λ (x : List State). state_at x v) is_states ∙ unseen_at (length graph) v

  no_node : (i : ℕ) → i < length path → ⊥
  no_node i low = let l : length path ≡ 0 = ap length is_path in omega (arith, low, l)

  no_segment : (i : ℕ) → i < length segments → ⊥
  no_segment i low = let l : length segments ≡ 0 = ap length is_segments in omega (arith, low, l)

  no_target : (i : ℕ) → i < length waiting → ⊥
  no_target i low = let l : length waiting ≡ 0 = ap length is_waiting in omega (arith, low, l)

  pub first_sound : Sound (HasTarget graph) (length graph) states path segments waiting 0
  first_sound = record {
    count = ap length is_states ∙ length-replicate (length graph) Unseen;
    nodes = λ i low. absurd (no_node i low);
    placed = λ i low. absurd (no_node i low);
    on_path = λ v i is. absurd (unseen_not_placed i (sym (first_state v) ∙ is));
    chain = λ i j up low. absurd (no_node j low);
    back = λ i j up low. absurd (no_node j low);
    rising = λ k l up low. absurd (no_segment l low);
    below = λ k low. absurd (no_segment k low);
    begins = λ i low. absurd (no_node i low);
    fits = λ k low. absurd (no_segment k low);
    waits = λ q low. absurd (no_target q low);
    reached = λ k q low. absurd (no_segment k low);
    covered = λ j b k low. absurd (no_node j low);
    done = λ a r b is. absurd (unseen_not_done r (sym (first_state a) ∙ is));
    joined = λ a b r is. absurd (unseen_not_done r (sym (first_state a) ∙ is));
    ranks = λ a r is. absurd (unseen_not_done r (sym (first_state a) ∙ is));
  }

  pub first_counted : 0 + length segments + unseen_weight (λ v. 1) 0 states ≤ length graph
  first_counted = let l : length segments ≡ 0 = ap length is_segments in
      let w : unseen_weight (λ v. 1) 0 states ≡ length graph = ap (unseen_weight (λ v. 1) 0) is_states ∙ none_seen 0 (length graph) in
      omega (arith, l, w)
