-- What each step of the search keeps.
use Rattle.std.proofs.Common.{◌≡◌, ◌≢◌, ℕ, suc, ◌+◌, ◌<◌, ◌≤◌, List, [], length, refl, sym, ap, ◌∙◌, subst, inl, inr, arith}
use Rattle.std.specs.Prelude.{◌⊎◌}
use Rattle.std.proofs.lemmas.Bool.{cases_eq, cases_lt}
use Rattle.ybase_graph.specs.Reaching.{Reaches, here, along}
use Rattle.ybase_graph.specs.Search.{state_at, node_at, segment_at, first_at, waiting_at, AreTogether, IsMet, Sound, IsMarked}
use Rattle.ybase_graph.specs.declared.search.State.{State}
use Rattle.ybase_graph.specs.declared.search.State.TheVariants.{Unseen, OnPath, Done}
use Rattle.ybase_graph.specs.declared.search.Segment.{Segment}
use Rattle.ybase_graph.proofs.ReachingLaws.{joined}

pub cases_state : (s : State) → (s ≡ Unseen) ⊎ (((i : ℕ) × (s ≡ OnPath i)) ⊎ ((r : ℕ) × (s ≡ Done r)))
cases_state Unseen = inl refl
cases_state (OnPath i) = inr (inl (i, refl))
cases_state (Done r) = inr (inr (r, refl))

pub same_place : (i j : ℕ) → OnPath i ≡ OnPath j → i ≡ j
same_place i j h = cc

pub not_done : (i r : ℕ) → OnPath i ≡ Done r → ⊥
not_done i r h = cc

pub unseen_not_placed : (i : ℕ) → Unseen ≡ OnPath i → ⊥
unseen_not_placed i h = cc

pub unseen_not_done : (r : ℕ) → Unseen ≡ Done r → ⊥
unseen_not_done r h = cc

same_rank : (i j : ℕ) → Done i ≡ Done j → i ≡ j
same_rank i j h = cc

below_zero : (q : ℕ) → q < 0 → ⊥
below_zero q h = omega arith

-- ---- a target that is met

met_now : (states : List State) → (segments : List Segment) → (waiting : List ℕ) → (k b : ℕ)
    → IsMet states segments [] k b → IsMet states segments waiting k b
met_now states segments waiting k b m = elim m [
  | inl d ↦ inl d
  | inr more ↦ elim more [
    | inl p ↦ inr (inl p)
    | inr w ↦ absurd (below_zero w.0 w.2)
  ]
]

module _ (E : ℕ → ℕ → Type 0) (n : ℕ) (states : List State) (path : List ℕ) (segments : List Segment) (waiting : List ℕ) (known : ℕ)
    (s : Sound E n states path segments waiting known) where
  met_but_last : (rest : List ℕ) → length rest + 1 ≡ length waiting → ((q : ℕ) → q < length rest → node_at rest q ≡ node_at waiting q)
      → (k b : ℕ) → IsMet states segments [] k (node_at waiting (length rest)) → IsMet states segments waiting k b → IsMet states segments rest k b
  met_but_last rest count same k b last m = elim m [
    | inl d ↦ inl d
    | inr more ↦ elim more [
      | inl p ↦ inr (inl p)
      | inr w ↦ elim (cases_lt w.0 (length rest)) [
        | inl lt ↦ inr (inr (w.0, w.1, lt, same w.0 lt ∙ w.3))
        | inr ge ↦ let at : length rest ≡ w.0 = omega arith in
            subst (λ (x : ℕ). IsMet states segments rest k x) (ap (node_at waiting) at ∙ w.3) (met_now states segments rest k (node_at waiting (length rest)) last)
      ]
    ]
  ]

  pub skipped : (rest : List ℕ) → length rest + 1 ≡ length waiting → ((q : ℕ) → q < length rest → node_at rest q ≡ node_at waiting q)
      → ((k : ℕ) → k < length segments → waiting_at segments k ≤ length rest)
      → ((k : ℕ) → k < length segments → IsMet states segments [] k (node_at waiting (length rest)))
      → Sound E n states path segments rest known
  skipped rest count same fits last = record {
    count = s.count;
    nodes = s.nodes;
    placed = s.placed;
    on_path = s.on_path;
    chain = s.chain;
    back = s.back;
    rising = s.rising;
    below = s.below;
    begins = s.begins;
    fits = fits;
    waits = λ q h. subst (λ (x : ℕ). x < n) (sym (same q h)) (s.waits q (omega arith));
    reached = λ k q h low high. subst (λ (x : ℕ). Reaches E (node_at path (first_at segments k)) x) (sym (same q high)) (s.reached k q h low (omega arith));
    covered = λ j b k h e at low. met_but_last rest count same k b (last k at) (s.covered j b k h e at low);
    done = s.done;
    joined = s.joined;
    ranks = s.ranks;
  }

  -- ---- the last segment joins the one before it

  pub highest : (k top : ℕ) → length segments ≡ suc top → k < length segments → first_at segments k ≤ first_at segments top
  highest k top count h = elim (cases_eq k top) [
    | inl e ↦ let same : first_at segments k ≡ first_at segments top = ap (first_at segments) e in omega (arith, same)
    | inr ne ↦ let r = (s.rising k top (omega arith) (omega arith)).0 in omega (arith, r)
  ]

  met_rest : (rest : List Segment) → (k b : ℕ) → segment_at rest k ≡ segment_at segments k → IsMet states segments waiting k b
      → IsMet states rest waiting k b
  met_rest rest k b same m = let f : first_at rest k ≡ first_at segments k = ap (λ (x : Segment). x.first) same in
      let w : waiting_at rest k ≡ waiting_at segments k = ap (λ (x : Segment). x.waiting) same in elim m [
        | inl d ↦ inl d
        | inr more ↦ elim more [
          | inl p ↦ inr (inl (p.0, p.1, omega (arith, p.2, f)))
          | inr q ↦ inr (inr (q.0, omega (arith, q.1, w), q.2, q.3))
        ]
      ]

  module _ (rest : List Segment) (top : ℕ) (count : length segments ≡ suc top) (left : length rest ≡ top)
      (same : (k : ℕ) → k < top → segment_at rest k ≡ segment_at segments k) where
    same_first : (k : ℕ) → k < top → first_at rest k ≡ first_at segments k
    same_first k h = ap (λ (x : Segment). x.first) (same k h)

    same_waiting : (k : ℕ) → k < top → waiting_at rest k ≡ waiting_at segments k
    same_waiting k h = ap (λ (x : Segment). x.waiting) (same k h)

    rising_left : (k l : ℕ) → k < l → l < length rest
        → (first_at rest k < first_at rest l) × (waiting_at rest k ≤ waiting_at rest l)
    rising_left k l h low = let r = s.rising k l h (omega arith) in
        let a = same_first k (omega arith) in let b = same_first l (omega arith) in
        let c = same_waiting k (omega arith) in let d = same_waiting l (omega arith) in
        (omega (arith, r.0, a, b), omega (arith, r.1, c, d))

    fits_left : (k : ℕ) → k < length rest → waiting_at rest k ≤ length waiting
    fits_left k h = let a = same_waiting k (omega arith) in let b = s.fits k (omega arith) in omega (arith, a, b)

    together_left : (i j : ℕ) → AreTogether rest i j → (i < first_at segments top → j < first_at segments top) → AreTogether segments i j
    together_left i j t last k h low = elim (cases_eq k top) [
      | inl e ↦ subst (λ (x : ℕ). j < first_at segments x) (sym e) (last (subst (λ (x : ℕ). i < first_at segments x) e low))
      | inr ne ↦ let f = same_first k (omega arith) in let r = t k (omega arith) (omega (arith, f, low)) in omega (arith, r, f)
    ]

    -- the path reaches back from the last segment to a place before it
    module _ (p v : ℕ) (placed : (p < length path) × (node_at path p ≡ v)) (low : p < first_at segments top)
        (to : (j : ℕ) → first_at segments top ≤ j → j < length path → Reaches E (node_at path j) v) where
      to_place : (j : ℕ) → first_at segments top ≤ j → j < length path → Reaches E (node_at path j) (node_at path p)
      to_place j h within = subst (λ (x : ℕ). Reaches E (node_at path j) x) (sym placed.1) (to j h within)

      from_place : (i j : ℕ) → i < first_at segments top → first_at segments top ≤ j → AreTogether rest i j
          → Reaches E (node_at path p) (node_at path i)
      from_place i j h at t = elim (cases_lt i p) [
        | inl lt ↦ s.back i p (omega arith) placed.0 (λ k within first. elim (cases_eq k top) [
          | inl e ↦ subst (λ (x : ℕ). p < first_at segments x) (sym e) low
          | inr ne ↦ let f = same_first k (omega arith) in let r = t k (omega arith) (omega (arith, first, f)) in
              let up = (s.rising k top (omega arith) (omega arith)).0 in absurd (omega (arith, r, f, up))
        ])
        | inr ge ↦ s.chain p i ge (let b = s.below top (omega arith) in omega (arith, b))
      ]

      back_left : (i j : ℕ) → i ≤ j → j < length path → AreTogether rest i j → Reaches E (node_at path j) (node_at path i)
      back_left i j h within t = elim (cases_lt i (first_at segments top)) [
        | inl before ↦ elim (cases_lt j (first_at segments top)) [
          | inl still ↦ s.back i j h within (together_left i j t (λ _. still))
          | inr behind ↦ joined (to_place j behind within) (from_place i j before behind t)
        ]
        | inr behind ↦ s.back i j h within (together_left i j t (λ x. absurd (omega (arith, x, behind))))
      ]

      some_left : 0 < top
      some_left = elim (cases_eq top 0) [
        | inl e ↦ let z = (s.begins p placed.0).1 in let f : first_at segments top ≡ first_at segments 0 = ap (first_at segments) e in absurd (omega (arith, z, f))
        | inr ne ↦ omega arith
      ]

      pub merged : Sound E n states path rest waiting known
      merged = record {
        count = s.count;
        nodes = s.nodes;
        placed = s.placed;
        on_path = s.on_path;
        chain = s.chain;
        back = back_left;
        rising = rising_left;
        below = λ k h. let f = same_first k (omega arith) in let b = s.below k (omega arith) in omega (arith, f, b);
        begins = λ i h. (let z = some_left in omega arith, same_first 0 some_left ∙ (s.begins i h).1);
        fits = fits_left;
        waits = s.waits;
        reached = λ k q h at high. let w = same_waiting k (omega arith) in subst (λ (x : ℕ). Reaches E (node_at path x) (node_at waiting q))
            (sym (same_first k (omega arith))) (s.reached k q (omega arith) (omega (arith, w, at)) high);
        covered = λ j b k h e at first. let f = same_first k (omega arith) in
            met_rest rest k b (same k (omega arith)) (s.covered j b k h e (omega arith) (omega (arith, f, first)));
        done = s.done;
        joined = s.joined;
        ranks = s.ranks;
      }

  -- ---- a node that wasn't seen comes onto the path

  module _ (v : ℕ) (within : v < n) (unseen : state_at states v ≡ Unseen)
      (to : (i : ℕ) → i < length path → Reaches E (node_at path i) v) (targets : (a b : ℕ) → E a b → b < n)
      (states' : List State) (path' : List ℕ) (segments' : List Segment) (waiting' : List ℕ)
      (same_count : length states' ≡ length states) (now : state_at states' v ≡ OnPath (length path))
      (others : (u : ℕ) → u ≢ v → state_at states' u ≡ state_at states u)
      (longer : length path' ≡ length path + 1) (as_before : (i : ℕ) → i < length path → node_at path' i ≡ node_at path i)
      (at_end : node_at path' (length path) ≡ v)
      (more : length segments' ≡ length segments + 1)
      (same : (k : ℕ) → k < length segments → segment_at segments' k ≡ segment_at segments k)
      (new_first : first_at segments' (length segments) ≡ length path)
      (new_waiting : waiting_at segments' (length segments) ≡ length waiting)
      (grows : length waiting ≤ length waiting') (waits_on : (q : ℕ) → q < length waiting → node_at waiting' q ≡ node_at waiting q)
      (new_targets : (q : ℕ) → length waiting ≤ q → q < length waiting' → E v (node_at waiting' q))
      (all_targets : (b : ℕ) → E v b → (q : ℕ) × (length waiting ≤ q) × (q < length waiting') × (node_at waiting' q ≡ b)) where
    k_first : (k : ℕ) → k < length segments → first_at segments' k ≡ first_at segments k
    k_first k h = ap (λ (x : Segment). x.first) (same k h)

    k_waiting : (k : ℕ) → k < length segments → waiting_at segments' k ≡ waiting_at segments k
    k_waiting k h = ap (λ (x : Segment). x.waiting) (same k h)

    seen_other : (u : ℕ) → (state_at states u ≡ Unseen → ⊥) → u ≢ v
    seen_other u seen e = seen (ap (state_at states) e ∙ unseen)

    entered_placed : (i : ℕ) → i < length path' → state_at states' (node_at path' i) ≡ OnPath i
    entered_placed i h = elim (cases_eq i (length path)) [
      | inl e ↦ ap (state_at states') (ap (node_at path') e ∙ at_end) ∙ now ∙ ap (λ (x : ℕ). OnPath x) (sym e)
      | inr ne ↦ let low : i < length path = omega arith in let p = s.placed i low in
          ap (state_at states') (as_before i low) ∙ others (node_at path i) (seen_other (node_at path i) (λ u. let e = sym u ∙ p in unseen_not_placed i e)) ∙ p
    ]

    entered_on_path : (u i : ℕ) → state_at states' u ≡ OnPath i → (i < length path') × (node_at path' i ≡ u)
    entered_on_path u i h = elim (cases_eq u v) [
      | inl e ↦ let at = same_place (length path) i (sym now ∙ ap (state_at states') (sym e) ∙ h) in
          (omega (arith, at), ap (node_at path') (sym at) ∙ at_end ∙ sym e)
      | inr ne ↦ let p = s.on_path u i (sym (others u ne) ∙ h) in (omega (arith, p.0), as_before i p.0 ∙ p.1)
    ]

    to_end : (i : ℕ) → i < length path → Reaches E (node_at path' i) (node_at path' (length path))
    to_end i h = subst (λ (x : ℕ). Reaches E x (node_at path' (length path))) (sym (as_before i h))
        (subst (λ (x : ℕ). Reaches E (node_at path i) x) (sym at_end) (to i h))

    self : (i j : ℕ) → i ≡ j → Reaches E (node_at path' i) (node_at path' j)
    self i j e = subst (λ (x : ℕ). Reaches E (node_at path' i) (node_at path' x)) e here

    before : (i j : ℕ) → i < length path → j < length path → Reaches E (node_at path i) (node_at path j) → Reaches E (node_at path' i) (node_at path' j)
    before i j a b r = subst (λ (x : ℕ). Reaches E x (node_at path' j)) (sym (as_before i a))
        (subst (λ (x : ℕ). Reaches E (node_at path i) x) (sym (as_before j b)) r)

    entered_chain : (i j : ℕ) → i ≤ j → j < length path' → Reaches E (node_at path' i) (node_at path' j)
    entered_chain i j h high = elim (cases_lt j (length path)) [
      | inl low ↦ before i j (omega arith) low (s.chain i j h low)
      | inr ge ↦ elim (cases_lt i (length path)) [
        | inl low ↦ subst (λ (x : ℕ). Reaches E (node_at path' i) (node_at path' x)) (omega arith) (to_end i low)
        | inr same_end ↦ self i j (omega arith)
      ]
    ]

    entered_back : (i j : ℕ) → i ≤ j → j < length path' → AreTogether segments' i j → Reaches E (node_at path' j) (node_at path' i)
    entered_back i j h high t = elim (cases_lt j (length path)) [
      | inl low ↦ before j i low (omega arith) (s.back i j h low (λ k within_k first.
          let f = k_first k within_k in let r = t k (omega arith) (omega (arith, first, f)) in omega (arith, r, f)))
      | inr ge ↦ elim (cases_lt i (length path)) [
        | inl low ↦ let r = t (length segments) (omega arith) (omega (arith, low, new_first)) in absurd (omega (arith, r, new_first))
        | inr same_end ↦ self j i (omega arith)
      ]
    ]

    entered_rising : (k l : ℕ) → k < l → l < length segments'
        → (first_at segments' k < first_at segments' l) × (waiting_at segments' k ≤ waiting_at segments' l)
    entered_rising k l h high = let low : k < length segments = omega arith in let f = k_first k low in let w = k_waiting k low in
        elim (cases_eq l (length segments)) [
          | inl e ↦ let b = s.below k low in let c = s.fits k low in
              let g : first_at segments' l ≡ length path = ap (first_at segments') e ∙ new_first in
              let x : waiting_at segments' l ≡ length waiting = ap (waiting_at segments') e ∙ new_waiting in
              (omega (arith, b, f, g), omega (arith, c, w, x))
          | inr ne ↦ let r = s.rising k l h (omega arith) in let g = k_first l (omega arith) in let x = k_waiting l (omega arith) in
              (omega (arith, r.0, f, g), omega (arith, r.1, w, x))
        ]

    entered_below : (k : ℕ) → k < length segments' → first_at segments' k < length path'
    entered_below k h = elim (cases_eq k (length segments)) [
      | inl e ↦ let g : first_at segments' k ≡ length path = ap (first_at segments') e ∙ new_first in omega (arith, g)
      | inr ne ↦ let low : k < length segments = omega arith in let f = k_first k low in let b = s.below k low in omega (arith, f, b)
    ]

    no_path : length segments ≡ 0 → length path ≡ 0
    no_path e = elim (cases_eq (length path) 0) [
      | inl z ↦ z
      | inr ne ↦ let b = (s.begins 0 (omega arith)).0 in absurd (omega (arith, b))
    ]

    entered_first : first_at segments' 0 ≡ 0
    entered_first = elim (cases_eq (length segments) 0) [
      | inl e ↦ let z = no_path e in ap (first_at segments') (sym e) ∙ new_first ∙ z
      | inr ne ↦ let b = s.below 0 (omega arith) in k_first 0 (omega arith) ∙ (s.begins 0 (omega (arith, b))).1
    ]

    entered_fits : (k : ℕ) → k < length segments' → waiting_at segments' k ≤ length waiting'
    entered_fits k h = elim (cases_eq k (length segments)) [
      | inl e ↦ let x : waiting_at segments' k ≡ length waiting = ap (waiting_at segments') e ∙ new_waiting in omega (arith, x)
      | inr ne ↦ let low : k < length segments = omega arith in let w = k_waiting k low in let c = s.fits k low in omega (arith, w, c)
    ]

    entered_waits : (q : ℕ) → q < length waiting' → node_at waiting' q < n
    entered_waits q h = elim (cases_lt q (length waiting)) [
      | inl low ↦ subst (λ (x : ℕ). x < n) (sym (waits_on q low)) (s.waits q low)
      | inr ge ↦ targets v (node_at waiting' q) (new_targets q ge h)
    ]

    entered_reached : (k q : ℕ) → k < length segments' → waiting_at segments' k ≤ q → q < length waiting'
        → Reaches E (node_at path' (first_at segments' k)) (node_at waiting' q)
    entered_reached k q h at high = elim (cases_eq k (length segments)) [
      | inl e ↦ let g : first_at segments' k ≡ length path = ap (first_at segments') e ∙ new_first in
          let x : waiting_at segments' k ≡ length waiting = ap (waiting_at segments') e ∙ new_waiting in
          subst (λ (y : ℕ). Reaches E y (node_at waiting' q)) (sym (ap (node_at path') g ∙ at_end))
          (along (new_targets q (omega (arith, at, x)) high) here)
      | inr ne ↦ let low : k < length segments = omega arith in let b = s.below k low in
          subst (λ (y : ℕ). Reaches E y (node_at waiting' q)) (sym (ap (node_at path') (k_first k low) ∙ as_before (first_at segments k) b))
          (elim (cases_lt q (length waiting)) [
            | inl old ↦ subst (λ (y : ℕ). Reaches E (node_at path (first_at segments k)) y) (sym (waits_on q old))
                (let w = k_waiting k low in s.reached k q low (omega (arith, at, w)) old)
            | inr ge ↦ joined (to (first_at segments k) b) (along (new_targets q ge high) here)
          ])
    ]

    entered_met : (k b : ℕ) → k < length segments → IsMet states segments waiting k b → IsMet states' segments' waiting' k b
    entered_met k b low m = elim m [
      | inl d ↦ inl (d.0, others b (seen_other b (λ u. unseen_not_done d.0 (sym u ∙ d.1))) ∙ d.1)
      | inr further ↦ elim further [
        | inl p ↦ let f = k_first k low in inr (inl (p.0, others b (seen_other b (λ u. unseen_not_placed p.0 (sym u ∙ p.1))) ∙ p.1, omega (arith, f, p.2)))
        | inr q ↦ let w = k_waiting k low in inr (inr (q.0, omega (arith, w, q.1), omega (arith, q.2), waits_on q.0 q.2 ∙ q.3))
      ]
    ]

    entered_covered : (j b k : ℕ) → j < length path' → E (node_at path' j) b → k < length segments' → first_at segments' k ≤ j
        → IsMet states' segments' waiting' k b
    entered_covered j b k h e at first = elim (cases_lt j (length path)) [
      | inl low ↦ elim (cases_eq k (length segments)) [
        | inl same_k ↦ let g : first_at segments' k ≡ length path = ap (first_at segments') same_k ∙ new_first in absurd (omega (arith, g, first, low))
        | inr ne ↦ let within_k : k < length segments = omega arith in let f = k_first k within_k in
            entered_met k b within_k (s.covered j b k low (subst (λ (x : ℕ). E x b) (as_before j low) e) within_k (omega (arith, f, first)))
      ]
      | inr ge ↦ let end_j : j ≡ length path = omega arith in
          let q = all_targets b (subst (λ (x : ℕ). E x b) (ap (node_at path') end_j ∙ at_end) e) in
          let low : waiting_at segments' k ≤ length waiting = elim (cases_eq k (length segments)) [
            | inl same_k ↦ let x : waiting_at segments' k ≡ length waiting = ap (waiting_at segments') same_k ∙ new_waiting in omega (arith, x)
            | inr ne ↦ let within_k : k < length segments = omega arith in let w = k_waiting k within_k in let c = s.fits k within_k in omega (arith, w, c)
          ] in inr (inr (q.0, omega (arith, low, q.1), q.2, q.3))
    ]

    done_other : (a r : ℕ) → state_at states' a ≡ Done r → a ≢ v
    done_other a r h e = not_done (length path) r (sym now ∙ ap (state_at states') (sym e) ∙ h)

    was_done : (a r : ℕ) → state_at states' a ≡ Done r → state_at states a ≡ Done r
    was_done a r h = sym (others a (done_other a r h)) ∙ h

    still_done : (a r : ℕ) → state_at states a ≡ Done r → state_at states' a ≡ Done r
    still_done a r h = others a (seen_other a (λ u. unseen_not_done r (sym u ∙ h))) ∙ h

    pub entered : Sound E n states' path' segments' waiting' known
    entered = record {
      count = same_count ∙ s.count;
      nodes = λ i h. elim (cases_lt i (length path)) [
        | inl low ↦ subst (λ (x : ℕ). x < n) (sym (as_before i low)) (s.nodes i low)
        | inr ge ↦ subst (λ (x : ℕ). x < n) (sym (ap (node_at path') (let e : i ≡ length path = omega arith in e) ∙ at_end)) within
      ];
      placed = entered_placed;
      on_path = entered_on_path;
      chain = entered_chain;
      back = entered_back;
      rising = entered_rising;
      below = entered_below;
      begins = λ i h. (omega arith, entered_first);
      fits = entered_fits;
      waits = entered_waits;
      reached = entered_reached;
      covered = entered_covered;
      done = λ a r b h e. let d = s.done a r b (was_done a r h) e in (d.0, still_done b d.0 d.1, d.2);
      joined = λ a b r h g. s.joined a b r (was_done a r h) (was_done b r g);
      ranks = λ a r h. s.ranks a r (was_done a r h);
    }

  -- ---- the last segment is done

  module _ (top : ℕ) (count : length segments ≡ suc top) (none_waits : length waiting ≤ waiting_at segments top)
      (states' : List State) (marked : IsMarked path (first_at segments top) known states states') where
    abbrev f : ℕ
    f = first_at segments top

    abbrev StateIs : ℕ → Type 0
    StateIs v = ((i : ℕ) × (f ≤ i) × (i < length path) × (node_at path i ≡ v) × (state_at states' v ≡ Done known))
        ⊎ ((state_at states' v ≡ state_at states v) × ((i : ℕ) → state_at states v ≡ OnPath i → i < f))

    -- a place of the path is that of its node
    place_is : (v i j : ℕ) → i < length path → node_at path i ≡ v → state_at states v ≡ OnPath j → i ≡ j
    place_is v i j h at on = same_place i j (sym (s.placed i h) ∙ ap (state_at states) at ∙ on)

    unchanged : (v : ℕ) → ((i : ℕ) → state_at states v ≡ OnPath i → i < f) → state_at states' v ≡ state_at states v
    unchanged v low = marked.others v (λ i h within at. let r = low i (ap (state_at states) (sym at) ∙ s.placed i within) in omega (arith, r, h))

    kept_state : (v : ℕ) → ((i : ℕ) → state_at states v ≡ OnPath i → i < f) → StateIs v
    kept_state v low = inr (unchanged v low, low)

    state_is : (v : ℕ) → StateIs v
    state_is v = elim (cases_state (state_at states v)) [
      | inl u ↦ kept_state v (λ i on. absurd (unseen_not_placed i (sym u ∙ on)))
      | inr more ↦ elim more [
        | inl p ↦ let on = s.on_path v p.0 p.1 in elim (cases_lt p.0 f) [
          | inl low ↦ kept_state v (λ i other. let e = same_place p.0 i (sym p.1 ∙ other) in omega (arith, e, low))
          | inr high ↦ inl (p.0, high, on.0, on.1, ap (state_at states') (sym on.1) ∙ marked.marked p.0 high on.0)
        ]
        | inr d ↦ kept_state v (λ i on. absurd (not_done i d.0 (sym on ∙ d.1)))
      ]
    ]

    stays_done : (v r : ℕ) → state_at states v ≡ Done r → state_at states' v ≡ Done r
    stays_done v r h = unchanged v (λ i on. absurd (not_done i r (sym on ∙ h))) ∙ h

    -- what a target that is met is now
    met_is_done : (b : ℕ) → IsMet states segments waiting top b → (r : ℕ) × (state_at states' b ≡ Done r) × (r ≤ known)
    met_is_done b m = elim m [
      | inl d ↦ (d.0, stays_done b d.0 d.1, let low = s.ranks b d.0 d.1 in omega (arith, low))
      | inr more ↦ elim more [
        | inl p ↦ let on = s.on_path b p.0 p.1 in (known, ap (state_at states') (sym on.1) ∙ marked.marked p.0 p.2 on.0, omega arith)
        | inr q ↦ absurd (omega (arith, q.1, q.2, none_waits))
      ]
    ]

    lower : (k : ℕ) → k < top → first_at segments k < f
    lower k h = (s.rising k top h (omega arith)).0

    last_together : (i : ℕ) → f ≤ i → (j : ℕ) → AreTogether segments i j
    last_together i h j k within low = let up = highest k top count within in absurd (omega (arith, up, low, h))

    both_last : (i j : ℕ) → f ≤ i → f ≤ j → i < length path → j < length path → Reaches E (node_at path i) (node_at path j)
    both_last i j a b c d = elim (cases_lt i j) [
      | inl lt ↦ s.chain i j (omega arith) d
      | inr ge ↦ s.back j i ge c (last_together j b i)
    ]

    module _ (path' : List ℕ) (shorter : length path' ≡ f) (as_before : (i : ℕ) → i < f → node_at path' i ≡ node_at path i)
        (rest : List Segment) (left : length rest ≡ top) (same : (k : ℕ) → k < top → segment_at rest k ≡ segment_at segments k) where
      within_path : f < length path
      within_path = s.below top (omega arith)

      left_first : (k : ℕ) → k < top → first_at rest k ≡ first_at segments k
      left_first k h = ap (λ (x : Segment). x.first) (same k h)

      still : (i j : ℕ) → i < f → j < f → Reaches E (node_at path i) (node_at path j) → Reaches E (node_at path' i) (node_at path' j)
      still i j a b r = subst (λ (x : ℕ). Reaches E x (node_at path' j)) (sym (as_before i a))
          (subst (λ (x : ℕ). Reaches E (node_at path i) x) (sym (as_before j b)) r)

      left_placed : (i : ℕ) → i < f → state_at states' (node_at path' i) ≡ OnPath i
      left_placed i h = let w = within_path in let p = s.placed i (omega arith) in
          ap (state_at states') (as_before i h) ∙ unchanged (node_at path i) (λ j on. let e = same_place i j (sym p ∙ on) in omega (arith, e, h)) ∙ p

      left_on_path : (v i : ℕ) → state_at states' v ≡ OnPath i → (i < f) × (node_at path' i ≡ v)
      left_on_path v i h = elim (state_is v) [
        | inl d ↦ absurd (not_done i known (sym h ∙ d.4))
        | inr kept ↦ let was = sym kept.0 ∙ h in let low = kept.1 i was in (low, as_before i low ∙ (s.on_path v i was).1)
      ]

      left_met : (k b : ℕ) → k < top → IsMet states segments waiting k b → IsMet states' rest waiting k b
      left_met k b h m = elim (state_is b) [
        | inl d ↦ inl (known, d.4)
        | inr kept ↦ elim m [
          | inl d ↦ inl (d.0, kept.0 ∙ d.1)
          | inr more ↦ elim more [
            | inl p ↦ let e = left_first k h in inr (inl (p.0, kept.0 ∙ p.1, omega (arith, e, p.2)))
            | inr q ↦ let e : waiting_at rest k ≡ waiting_at segments k = ap (λ (x : Segment). x.waiting) (same k h) in inr (inr (q.0, omega (arith, e, q.1), q.2, q.3))
          ]
        ]
      ]

      left_done : (a r b : ℕ) → state_at states' a ≡ Done r → E a b → (t : ℕ) × (state_at states' b ≡ Done t) × (t ≤ r)
      left_done a r b h e = elim (state_is a) [
        | inl d ↦ let here_r = same_rank known r (sym d.4 ∙ h) in
            let m = met_is_done b (s.covered d.0 b top d.2 (subst (λ (x : ℕ). E x b) (sym d.3) e) (omega arith) d.1) in
            (m.0, m.1, omega (arith, m.2, here_r))
        | inr kept ↦ let d = s.done a r b (sym kept.0 ∙ h) e in (d.0, stays_done b d.0 d.1, d.2)
      ]

      left_joined : (a b r : ℕ) → state_at states' a ≡ Done r → state_at states' b ≡ Done r → Reaches E a b
      left_joined a b r h g = elim (state_is a) [
        | inl d ↦ elim (state_is b) [
          | inl c ↦ subst (λ (x : ℕ). Reaches E x b) d.3 (subst (λ (x : ℕ). Reaches E (node_at path d.0) x) c.3 (both_last d.0 c.0 d.1 c.1 d.2 c.2))
          | inr kept ↦ let e = same_rank known r (sym d.4 ∙ h) in let low = s.ranks b r (sym kept.0 ∙ g) in absurd (omega (arith, e, low))
        ]
        | inr kept ↦ elim (state_is b) [
          | inl c ↦ let e = same_rank known r (sym c.4 ∙ g) in let low = s.ranks a r (sym kept.0 ∙ h) in absurd (omega (arith, e, low))
          | inr also ↦ s.joined a b r (sym kept.0 ∙ h) (sym also.0 ∙ g)
        ]
      ]

      left_some : 0 < f → 0 < top
      left_some h = elim (cases_eq top 0) [
        | inl e ↦ let w = within_path in let z = (s.begins 0 (omega arith)).1 in
            let g : first_at segments top ≡ first_at segments 0 = ap (first_at segments) e in absurd (omega (arith, z, g, h))
        | inr ne ↦ omega arith
      ]

      pub left_behind : Sound E n states' path' rest waiting (known + 1)
      left_behind = record {
        count = marked.count ∙ s.count;
        nodes = λ i h. let w = within_path in let low : i < f = omega arith in subst (λ (x : ℕ). x < n) (sym (as_before i low)) (s.nodes i (omega arith));
        placed = λ i h. left_placed i (omega arith);
        on_path = λ v i h. let p = left_on_path v i h in (omega (arith, p.0), p.1);
        chain = λ i j h high. let w = within_path in still i j (omega arith) (omega arith) (s.chain i j h (omega arith));
        back = λ i j h high t. let w = within_path in still j i (omega arith) (omega arith) (s.back i j h (omega arith)
            (together_left rest top count left same i j t (λ x. omega arith)));
        rising = rising_left rest top count left same;
        below = λ k h. let l = lower k (omega arith) in let e = left_first k (omega arith) in omega (arith, l, e);
        begins = λ i h. let w = within_path in let z = left_some (omega arith) in (omega arith, left_first 0 z ∙ (s.begins 0 (omega arith)).1);
        fits = fits_left rest top count left same;
        waits = s.waits;
        reached = λ k q h at high. let low : k < top = omega arith in
            let w : waiting_at rest k ≡ waiting_at segments k = ap (λ (x : Segment). x.waiting) (same k low) in
            subst (λ (x : ℕ). Reaches E x (node_at waiting q))
            (sym (ap (node_at path') (left_first k low) ∙ as_before (first_at segments k) (lower k low)))
            (s.reached k q (omega arith) (omega (arith, w, at)) high);
        covered = λ j b k h e within_k first. let low : k < top = omega arith in let g = left_first k low in let w = within_path in
            left_met k b low (s.covered j b k (omega arith) (subst (λ (x : ℕ). E x b) (as_before j (omega arith)) e) (omega arith) (omega (arith, g, first)));
        done = left_done;
        joined = left_joined;
        ranks = λ a r h. elim (state_is a) [
          | inl d ↦ let e = same_rank known r (sym d.4 ∙ h) in omega (arith, e)
          | inr kept ↦ let low = s.ranks a r (sym kept.0 ∙ h) in omega (arith, low)
        ];
      }
