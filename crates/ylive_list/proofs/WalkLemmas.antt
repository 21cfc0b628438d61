-- What is left of a walk from turn to turn.
use Rattle.std.proofs.Common.{◌≡◌, ℕ, zero, suc, ◌+◌, ◌-◌, ◌≤◌, ◌<◌, cond, eqb, List, [], ◌∷◌, ◌++◌, map, length, drop, Option, Some, None, refl, sym, ap, ap₂, ◌∙◌, subst, arith, append_assoc, length-append}
use Rattle.std.proofs.lemmas.List.{append-nil, map-append, map-id}
use Rattle.std.proofs.lemmas.Simd.{map-map}
use Rattle.std.specs.Option.{option_map_or}
use Rattle.yspec.specs.Forest.{levels}
use Rattle.yspec.specs.schema.Breaks.{level_limit}
use Rattle.yspec.specs.schema.Schema.{Schema}
use Rattle.yspec.specs.document.Document.{Step}
use Rattle.yspec.specs.document.Fault.{Fault}
use Rattle.yspec.specs.document.Faults.{Told, under}
use Rattle.yspec.specs.document.RowFaults.{prefixed}
use Rattle.yspec_play.specs.Merging.{merged_behind}
use Rattle.ystore_rows.specs.Rows.{Child}
use Rattle.ystore.specs.Store.{children_at, play_at, same_at}
use Rattle.ystore.specs.declared.nodes.Nodes.{Nodes}
use Rattle.ystore_rows.specs.declared.row.Row.TheVariants.{Top, Below}
use Rattle.ycheck.specs.Walk.{marks_told}
use Rattle.ylive_list.specs.Listed.{absences_of, child_told, children_told, is_item, judged_at, judged_told, row_told, told_below, told_from}
use Rattle.ylive_list.specs.declared.node_left.NodeLeft.{NodeLeft}
use Rattle.ylive_list.specs.declared.row_left.RowLeft.{RowLeft}
use Rattle.std.specs.Iterator.{Drains, Yields, YieldsFirstBy}
use Rattle.ylive_list.specs.Seen.{seen_view}
use Rattle.ylive_list.specs.declared.seen.Seen.{Seen}
use Rattle.ylive_list.specs.declared.walk.Turn.{Turn}
use Rattle.ylive_list.specs.declared.walk.Walk.{Walk}
use Rattle.ylive_list.specs.Walked.{left, own_left, node_left, row_of, number_above, row_left, step_in, left_in, visits, visits_below, visits_left, visits_in, IsWhole, IsNew, Passes, ComesTo, ComesToChild}

module _ (schema : Schema) (nodes : Nodes) where
  -- ---- one row

  pub in_row : (k : ℕ) (r : RowLeft) → left_in k schema nodes None (r ∷ []) ≡ row_left k schema nodes r
  in_row zero r = refl
  in_row (suc k) r = refl

  visits_row : (k : ℕ) (r : RowLeft) → visits_in k nodes None (r ∷ []) ≡ visits_left k nodes r
  visits_row zero r = refl
  visits_row (suc k) r = omega arith

  -- nothing of it is told
  of_fields : (told_of : Option Child → ℕ → List Told) (above : Option Child) (r : RowLeft) → IsWhole above r
      → merged_behind schema (number_above r.above) r.last.0 r.position (absences_of (drop r.told (play_at nodes (row_of r.above)))) (told_of r.above r.passed)
      ≡ merged_behind schema (number_above above) 0 0 (absences_of (play_at nodes (row_of above))) (told_of above 0)
  of_fields told_of above r w =
      ap (λ (a : Option Child). merged_behind schema (number_above a) r.last.0 r.position (absences_of (drop r.told (play_at nodes (row_of a)))) (told_of a r.passed)) w.above
      ∙ (ap₂ (λ l p. merged_behind schema (number_above above) l p (absences_of (drop r.told (play_at nodes (row_of above)))) (told_of above r.passed)) w.last w.position
      ∙ ap₂ (λ t p. merged_behind schema (number_above above) 0 0 (absences_of (drop t (play_at nodes (row_of above)))) (told_of above p)) w.told w.passed)

  pub whole : (k : ℕ) (above : Option Child) (r : RowLeft) → IsWhole above r
      → row_left k schema nodes r ≡ row_told k schema nodes (number_above above) (row_of above)
  whole zero above r w = of_fields (λ a p. []) above r w
  whole (suc k) above r w = of_fields (λ a p. children_told k schema nodes (drop p (children_at nodes (row_of a)))) above r w

  whole_visits : (k : ℕ) (above : Option Child) (r : RowLeft) → IsWhole above r → visits_left k nodes r ≡ 1 + visits_below k nodes (row_of above)
  whole_visits zero above r w = omega arith
  whole_visits (suc k) above r w = ap₂ (λ (a : Option Child) (p : ℕ). 1 + visits k nodes (drop p (children_at nodes (row_of a)))) w.above w.passed

  -- ---- a node

  new_node : (k : ℕ) (child : Child) (n : NodeLeft) → IsNew child n
      → node_left k schema nodes n ≡ told_from schema nodes (told_below k schema nodes (Below child.1)) child
  new_node k child n w =
      ap (λ (c : Child). (cond n.is_judged [] (option_map_or judged_told (judged_at nodes c.1) [])
      ++ marks_told (is_item schema c.0.0) n.which (drop n.which (same_at nodes c.1)))
      ++ row_told k schema nodes (Some c.0.0) (Below c.1)) w.child
      ∙ ap₂ (λ j u. (cond j [] (option_map_or judged_told (judged_at nodes child.1) [])
      ++ marks_told (is_item schema child.0.0) u (drop u (same_at nodes child.1)))
      ++ row_told k schema nodes (Some child.0.0) (Below child.1)) w.judged w.which

  come_to : (k : ℕ) (child : Child) (n : Option NodeLeft) → ComesToChild nodes child n
      → option_map_or (node_left k schema nodes) n [] ≡ (child_told schema nodes (told_below k schema nodes (Below child.1)) child).faults
  come_to k child None none =
      sym (ap (λ t. cond (eqb t 0) [] (told_from schema nodes (told_below k schema nodes (Below child.1)) child)) none)
  come_to k child (Some n) is = new_node k child n is.1
      ∙ sym (ap (λ b. cond b [] (told_from schema nodes (told_below k schema nodes (Below child.1)) child)) is.0)

  come_visits : (k : ℕ) (child : Child) (n : Option NodeLeft) → ComesToChild nodes child n
      → option_map_or (λ m. 2 + visits_below k nodes (Below m.child.1)) n 0 ≤ 2 + visits_below k nodes (Below child.1)
  come_visits k child None none = omega arith
  come_visits k child (Some n) is =
      let e : visits_below k nodes (Below n.child.1) ≡ visits_below k nodes (Below child.1) = ap (λ (c : Child). visits_below k nodes (Below c.1)) is.1.child in
      omega (arith, e)

  -- ---- rows above

  -- so many levels more than there are rows
  abbrev past : List RowLeft → ℕ → ℕ
  past [] k = k
  past (r ∷ rows) k = suc (past rows k)

  past_is : (rows : List RowLeft) (k : ℕ) → past rows k ≡ length rows + k
  past_is [] k = omega arith
  past_is (r ∷ rows) k = let inner = past_is rows k in omega (arith, inner)

  deeper_left : (outer inner others : List RowLeft) (k : ℕ) (n m : Option NodeLeft) (fs : List Fault)
      → left_in k schema nodes n inner ≡ fs ++ left_in k schema nodes m others
      → left_in (past outer k) schema nodes n (outer ++ inner)
      ≡ map (prefixed (map (step_in schema) outer)) fs ++ left_in (past outer k) schema nodes m (outer ++ others)
  deeper_left [] inner others k n m fs is = is ∙ ap (λ (xs : List Fault). xs ++ left_in k schema nodes m others) (sym (map-id fs))
  deeper_left (r ∷ outer) inner others k n m fs is =
      let row = row_left (suc (past outer k)) schema nodes r in
      let steps = map (step_in schema) outer in
      let later = left_in (past outer k) schema nodes m (outer ++ others) in
      ap (λ (xs : List Fault). map (under (step_in schema r)) xs ++ row) (deeper_left outer inner others k n m fs is)
      ∙ (ap (λ (xs : List Fault). xs ++ row) (map-append (under (step_in schema r)) (map (prefixed steps) fs) later)
      ∙ (append_assoc (map (under (step_in schema r)) (map (prefixed steps) fs)) (map (under (step_in schema r)) later) row
      ∙ ap (λ (xs : List Fault). xs ++ (map (under (step_in schema r)) later ++ row)) (map-map (under (step_in schema r)) (prefixed steps) fs)))

  deeper_visits : (outer inner others : List RowLeft) (k : ℕ) (n m : Option NodeLeft) → visits_in k nodes m others < visits_in k nodes n inner
      → visits_in (past outer k) nodes m (outer ++ others) < visits_in (past outer k) nodes n (outer ++ inner)
  deeper_visits [] inner others k n m less = less
  deeper_visits (r ∷ outer) inner others k n m less = let inside = deeper_visits outer inner others k n m less in omega (arith, inside)

  -- down to so many levels below the last of these rows
  module _ (outer : List RowLeft) (k all : ℕ) (sum : length outer + k ≡ all) where
    sum_is : past outer k ≡ all
    sum_is = past_is outer k ∙ sum

    turned : (inner others : List RowLeft) (n m : Option NodeLeft) (fs : List Fault)
        → left_in k schema nodes n inner ≡ fs ++ left_in k schema nodes m others
        → left_in all schema nodes n (outer ++ inner) ≡ map (prefixed (map (step_in schema) outer)) fs ++ left_in all schema nodes m (outer ++ others)
    turned inner others n m fs is =
        subst (λ (j : ℕ). left_in j schema nodes n (outer ++ inner) ≡ map (prefixed (map (step_in schema) outer)) fs ++ left_in j schema nodes m (outer ++ others))
        sum_is (deeper_left outer inner others k n m fs is)

    fewer : (inner others : List RowLeft) (n m : Option NodeLeft) → visits_in k nodes m others < visits_in k nodes n inner
        → visits_in all nodes m (outer ++ others) < visits_in all nodes n (outer ++ inner)
    fewer inner others n m less =
        subst (λ (j : ℕ). visits_in j nodes m (outer ++ others) < visits_in j nodes n (outer ++ inner)) sum_is (deeper_visits outer inner others k n m less)

    -- a fault of the node at hand
    pub node_turn : (n m : NodeLeft) (f : Fault) → m.child ≡ n.child → own_left schema nodes n ≡ f ∷ own_left schema nodes m
        → left_in all schema nodes (Some n) outer ≡ prefixed (map (step_in schema) outer) f ∷ left_in all schema nodes (Some m) outer
    node_turn n m f same own =
        let here : node_left k schema nodes n ≡ (f ∷ []) ++ node_left k schema nodes m =
        ap₂ ◌++◌ own (ap (λ (c : Child). row_told k schema nodes (Some c.0.0) (Below c.1)) (sym same)) in
        subst (λ (rows : List RowLeft). left_in all schema nodes (Some n) rows ≡ prefixed (map (step_in schema) outer) f ∷ left_in all schema nodes (Some m) rows)
        (append-nil outer) (turned [] [] (Some n) (Some m) (f ∷ []) here)

    -- the row below it
    pub enter_turn : (n : NodeLeft) (r : RowLeft) → IsWhole (Some n.child) r → own_left schema nodes n ≡ []
        → (left_in all schema nodes None (outer ++ r ∷ []) ≡ left_in all schema nodes (Some n) outer)
        × (visits_in all nodes None (outer ++ r ∷ []) < visits_in all nodes (Some n) outer)
    enter_turn n r w own =
        let here : node_left k schema nodes n ≡ [] ++ left_in k schema nodes None (r ∷ []) =
        ap (λ (xs : List Fault). xs ++ row_told k schema nodes (Some n.child.0.0) (Below n.child.1)) own
        ∙ (sym (whole k (Some n.child) r w) ∙ sym (in_row k r)) in
        let row = visits_row k r in
        let new = whole_visits k (Some n.child) r w in (
          sym (subst (λ (rows : List RowLeft). left_in all schema nodes (Some n) rows ≡ left_in all schema nodes None (outer ++ r ∷ []))
              (append-nil outer) (turned [] (r ∷ []) (Some n) None [] here)),
          subst (λ (rows : List RowLeft). visits_in all nodes None (outer ++ r ∷ []) < visits_in all nodes (Some n) rows)
              (append-nil outer) (fewer [] (r ∷ []) (Some n) None (omega (arith, row, new))),
        )

    -- a fault of a node that isn't stored
    pub absence_turn : (r s : RowLeft) (f : Fault) → row_left k schema nodes r ≡ f ∷ row_left k schema nodes s
        → left_in all schema nodes None (outer ++ r ∷ []) ≡ prefixed (map (step_in schema) outer) f ∷ left_in all schema nodes None (outer ++ s ∷ [])
    absence_turn r s f is =
        turned (r ∷ []) (s ∷ []) None None (f ∷ []) (in_row k r ∙ (is ∙ ap (λ (xs : List Fault). f ∷ xs) (sym (in_row k s))))

    -- the end of a row
    pub leave_turn : (r : RowLeft) → row_left k schema nodes r ≡ []
        → (left_in all schema nodes None outer ≡ left_in all schema nodes None (outer ++ r ∷ []))
        × (visits_in all nodes None outer < visits_in all nodes None (outer ++ r ∷ []))
    leave_turn r is =
        let row = visits_row k r in
        let some = at_least k r in (
          sym (subst (λ (rows : List RowLeft). left_in all schema nodes None (outer ++ r ∷ []) ≡ left_in all schema nodes None rows)
              (append-nil outer) (turned (r ∷ []) [] None None [] (in_row k r ∙ is))),
          subst (λ (rows : List RowLeft). visits_in all nodes None rows < visits_in all nodes None (outer ++ r ∷ []))
              (append-nil outer) (fewer (r ∷ []) [] None None (omega (arith, row, some))),
        )
      where
        at_least : (j : ℕ) (r : RowLeft) → 0 < visits_left j nodes r
        at_least zero r = omega arith
        at_least (suc j) r = omega arith

  -- a child that is passed, whether it is come to or not
  pub child_turn : (outer : List RowLeft) (k all : ℕ) → length outer + k ≡ all → (r s : RowLeft) (child : Child) (n : Option NodeLeft)
      → Passes k schema nodes child r s → ComesToChild nodes child n
      → (left_in all schema nodes n (outer ++ s ∷ []) ≡ left_in all schema nodes None (outer ++ r ∷ []))
      × (visits_in all nodes n (outer ++ s ∷ []) < visits_in all nodes None (outer ++ r ∷ []))
  child_turn outer zero all sum r s child n passes comes = absurd (let e = passes.is_more in omega (arith, e))
  child_turn outer (suc k) all sum r s child n passes comes =
      let same : passes.below ≡ k = (let e = passes.is_more in omega (arith, e)) in
      let left : row_left (suc k) schema nodes r
      ≡ map (under (step_in schema s)) (child_told schema nodes (told_below k schema nodes (Below child.1)) child).faults ++ row_left (suc k) schema nodes s =
      subst (λ (j : ℕ). row_left (suc k) schema nodes r
      ≡ map (under (step_in schema s)) (child_told schema nodes (told_below j schema nodes (Below child.1)) child).faults ++ row_left (suc k) schema nodes s) same passes.given in
      let passed : visits_left (suc k) nodes r ≡ 3 + (visits_below k nodes (Below child.1) + visits_left (suc k) nodes s) =
      subst (λ (j : ℕ). visits_left (suc k) nodes r ≡ 3 + (visits_below j nodes (Below child.1) + visits_left (suc k) nodes s)) same passes.fewer in
      let here : left_in (suc k) schema nodes None (r ∷ []) ≡ [] ++ left_in (suc k) schema nodes n (s ∷ []) =
      left ∙ ap (λ (xs : List Fault). map (under (step_in schema s)) xs ++ row_left (suc k) schema nodes s) (sym (come_to k child n comes)) in
      let few = come_visits k child n comes in
      let row = visits_row (suc k) r in (
        sym (turned outer (suc k) all sum (r ∷ []) (s ∷ []) None n [] here),
        fewer outer (suc k) all sum (r ∷ []) (s ∷ []) None n (omega (arith, passed, few, row)),
      )

  -- ---- where there is no row left below

  pub full_left : (rows : List RowLeft) (k : ℕ) (n : Option NodeLeft) → k < length rows → left_in k schema nodes n rows ≡ left_in k schema nodes None rows
  full_left [] k n more = absurd (omega (arith, more))
  full_left (r ∷ rows) zero n more = refl
  full_left (r ∷ rows) (suc k) n more =
      ap (λ (xs : List Fault). map (under (step_in schema r)) xs ++ row_left (suc k) schema nodes r) (full_left rows k n (omega (arith, more)))

  pub full_visits : (rows : List RowLeft) (k : ℕ) (n : Option NodeLeft) → k < length rows → visits_in k nodes n rows ≡ visits_in k nodes None rows
  full_visits [] k n more = absurd (omega (arith, more))
  full_visits (r ∷ rows) zero n more = refl
  full_visits (r ∷ rows) (suc k) n more = ap (λ v. visits_left (suc k) nodes r + v) (full_visits rows k n (omega (arith, more)))

-- ---- what calls have given

pub first_given : (before after : Walk) (seen : List Seen) → Yields (YieldsFirstBy seen_view left) before seen after → left before ≡ map seen_view seen ++ left after
first_given before after [] same = ap left same
first_given before after (x ∷ seen) calls =
    calls.1 ∙ ap (λ (fs : List Fault). seen_view x ∷ fs) (first_given calls.0 after seen calls.2)

pub all_given : (before : Walk) (seen : List Seen) → Drains (YieldsFirstBy seen_view left) before seen → left before ≡ map seen_view seen
all_given before seen calls =
    first_given before calls.1.0 seen calls.1.1 ∙ (ap (λ (fs : List Fault). map seen_view seen ++ fs) calls.1.2.0 ∙ append-nil (map seen_view seen))

-- ---- turns

pub comes_same : (fs gs : List Fault) (v w : ℕ) (turn : Turn) (after : Walk) → gs ≡ fs → w ≡ v → ComesTo fs v turn after → ComesTo gs w turn after
comes_same fs gs v w turn after same count comes =
    subst (λ (k : ℕ). ComesTo gs k turn after) (sym count) (subst (λ (xs : List Fault). ComesTo xs v turn after) (sym same) comes)

-- a fault that is given at a place
pub given_at : (fs rest : List Fault) (steps place : List Step) (f seen : Fault) → fs ≡ prefixed steps f ∷ rest → place ≡ steps → seen ≡ prefixed place f → fs ≡ seen ∷ rest
given_at fs rest steps place f seen is same so =
    is ∙ ap (λ (x : Fault). x ∷ rest) (sym (so ∙ ap (λ (p : List Step). prefixed p f) same))

-- the top row at the start
pub started : (schema : Schema) (nodes : Nodes) (r : RowLeft) (none rows : List RowLeft) → none ≡ [] → rows ≡ none ++ r ∷ [] → IsWhole None r
    → left_in level_limit schema nodes None rows ≡ row_told level_limit schema nodes None Top
started schema nodes r none rows empty is w =
    ap (left_in level_limit schema nodes None) (is ∙ ap (λ (rs : List RowLeft). rs ++ r ∷ []) empty)
    ∙ (in_row schema nodes level_limit r ∙ whole schema nodes level_limit None r w)

-- ---- the innermost row is taken, and put back

module _ (schema : Schema) (nodes : Nodes) (old outer : List RowLeft) (levels : ℕ) (r : RowLeft) (taken : old ≡ outer ++ r ∷ []) (room : levels + length old ≡ 61) where
  pub above_it : length outer + levels ≡ level_limit
  above_it =
      let all = ap length taken in
      let both = length-append outer (r ∷ []) in
      omega (arith, all, both, room)

  pub absence_given : (s : RowLeft) (rows : List RowLeft) (n : Option NodeLeft) (f : Fault) → rows ≡ outer ++ s ∷ [] → n ≡ None
      → row_left levels schema nodes r ≡ f ∷ row_left levels schema nodes s
      → left_in level_limit schema nodes None old ≡ prefixed (map (step_in schema) outer) f ∷ left_in level_limit schema nodes n rows
  absence_given s rows n f put free is =
      ap (left_in level_limit schema nodes None) taken
      ∙ (absence_turn schema nodes outer levels level_limit above_it r s f is
      ∙ ap₂ (λ (m : Option NodeLeft) (rs : List RowLeft). prefixed (map (step_in schema) outer) f ∷ left_in level_limit schema nodes m rs) (sym free) (sym put))

  pub child_given : (s : RowLeft) (rows : List RowLeft) (child : Child) (n : Option NodeLeft) → rows ≡ outer ++ s ∷ []
      → Passes levels schema nodes child r s → ComesToChild nodes child n
      → (left_in level_limit schema nodes n rows ≡ left_in level_limit schema nodes None old)
      × (visits_in level_limit nodes n rows < visits_in level_limit nodes None old)
  child_given s rows child n put passes comes =
      let turn = child_turn schema nodes outer levels level_limit above_it r s child n passes comes in (
        ap (left_in level_limit schema nodes n) put ∙ (turn.0 ∙ ap (left_in level_limit schema nodes None) (sym taken)),
        subst (λ (rs : List RowLeft). visits_in level_limit nodes n rs < visits_in level_limit nodes None old) (sym put)
            (subst (λ (rs : List RowLeft). visits_in level_limit nodes n (outer ++ s ∷ []) < visits_in level_limit nodes None rs) (sym taken) turn.1),
      )

  pub row_given : (n : Option NodeLeft) → n ≡ None → row_left levels schema nodes r ≡ []
      → (left_in level_limit schema nodes n outer ≡ left_in level_limit schema nodes None old)
      × (visits_in level_limit nodes n outer < visits_in level_limit nodes None old)
  row_given n free is =
      let turn = leave_turn schema nodes outer levels level_limit above_it r is in (
        ap (λ (m : Option NodeLeft). left_in level_limit schema nodes m outer) free ∙ (turn.0 ∙ ap (left_in level_limit schema nodes None) (sym taken)),
        subst (λ (m : Option NodeLeft). visits_in level_limit nodes m outer < visits_in level_limit nodes None old) (sym free)
            (subst (λ (rs : List RowLeft). visits_in level_limit nodes None outer < visits_in level_limit nodes None rs) (sym taken) turn.1),
      )

-- the row below the node at hand is entered
pub entered : (schema : Schema) (nodes : Nodes) (outer rows : List RowLeft) (n : NodeLeft) (child : Child) (m : Option NodeLeft) (r : RowLeft) → length outer < 61
    → child ≡ n.child → IsWhole (Some child) r → rows ≡ outer ++ r ∷ [] → m ≡ None → own_left schema nodes n ≡ []
    → (left_in level_limit schema nodes m rows ≡ left_in level_limit schema nodes (Some n) outer)
    × (visits_in level_limit nodes m rows < visits_in level_limit nodes (Some n) outer)
entered schema nodes outer rows n child m r room same w put free own =
    let sum : length outer + (level_limit - length outer) ≡ level_limit = omega (arith, room) in
    let whole : IsWhole (Some n.child) r = subst (λ (c : Child). IsWhole (Some c) r) same w in
    let turn = enter_turn schema nodes outer (level_limit - length outer) level_limit sum n r whole own in (
      ap₂ (left_in level_limit schema nodes) free put ∙ turn.0,
      subst (λ (k : Option NodeLeft). visits_in level_limit nodes k rows < visits_in level_limit nodes (Some n) outer) (sym free)
          (subst (λ (rs : List RowLeft). visits_in level_limit nodes None rs < visits_in level_limit nodes (Some n) outer) (sym put) turn.1),
    )

-- a fault of the node at hand is given
pub node_given : (schema : Schema) (nodes : Nodes) (outer : List RowLeft) (n m : NodeLeft) (f : Fault) → length outer < 61 → m.child ≡ n.child
    → own_left schema nodes n ≡ f ∷ own_left schema nodes m
    → left_in level_limit schema nodes (Some n) outer ≡ prefixed (map (step_in schema) outer) f ∷ left_in level_limit schema nodes (Some m) outer
node_given schema nodes outer n m f room same own =
    let sum : length outer + (level_limit - length outer) ≡ level_limit = omega (arith, room) in
    node_turn schema nodes outer (level_limit - length outer) level_limit sum n m f same own
