-- Changes of a row by one branch, done and undone.
use Rattle.std.proofs.Common.{◌≡◌, ℕ, zero, suc, ◌+◌, ◌<◌, ◌≤◌, Bool, true, false, List, [], ◌∷◌, ◌++◌, length, min, Option, Some, None, option_map, refl, sym, ap, ap₂, ◌∙◌, arith, subst, cond, eqb, leb, ltb, insert, slice_get, ◌-◌}
use Rattle.std.specs.Prelude.{IfSome}
use Rattle.std.specs.Option.{option_map_or}
use Rattle.std.specs.List.{list_all}
use Rattle.std.proofs.lemmas.Bool.{and_from, eq-eqb, le-leb, le-ltb, lt-ltb, ltb-true, ltb-false}
use Rattle.std.proofs.lemmas.List.Sums.{prefix_len-le-length}
use Rattle.yspec.specs.Forest.{end, node, join}
use Rattle.yspec.specs.document.Document.{instances_in}
use Rattle.yspec.specs.document.Sorting.{IsSorted}
use Rattle.yschema_model.specs.declared.node.SchemaId.{SchemaId}
use Rattle.ystore_rows.specs.Rows as rows
use Rattle.ystore_rows.specs.Rows.{Child}
use Rattle.ystore.specs.Held.{Held, with_children}
use Rattle.ystore.specs.Store.{held_at, has_room, same_row, there, ChangesRow}
use Rattle.ystore_rows.specs.declared.row.NodeId.{NodeId}
use Rattle.ystore_rows.specs.declared.row.Row.{Row}
use Rattle.ystore_rows.specs.declared.row.Row.TheVariants.{Top}
use Rattle.ystore.specs.declared.nodes.Nodes.{Nodes}
use Rattle.ystore_rows.proofs.CallerLemmas.{added_is_last, out_again}
use Rattle.ystore_rows.proofs.RowLemmas.{ascends_brought, ascends_remove, count_is, first_before_end, place_at_in_row, shifted_is}
use Rattle.ystore_tree.specs.Hanging.{Numbered, Branches, tree_of, child_of, children_of, Keeps, is_number, times}
use Rattle.ystore_tree.specs.Ways.{Way, around, end_of}
use Rattle.ystore_tree.specs.Changes.{put_at, with_node_at}
use Rattle.ystore_tree.specs.Parts.{OnlyReads}
use Rattle.ystore_tree.specs.Swaps.{Swaps, swapped, swapped_back, makes_room}
use Rattle.ystore_tree.specs.declared.swapping.Change.{Change}
use Rattle.ystore_tree.specs.declared.swapping.Change.TheVariants.{Add, Put, Take, Move}
use Rattle.ystore_tree.proofs.HangingLemmas.{weigh_join, weigh_around, is_itself, children_join, at_end}
use Rattle.ystore_tree.proofs.FrameLemmas.{same_rows}
use Rattle.ystore_tree.proofs.FoundLemmas.{counted, instances-cons, instances_join, of_schema-cons}
use Rattle.ystore_tree.proofs.ChangeLemmas.{children_put, list_taken, list_put, list_shifted, added, put, taken, moved}

-- ---- a node that is put into a row parts it

record Parted (p : ℕ) (n : Numbered) (below f : Branches) : Type 0 where
  before : Branches
  after : Branches
  was : f ≡ join before after
  now : put_at p n below f ≡ join before (node n below after)

parted : (p : ℕ) (n : Numbered) (below f : Branches) → Parted p n below f
parted zero n below f = record { before = end; after = f; was = refl; now = refl }
parted (suc p) n below end = record { before = end; after = end; was = refl; now = refl }
parted (suc p) n below (node m under after) =
    let rest = parted p n below after in
    record { before = node m under rest.before; after = rest.after; was = ap (node m under) rest.was; now = ap (node m under) rest.now }

-- ---- the lists of children

none_first : (k : ℕ) (f g : Branches) → times k (join f g) ≡ 0 → times k f ≡ 0
none_first k f g none = let both = weigh_join (is_number k) f g in omega (arith, both, none)

pub put_back : (first rest : Branches) (m : Numbered) (under : Branches) (n : Numbered) (below : Branches) → m.schema ≡ n.schema
    → times m.id.0 first ≡ 0 → times n.id.0 first ≡ 0
    → rows.put (child_of n) m.id (rows.put (child_of m) n.id (children_of (join first (node m under rest)))) ≡ children_of (join first (node m under rest))
put_back first rest m under n below same none other =
    ap (rows.put (child_of n) m.id) (list_put first rest m under none n below same)
    ∙ list_put first rest n below other m under (sym same)

-- ---- the place of a node that was taken out

up_to : (first rest : Branches) (m : Numbered) (under : Branches) (x : Numbered) (b : Branches)
    → IsSorted (tree_of (node x b (join first (node m under rest)))) → x.schema.0 ≤ m.schema.0
up_to end rest m under x b sorted = sorted.0
up_to (node y c after) rest m under x b sorted =
    let first = sorted.0 in let later = up_to after rest m under y c sorted.2 in omega (arith, first, later)

pub none_less : (s : SchemaId) (f : Branches) (k : ℕ) → s.0 ≤ k → (b : Branches) (x : Numbered) → x.schema.0 ≡ k → IsSorted (tree_of (node x b f)) → rows.first_place s (children_of f) ≡ 0
none_less s end k less b x is sorted = refl
none_less s (node y c after) k less b x is sorted = by (ltb y.schema.0 s.0) refl
  where
    by : (l : Bool) → ltb y.schema.0 s.0 ≡ l → rows.first_place s (children_of (node y c after)) ≡ 0
    by true e = let up = sorted.0 in let under = ltb-true y.schema.0 s.0 e in absurd (omega (arith, less, is, up, under))
    by false e = ap (λ l. cond l (1 + rows.first_place s (children_of after)) 0) e

place_is : (first rest : Branches) (m : Numbered) (under : Branches) → IsSorted (tree_of (join first (node m under rest)))
    → rows.first_place m.schema (children_of (join first rest)) + instances_in (tree_of first) m.schema.0 ≡ length (children_of first)
place_is end rest m under sorted = let none = none_less m.schema rest m.schema.0 (omega arith) under m refl sorted in omega (arith, none)
place_is (node x b after) rest m under sorted = by (place_is after rest m under sorted.2) (ltb x.schema.0 m.schema.0) refl
  where
    most : x.schema.0 ≤ m.schema.0
    most = up_to after rest m under x b sorted

    differ : x.schema.0 < m.schema.0 → eqb x.schema.0 m.schema.0 ≡ false
    differ less = grind (arith, less)

    -- none of the row is less than the node with which it begins
    begins : (f : Branches) → IsSorted (tree_of (node x b (join f (node m under rest)))) → m.schema.0 ≤ x.schema.0 → rows.first_place m.schema (children_of (join f rest)) ≡ 0
    begins end s less = none_less m.schema rest m.schema.0 (omega arith) under m refl s.2
    begins (node y c f) s less = by (ltb y.schema.0 m.schema.0) refl
      where
        by : (l : Bool) → ltb y.schema.0 m.schema.0 ≡ l → rows.first_place m.schema (children_of (join (node y c f) rest)) ≡ 0
        by true e = let up = s.0 in let below = ltb-true y.schema.0 m.schema.0 e in absurd (omega (arith, less, up, below))
        by false e = ap (λ l. cond l (1 + rows.first_place m.schema (children_of (join f rest))) 0) e

    by : rows.first_place m.schema (children_of (join after rest)) + instances_in (tree_of after) m.schema.0 ≡ length (children_of after)
        → (l : Bool) → ltb x.schema.0 m.schema.0 ≡ l
        → rows.first_place m.schema (children_of (join (node x b after) rest)) + instances_in (tree_of (node x b after)) m.schema.0 ≡ length (children_of (node x b after))
    by inner true e =
        let place : rows.first_place m.schema (children_of (join (node x b after) rest)) ≡ 1 + rows.first_place m.schema (children_of (join after rest)) =
        ap (λ l. cond l (1 + rows.first_place m.schema (children_of (join after rest))) 0) e in
        let count = instances-cons x b after m.schema.0 false (differ (ltb-true x.schema.0 m.schema.0 e)) in
        omega (arith, place, count, inner)
    by inner false e =
        let least = ltb-false x.schema.0 m.schema.0 e in
        let place : rows.first_place m.schema (children_of (join (node x b after) rest)) ≡ 0 =
        ap (λ l. cond l (1 + rows.first_place m.schema (children_of (join after rest))) 0) e in
        let none = begins after sorted (omega (arith, least)) in
        let same : eqb x.schema.0 m.schema.0 ≡ true = grind (arith, least, most) in
        let count = instances-cons x b after m.schema.0 true same in
        omega (arith, place, count, inner, none)

put_between : (first rest : Branches) (m : Numbered) (under : Branches) → put_at (length (children_of first)) m under (join first rest) ≡ join first (node m under rest)
put_between end rest m under = refl
put_between (node x b after) rest m under = ap (node x b) (put_between after rest m under)

pub same_place : (first rest : Branches) (m : Numbered) (under : Branches) → IsSorted (tree_of (join first (node m under rest)))
    → with_node_at (instances_in (tree_of first) m.schema.0) m under (join first rest) ≡ join first (node m under rest)
same_place first rest m under sorted =
    ap (λ k. put_at k m under (join first rest))
    (let place = place_is first rest m under sorted in
    let count = counted m.schema (join first rest) in
    let both = instances_join first rest m.schema.0 in
    let least : min (instances_in (tree_of first) m.schema.0) (length (rows.of_schema m.schema (children_of (join first rest)))) ≡ instances_in (tree_of first) m.schema.0 =
    grind (arith, count, both) in
    omega (arith, place, least))
    ∙ put_between first rest m under

pub taken_back : (first rest : Branches) (m : Numbered) (under : Branches) → IsSorted (tree_of (join first (node m under rest)))
    → rows.brought (child_of m) (instances_in (tree_of first) m.schema.0)
    (rows.without_at m.schema (instances_in (tree_of first) m.schema.0) (children_of (join first (node m under rest))))
    ≡ children_of (join first (node m under rest))
taken_back first rest m under sorted =
    let place = instances_in (tree_of first) m.schema.0 in
    let at = rows.first_place m.schema (children_of (join first rest)) + min place (length (rows.of_schema m.schema (children_of (join first rest)))) in
    ap (rows.brought (child_of m) place) (list_taken first rest m under)
    ∙ (sym (children_put at m under (join first rest))
    ∙ ap children_of (same_place first rest m under sorted))

-- ---- rows in order

sorted_after : (x n : Numbered) (b below f : Branches) → IsSorted (tree_of (node x b (node n below f))) → IsSorted (tree_of (node x b f))
sorted_after x n b below end sorted = (tt, sorted.1, tt)
sorted_after x n b below (node y c f) sorted =
    let first = sorted.0 in let next = sorted.2.0 in (omega (arith, first, next), sorted.1, sorted.2.2)

ascends_from : (x : Numbered) (b f : Branches) → IsSorted (tree_of (node x b f)) → list_all (λ d. leb x.schema.0 d.0.0) (children_of f) ≡ true
ascends_from x b end sorted = refl
ascends_from x b (node n below f) sorted =
    and_from (leb x.schema.0 n.schema.0) (list_all (λ d. leb x.schema.0 d.0.0) (children_of f)) (le-leb x.schema.0 n.schema.0 sorted.0)
    (ascends_from x b f (sorted_after x n b below f sorted))

row_ascends : (f : Branches) → IsSorted (tree_of f) → rows.ascends (children_of f) ≡ true
row_ascends end sorted = refl
row_ascends (node n below f) sorted =
    and_from (list_all (λ d. leb n.schema.0 d.0.0) (children_of f)) (rows.ascends (children_of f)) (ascends_from n below f sorted) (row_ascends f sorted.2)

-- the others of a row in order stand in order
others_ascend : (first rest : Branches) (m : Numbered) (under : Branches) → IsSorted (tree_of (join first (node m under rest)))
    → rows.ascends (children_of (join first rest)) ≡ true
others_ascend first rest m under sorted =
    let row = children_of (join first (node m under rest)) in
    subst (λ (cs : List Child). rows.ascends cs ≡ true) (list_taken first rest m under)
    (ascends_remove row (rows.place_at m.schema (instances_in (tree_of first) m.schema.0) row) (row_ascends (join first (node m under rest)) sorted))

count_insert : (y : Child) (row : List Child) (i : ℕ) → length (rows.of_schema y.0 (insert row i y)) ≡ suc (length (rows.of_schema y.0 row))
count_insert y row zero = ap length (of_schema-cons y.0 y row true (eq-eqb y.0.0 y.0.0 refl))
count_insert y [] (suc i) = ap length (of_schema-cons y.0 y [] true (eq-eqb y.0.0 y.0.0 refl))
count_insert y (c ∷ row) (suc i) = by (eqb c.0.0 y.0.0) refl (count_insert y row i)
  where
    by : (b : Bool) → eqb c.0.0 y.0.0 ≡ b → length (rows.of_schema y.0 (insert row i y)) ≡ suc (length (rows.of_schema y.0 row))
        → length (rows.of_schema y.0 (c ∷ insert row i y)) ≡ suc (length (rows.of_schema y.0 (c ∷ row)))
    by true e rest =
        ap length (of_schema-cons y.0 c (insert row i y) true e) ∙ (ap suc rest ∙ ap (λ (ids : List NodeId). suc (length ids)) (sym (of_schema-cons y.0 c row true e)))
    by false e rest =
        ap length (of_schema-cons y.0 c (insert row i y) false e) ∙ (rest ∙ ap (λ (ids : List NodeId). suc (length ids)) (sym (of_schema-cons y.0 c row false e)))

first_insert : (y : Child) (row : List Child) (i : ℕ) → rows.first_place y.0 row ≤ i → rows.first_place y.0 (insert row i y) ≡ rows.first_place y.0 row
first_insert y [] zero past = ap (λ b. cond b (1 + 0) 0) (le-ltb y.0.0 y.0.0 (omega arith))
first_insert y [] (suc i) past = ap (λ b. cond b (1 + 0) 0) (le-ltb y.0.0 y.0.0 (omega arith))
first_insert y (c ∷ row) zero past = by (ltb c.0.0 y.0.0) refl past
  where
    by : (b : Bool) → ltb c.0.0 y.0.0 ≡ b → cond (ltb c.0.0 y.0.0) (1 + rows.first_place y.0 row) 0 ≤ 0
        → rows.first_place y.0 (y ∷ c ∷ row) ≡ rows.first_place y.0 (c ∷ row)
    by true e past = let more : 1 + rows.first_place y.0 row ≤ 0 = subst (λ b. cond b (1 + rows.first_place y.0 row) 0 ≤ 0) e past in absurd (omega (arith, more))
    by false e past = rw (le-ltb y.0.0 y.0.0 (omega arith), e) refl
first_insert y (c ∷ row) (suc i) past = by (ltb c.0.0 y.0.0) refl (first_insert y row i) past
  where
    by : (b : Bool) → ltb c.0.0 y.0.0 ≡ b → (rows.first_place y.0 row ≤ i → rows.first_place y.0 (insert row i y) ≡ rows.first_place y.0 row)
        → cond (ltb c.0.0 y.0.0) (1 + rows.first_place y.0 row) 0 ≤ suc i
        → rows.first_place y.0 (c ∷ insert row i y) ≡ rows.first_place y.0 (c ∷ row)
    by true e rest past =
        let more : 1 + rows.first_place y.0 row ≤ suc i = subst (λ b. cond b (1 + rows.first_place y.0 row) 0 ≤ suc i) e past in
        rw e (ap (λ n. 1 + n) (rest (omega (arith, more))))
    by false e rest past = rw e refl

there_again : (row : List Child) (i : ℕ) (y : Child) → i ≤ length row → slice_get (insert row i y) i ≡ Some y
there_again row zero y within = refl
there_again [] (suc i) y within = absurd (omega (arith, within))
there_again (c ∷ row) (suc i) y within = there_again row i y (omega (arith, within))

-- a child that was brought to a place is brought from there to another
pub shifted_again : (y : Child) (to back : ℕ) (row : List Child) → rows.ascends row ≡ true
    → rows.shifted y.0 to back (rows.brought y to row) ≡ rows.brought y back row
shifted_again y to back row all =
    let n = length (rows.of_schema y.0 row) in
    let first = rows.first_place y.0 row in
    let i = first + min to n in
    let then = rows.brought y to row in
    let count : length (rows.of_schema y.0 then) ≡ suc n = count_insert y row i in
    let start : rows.first_place y.0 then ≡ first = first_insert y row i (omega arith) in
    let within : i ≤ length row = let many = count_is y.0 row all in let end = prefix_len-le-length (λ c. leb c.0.0 y.0.0) row in let order = first_before_end y.0 row in grind (arith, many, end, order) in
    let k = min to (length (rows.of_schema y.0 then) - 1) in
    let same : k ≡ min to n = ap (λ m. min to (m - 1)) count ∙ ap (min to) (less n) in
    let few : k < length (rows.of_schema y.0 then) = omega (arith, same, count) in
    let at : rows.place_at y.0 k then ≡ i =
    place_at_in_row y.0 k then (ascends_brought row y to all)
    ∙ (ap (λ b. cond b (rows.first_place y.0 then + k) (length then)) (lt-ltb k (length (rows.of_schema y.0 then)) few)
    ∙ ap₂ (λ f m. f + m) start same) in
    sym (shifted_is y.0 to back i then y (sym at) (there_again row i y within))
    ∙ ap (rows.brought y back) (out_again row i y within)
  where
    less : (m : ℕ) → suc m - 1 ≡ m
    less m = omega arith

pub moved_back : (to : ℕ) (first rest : Branches) (m : Numbered) (under : Branches) → IsSorted (tree_of (join first (node m under rest)))
    → rows.shifted m.schema to (instances_in (tree_of first) m.schema.0)
    (rows.shifted m.schema (instances_in (tree_of first) m.schema.0) to (children_of (join first (node m under rest))))
    ≡ children_of (join first (node m under rest))
moved_back to first rest m under sorted =
    let from = instances_in (tree_of first) m.schema.0 in
    let others = children_of (join first rest) in
    let at = rows.first_place m.schema others + min from (length (rows.of_schema m.schema others)) in
    let there = rows.first_place m.schema others + min to (length (rows.of_schema m.schema others)) in
    ap (rows.shifted m.schema to from) (list_shifted first rest m under to ∙ children_put there m under (join first rest))
    ∙ (shifted_again (child_of m) to from others (others_ascend first rest m under sorted)
    ∙ (sym (children_put at m under (join first rest))
    ∙ ap children_of (same_place first rest m under sorted)))

-- ---- a change is the definition's, and is undone

child_is : (n : Numbered) (schema : SchemaId) (id : NodeId) → n.schema ≡ schema → n.id ≡ id → child_of n ≡ (schema, id)
child_is n schema id s i = ap₂ (λ (s : SchemaId) (i : NodeId). (s, i)) s i

module _ (above : Row) (way : Way) (at : end_of Top way ≡ above) where
  keeps_there : (nodes : Nodes) (f loose : Branches) → Keeps nodes (around way f) above loose → Keeps nodes (around way f) (end_of Top way) loose
  keeps_there nodes f loose = subst (λ (r : Row). Keeps nodes (around way f) r loose) (sym at)

  keeps_here : (nodes : Nodes) (f loose : Branches) → Keeps nodes (around way f) (end_of Top way) loose → Keeps nodes (around way f) above loose
  keeps_here nodes f loose = subst (λ (r : Row). Keeps nodes (around way f) r loose) at

  changes_there : (c : List Child → List Child) (before after : Nodes) → ChangesRow above (option_map (with_children c)) before after
      → ChangesRow (end_of Top way) (option_map (with_children c)) before after
  changes_there c before after = subst (λ (r : Row). ChangesRow r (option_map (with_children c)) before after) (sym at)

  pub made : (before after : Nodes) (f loose g left : Branches) (schema : SchemaId) (change : Change) → Swaps schema change f loose g left
      → Keeps before (around way f) above loose → ChangesRow above (option_map (with_children (swapped schema change))) before after
      → Keeps after (around way g) above left
  made before after f loose g left schema (Add new) a keeps changes =
      keeps_here after g left
      (subst (λ (l : Branches). Keeps after (around way g) (end_of Top way) l) (sym a.none)
      (subst (λ (h : Branches). Keeps after (around way h) (end_of Top way) end) (sym a.row)
      (added before after way f a.label a.below
      (subst (λ (l : Branches). Keeps before (around way f) (end_of Top way) l) a.beside (keeps_there before f loose keeps))
      (subst (λ (c : Child). ChangesRow (end_of Top way) (option_map (with_children (rows.added c))) before after) (sym (child_is a.label schema new a.is_schema a.is_new))
      (changes_there (rows.added (schema, new)) before after changes)))))
  made before after f loose g left schema (Put old new) p keeps changes =
      keeps_here after g left
      (subst (λ (l : Branches). Keeps after (around way g) (end_of Top way) l) (sym p.goes)
      (subst (λ (h : Branches). Keeps after (around way h) (end_of Top way) (node p.from p.under end)) (sym p.row)
      (put before after way p.before p.after p.from p.under p.to p.below
      (subst (λ (l : Branches). Keeps before (around way (join p.before (node p.from p.under p.after))) (end_of Top way) l) p.beside
      (subst (λ (h : Branches). Keeps before (around way h) (end_of Top way) loose) p.was (keeps_there before f loose keeps)))
      (p.is_schema ∙ sym p.same_schema)
      (subst (λ (i : NodeId). ChangesRow (end_of Top way) (option_map (with_children (rows.put (child_of p.from) i))) before after) (sym p.is_new)
      (subst (λ (c : Child). ChangesRow (end_of Top way) (option_map (with_children (rows.put c new))) before after) (sym (child_is p.from schema old p.is_schema p.is_old))
      (changes_there (rows.put (schema, old) new) before after changes))))))
  made before after f loose g left schema (Take old place) t keeps changes =
      keeps_here after g left
      (subst (λ (l : Branches). Keeps after (around way g) (end_of Top way) l) (sym t.goes)
      (subst (λ (h : Branches). Keeps after (around way h) (end_of Top way) (node t.from t.under end)) (sym t.row)
      (taken before after way t.before t.after t.from t.under
      (subst (λ (l : Branches). Keeps before (around way (join t.before (node t.from t.under t.after))) (end_of Top way) l) t.none
      (subst (λ (h : Branches). Keeps before (around way h) (end_of Top way) loose) t.was (keeps_there before f loose keeps)))
      (subst (λ (s : SchemaId). ChangesRow (end_of Top way) (option_map (with_children (rows.without_at s (instances_in (tree_of t.before) s.0)))) before after) (sym t.is_schema)
      (subst (λ (k : ℕ). ChangesRow (end_of Top way) (option_map (with_children (rows.without_at schema k))) before after) (sym t.is_place)
      (changes_there (rows.without_at schema place) before after changes))))))
  made before after f loose g left schema (Move id from to) m keeps changes =
      keeps_here after g left
      (subst (λ (l : Branches). Keeps after (around way g) (end_of Top way) l) (sym m.none_left)
      (subst (λ (h : Branches). Keeps after (around way h) (end_of Top way) end) (sym m.row)
      (moved before after way m.before m.after m.label m.under to end
      (subst (λ (l : Branches). Keeps before (around way (join m.before (node m.label m.under m.after))) (end_of Top way) l) m.none
      (subst (λ (h : Branches). Keeps before (around way h) (end_of Top way) loose) m.was (keeps_there before f loose keeps)))
      (subst (λ (s : SchemaId). ChangesRow (end_of Top way) (option_map (with_children (rows.shifted s (instances_in (tree_of m.before) s.0) to))) before after) (sym m.is_schema)
      (subst (λ (k : ℕ). ChangesRow (end_of Top way) (option_map (with_children (rows.shifted schema k to))) before after) (sym m.is_from)
      (changes_there (rows.shifted schema from to) before after changes))))))

  -- how often a number stands in the row and beside the tree
  once_there : (nodes : Nodes) (f loose : Branches) → Keeps nodes (around way f) above loose → (k : ℕ) → times k f + times k loose ≤ 1
  once_there nodes f loose keeps k =
      let most = keeps.once k in let whole = weigh_around (is_number k) way f in omega (arith, most, whole)

  listed : (nodes : Nodes) (f loose : Branches) → Keeps nodes (around way f) above loose
      → option_map_or (λ (held : Held). held.shape.children) (held_at nodes above) [] ≡ children_of f
  listed nodes f loose keeps =
      subst (λ (r : Row). option_map_or (λ (held : Held). held.shape.children) (held_at nodes r) [] ≡ children_of f) at (at_end nodes Top way f keeps.hangs).listed

  restored : (nodes : Nodes) (f loose g left : Branches) (schema : SchemaId) (change : Change) → Swaps schema change f loose g left → IsSorted (tree_of f)
      → Keeps nodes (around way f) above loose → swapped_back schema change (swapped schema change (children_of f)) ≡ children_of f
  restored nodes f loose g left schema (Add new) a sorted keeps =
      subst (λ (c : Child). rows.without_last c.0 (rows.added c (children_of f)) ≡ children_of f) (child_is a.label schema new a.is_schema a.is_new)
      (added_is_last (child_of a.label) (children_of f))
  restored nodes f loose g left schema (Put old new) p sorted keeps =
      let parts = weigh_join (is_number p.from.id.0) p.before (node p.from p.under p.after) in
      let was = ap (times p.from.id.0) p.was in
      let most = once_there nodes f loose keeps p.from.id.0 in
      let here = is_itself p.from in
      let others = weigh_join (is_number p.to.id.0) p.before (node p.from p.under p.after) in
      let stood = ap (times p.to.id.0) p.was in
      let few = once_there nodes f loose keeps p.to.id.0 in
      let beside = ap (times p.to.id.0) p.beside in
      let there = is_itself p.to in
      let back = put_back p.before p.after p.from p.under p.to p.below (p.is_schema ∙ sym p.same_schema) (omega (arith, parts, was, most, here)) (omega (arith, others, stood, few, beside, there)) in
      subst (λ (cs : List Child). rows.put (schema, new) old (rows.put (schema, old) new cs) ≡ cs) (ap children_of (sym p.was))
      (subst (λ (i : NodeId). rows.put (schema, i) old (rows.put (schema, old) i (children_of (join p.before (node p.from p.under p.after)))) ≡ children_of (join p.before (node p.from p.under p.after))) p.is_new
      (subst (λ (i : NodeId). rows.put (schema, p.to.id) i (rows.put (schema, i) p.to.id (children_of (join p.before (node p.from p.under p.after)))) ≡ children_of (join p.before (node p.from p.under p.after))) p.is_old
      (subst (λ (s : SchemaId). rows.put (s, p.to.id) p.from.id (rows.put (schema, p.from.id) p.to.id (children_of (join p.before (node p.from p.under p.after)))) ≡ children_of (join p.before (node p.from p.under p.after))) p.same_schema
      (subst (λ (s : SchemaId). rows.put (child_of p.to) p.from.id (rows.put (s, p.from.id) p.to.id (children_of (join p.before (node p.from p.under p.after)))) ≡ children_of (join p.before (node p.from p.under p.after))) p.is_schema back))))
  restored nodes f loose g left schema (Take old place) t sorted keeps =
      let row = children_of (join t.before (node t.from t.under t.after)) in
      let back = taken_back t.before t.after t.from t.under (subst (λ (h : Branches). IsSorted (tree_of h)) t.was sorted) in
      subst (λ (cs : List Child). rows.brought (schema, old) place (rows.without_at schema place cs) ≡ cs) (ap children_of (sym t.was))
      (subst (λ (k : ℕ). rows.brought (schema, old) k (rows.without_at schema k row) ≡ row) t.is_place
      (subst (λ (i : NodeId). rows.brought (schema, i) (instances_in (tree_of t.before) schema.0) (rows.without_at schema (instances_in (tree_of t.before) schema.0) row) ≡ row) t.is_old
      (subst (λ (s : SchemaId). rows.brought (s, t.from.id) (instances_in (tree_of t.before) s.0) (rows.without_at s (instances_in (tree_of t.before) s.0) row) ≡ row)
      t.is_schema back)))
  restored nodes f loose g left schema (Move id from to) m sorted keeps =
      let row = children_of (join m.before (node m.label m.under m.after)) in
      let back = moved_back to m.before m.after m.label m.under (subst (λ (h : Branches). IsSorted (tree_of h)) m.was sorted) in
      subst (λ (cs : List Child). rows.shifted schema to from (rows.shifted schema from to cs) ≡ cs) (ap children_of (sym m.was))
      (subst (λ (k : ℕ). rows.shifted schema to k (rows.shifted schema k to row) ≡ row) m.is_from
      (subst (λ (s : SchemaId). rows.shifted s to (instances_in (tree_of m.before) s.0) (rows.shifted s (instances_in (tree_of m.before) s.0) to row) ≡ row)
      m.is_schema back))

  module _ (f loose g left : Branches) (schema : SchemaId) (change : Change) (swaps : Swaps schema change f loose g left) (before changed read : Nodes)
      (keeps : Keeps before (around way f) above loose)
      (first : ChangesRow above (option_map (with_children (swapped schema change))) before changed) (reads : OnlyReads changed read) where
    same_there : (c : List Child → List Child) (o : Option Held) → there (option_map (with_children c) o) ≡ there o
    same_there c (Some held) = refl
    same_there c None = refl

    pub undone : (after : Nodes) → IsSorted (tree_of f) → ChangesRow above (option_map (with_children (swapped_back schema change))) read after → OnlyReads before after
    undone after sorted second =
        record {
          held = λ other. by other (same_row above other) refl;
          entries = λ key. second.entries key ∙ (reads.entries key ∙ first.entries key);
          node_count =
              let a = first.node_count in
              let b = second.node_count in
              let c = reads.node_count in
              let d = ap there first.changed in
              let e = ap there second.changed in
              let f = ap there (reads.held above) in
              let g = same_there (swapped schema change) (held_at before above) in
              let h = same_there (swapped_back schema change) (held_at read above) in
              omega (arith, a, b, c, d, e, f, g, h);
        }
      where
        twice : (o : Option Held) → option_map_or (λ (held : Held). held.shape.children) o [] ≡ children_of f
            → option_map (with_children (swapped_back schema change)) (option_map (with_children (swapped schema change)) o) ≡ o
        twice None is = refl
        twice (Some held) is =
            ap (λ (cs : List Child). Some (with_children (λ _. cs) held))
            (ap (λ (cs : List Child). swapped_back schema change (swapped schema change cs)) is ∙ (restored before f loose g left schema change swaps sorted keeps ∙ sym is))

        by : (other : Row) (b : Bool) → same_row above other ≡ b → held_at after other ≡ held_at before other
        by other true e =
            subst (λ (r : Row). held_at after r ≡ held_at before r) (same_rows above other e)
            (second.changed
            ∙ (ap (option_map (with_children (swapped_back schema change))) (reads.held above ∙ first.changed)
            ∙ twice (held_at before above) (listed before f loose keeps)))
        by other false e = second.others other e ∙ (reads.held other ∙ first.others other e)

    pub room_back : has_room before above → makes_room change (has_room read above)
    room_back room = by change swaps first
      where
        by : (c : Change) → Swaps schema c f loose g left → ChangesRow above (option_map (with_children (swapped schema c))) before changed → makes_room c (has_room read above)
        by (Add new) a changes = tt
        by (Put old new) p changes = tt
        by (Move id from to) m changes = tt
        by (Take old place) t changes =
            subst (λ (o : Option Held). IfSome o (λ held. length held.shape.children < held.room)) (sym (reads.held above ∙ changes.changed)) (shorter (held_at before above) (listed before f loose keeps) room)
          where
            length_is : (cs ds : List Child) (c : Child) → length (cs ++ c ∷ ds) ≡ suc (length (cs ++ ds))
            length_is [] ds c = refl
            length_is (x ∷ cs) ds c = ap suc (length_is cs ds c)

            less : (cs : List Child) → cs ≡ children_of f → length (rows.without_at schema place cs) < length cs
            less cs is =
                let row = children_of (join t.before (node t.from t.under t.after)) in
                let short : length (rows.without_at schema place cs) ≡ length (children_of (join t.before t.after)) =
                ap (λ (ds : List Child). length (rows.without_at schema place ds)) (is ∙ ap children_of t.was)
                ∙ (ap (λ (k : ℕ). length (rows.without_at schema k row)) (sym t.is_place)
                ∙ (ap (λ (s : SchemaId). length (rows.without_at s (instances_in (tree_of t.before) s.0) row)) (sym t.is_schema)
                ∙ ap length (list_taken t.before t.after t.from t.under))) in
                let long : length cs ≡ suc (length (children_of (join t.before t.after))) =
                ap length (is ∙ (ap children_of t.was ∙ children_join t.before (node t.from t.under t.after)))
                ∙ (length_is (children_of t.before) (children_of t.after) (child_of t.from)
                ∙ ap (λ (ds : List Child). suc (length ds)) (sym (children_join t.before t.after))) in
                omega (arith, short, long)

            shorter : (o : Option Held) → option_map_or (λ (held : Held). held.shape.children) o [] ≡ children_of f → IfSome o (λ held. length held.shape.children < held.room)
                → IfSome (option_map (with_children (rows.without_at schema place)) o) (λ held. length held.shape.children < held.room)
            shorter None is r = tt
            shorter (Some held) is r = let l = less held.shape.children is in omega (arith, l, r)
