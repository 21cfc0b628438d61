-- Each change of a row of a store, as the change of the forest that hangs in it.
use Rattle.std.proofs.Common.{◌≡◌, ℕ, zero, suc, ◌+◌, ◌≤◌, Bool, true, false, ◌&&◌, not, List, [], ◌∷◌, ◌++◌, length, take, drop, min, Some, option_map, slice_get, one-add, ◌-◌, refl, sym, ap, ◌∙◌, arith, eqb, cond, insert, remove}
use Rattle.std.specs.Prelude.{slice_set}
use Rattle.std.specs.List.{position_or_len}
use Rattle.std.proofs.lemmas.Bool.{eq-eqb, ne_eqb}
use Rattle.yspec.specs.Forest.{end, node, join, weigh}
use Rattle.yspec.specs.document.Document.{instances_in}
use Rattle.yschema_model.specs.declared.node.SchemaId.{SchemaId}
use Rattle.ystore_rows.specs.Rows as rows
use Rattle.ystore_rows.specs.Rows.{Child, is_child}
use Rattle.ystore.specs.Held.{with_children}
use Rattle.ystore.specs.Store.{ChangesRow}
use Rattle.ystore_rows.specs.declared.row.Row.TheVariants.{Top}
use Rattle.ystore.specs.declared.nodes.Nodes.{Nodes}
use Rattle.ystore_tree.specs.Hanging.{Numbered, Branches, child_of, children_of, tree_of, Stands, Keeps, is_number, times}
use Rattle.ystore_tree.specs.Ways.{Way, around, end_of}
use Rattle.ystore_tree.specs.Changes.{put_at, with_node, with_node_at}
use Rattle.ystore_rows.proofs.RowLemmas.{shifted_is}
use Rattle.ystore_tree.proofs.FoundLemmas.{counted, instances-cons, instances_join}
use Rattle.ystore_tree.proofs.HangingLemmas.{weigh_join, weigh_around, weigh_put, size_weigh, children_join, stands_join, stands_first, stands_second, stands_put, at_end, apart_kept, hangs_changed, count_kept, is_itself}

-- ---- lists of children

pub children_put : (place : ℕ) (n : Numbered) (below f : Branches) → children_of (put_at place n below f) ≡ insert (children_of f) place (child_of n)
children_put zero n below f = refl
children_put (suc place) n below end = refl
children_put (suc place) n below (node m under after) = ap (λ cs. child_of m ∷ cs) (children_put place n below after)

take_front : (cs ds : List Child) → take (length cs) (cs ++ ds) ≡ cs
take_front [] ds = refl
take_front (c ∷ cs) ds = ap (λ xs. c ∷ xs) (take_front cs ds)

drop_more : (cs ds : List Child) (d : Child) → drop (suc (length cs)) (cs ++ d ∷ ds) ≡ ds
drop_more [] ds d = refl
drop_more (c ∷ cs) ds d = drop_more cs ds d

set_front : (cs ds : List Child) (d e : Child) → slice_set (cs ++ d ∷ ds) (length cs) e ≡ cs ++ e ∷ ds
set_front [] ds d e = refl
set_front (c ∷ cs) ds d e = ap (λ xs. c ∷ xs) (set_front cs ds d e)

no_and : (b : Bool) → (b && false) ≡ false
no_and true = refl
no_and false = refl

is_other : (n : Numbered) (k : ℕ) → is_number k n ≡ 0 → eqb n.id.0 k ≡ false
is_other n k none = ne_eqb n.id.0 k differ
  where
    differ : n.id.0 ≡ k → ⊥
    differ same =
        let here : is_number k n ≡ 1 = ap (λ b. cond b 1 0) (eq-eqb n.id.0 k same) in
        omega (arith, none, here)

-- the place of a node behind others is their number
place_is : (before : Branches) (n : Numbered) (rest : List Child) → times n.id.0 before ≡ 0
    → position_or_len (is_child (child_of n)) (children_of before ++ child_of n ∷ rest) ≡ length (children_of before)
place_is end n rest none = rw (eq-eqb n.schema.0 n.schema.0 refl, eq-eqb n.id.0 n.id.0 refl) refl
place_is (node m below after) n rest none =
    let later = place_is after n rest (omega (arith, none)) in
    let other : eqb m.id.0 n.id.0 ≡ false = is_other m n.id.0 (omega (arith, none)) in
    let differs : is_child (child_of n) (child_of m) ≡ false = ap (λ b. eqb m.schema.0 n.schema.0 && b) other ∙ no_and (eqb m.schema.0 n.schema.0) in
    ap (λ b. cond (not b) (1 + position_or_len (is_child (child_of n)) (children_of after ++ child_of n ∷ rest)) 0) differs
    ∙ omega (arith, later)

module _ (before after : Branches) (m : Numbered) (below : Branches) (none : times m.id.0 before ≡ 0) where
  list_is : children_of (join before (node m below after)) ≡ children_of before ++ child_of m ∷ children_of after
  list_is = children_join before (node m below after)

  found : rows.place_of (child_of m) (children_of (join before (node m below after))) ≡ length (children_of before)
  found = ap (rows.place_of (child_of m)) list_is ∙ place_is before m (children_of after) none

  pub list_put : (n : Numbered) (under : Branches) → m.schema ≡ n.schema
      → rows.put (child_of m) n.id (children_of (join before (node m below after))) ≡ children_of (join before (node n under after))
  list_put n under same =
      ap (λ k. slice_set (children_of (join before (node m below after))) k (m.schema, n.id)) found
      ∙ (ap (λ cs. slice_set cs (length (children_of before)) (m.schema, n.id)) list_is
      ∙ (set_front (children_of before) (children_of after) (child_of m) (m.schema, n.id)
      ∙ (ap (λ s. children_of before ++ (s, n.id) ∷ children_of after) same
      ∙ sym (children_join before (node n under after)))))

-- ---- the node that has so many of its schema node before it

at_here : (s : SchemaId) (c : Child) (cs : List Child) → eqb c.0.0 s.0 ≡ true → rows.place_at s 0 (c ∷ cs) ≡ 0
at_here s c cs e = rw e refl

at_next : (s : SchemaId) (k : ℕ) (c : Child) (cs : List Child) → eqb c.0.0 s.0 ≡ true → rows.place_at s (suc k) (c ∷ cs) ≡ suc (rows.place_at s k cs)
at_next s k c cs e =
    let less : suc k - 1 ≡ k = omega arith in
    rw e (ap (λ b. cond b 0 (1 + rows.place_at s (suc k - 1) cs)) (ne_eqb (suc k) 0 (λ same. absurd (omega (arith, same))))
    ∙ (ap (λ n. 1 + rows.place_at s n cs) less ∙ one-add (rows.place_at s k cs)))

at_other : (s : SchemaId) (k : ℕ) (c : Child) (cs : List Child) → eqb c.0.0 s.0 ≡ false → rows.place_at s k (c ∷ cs) ≡ suc (rows.place_at s k cs)
at_other s k c cs e = rw e (one-add (rows.place_at s k cs))

found_behind : (s : SchemaId) (before : Branches) (n : Numbered) (below after : Branches) → n.schema ≡ s
    → rows.place_at s (instances_in (tree_of before) s.0) (children_of (join before (node n below after))) ≡ length (children_of before)
found_behind s end n below after same = at_here s (child_of n) (children_of after) (eq-eqb n.schema.0 s.0 (ap (λ (i : SchemaId). i.0) same))
found_behind s (node m c rest) n below after same = by (eqb m.schema.0 s.0) refl (found_behind s rest n below after same)
  where
    others : List Child
    others = children_of (join rest (node n below after))

    by : (b : Bool) → eqb m.schema.0 s.0 ≡ b → rows.place_at s (instances_in (tree_of rest) s.0) others ≡ length (children_of rest)
        → rows.place_at s (instances_in (tree_of (node m c rest)) s.0) (child_of m ∷ others) ≡ length (children_of (node m c rest))
    by true e later =
        let index : instances_in (tree_of (node m c rest)) s.0 ≡ suc (instances_in (tree_of rest) s.0) =
        let one = instances-cons m c rest s.0 true e in omega (arith, one) in
        ap (λ k. rows.place_at s k (child_of m ∷ others)) index ∙ (at_next s (instances_in (tree_of rest) s.0) (child_of m) others e ∙ ap suc later)
    by false e later =
        let index : instances_in (tree_of (node m c rest)) s.0 ≡ instances_in (tree_of rest) s.0 =
        let none = instances-cons m c rest s.0 false e in omega (arith, none) in
        ap (λ k. rows.place_at s k (child_of m ∷ others)) index ∙ (at_other s (instances_in (tree_of rest) s.0) (child_of m) others e ∙ ap suc later)

get_behind : (cs ds : List Child) (d : Child) → slice_get (cs ++ d ∷ ds) (length cs) ≡ Some d
get_behind [] ds d = refl
get_behind (c ∷ cs) ds d = get_behind cs ds d

module _ (before after : Branches) (m : Numbered) (below : Branches) where
  abbrev row : List Child
  row = children_of (join before (node m below after))

  abbrev index : ℕ
  index = instances_in (tree_of before) m.schema.0

  at_index : rows.place_at m.schema index row ≡ length (children_of before)
  at_index = found_behind m.schema before m below after refl

  removed : remove row (length (children_of before)) ≡ children_of (join before after)
  removed =
      ap (λ cs. remove cs (length (children_of before))) (children_join before (node m below after))
      ∙ (ap (λ cs. cs ++ drop (suc (length (children_of before))) (children_of before ++ child_of m ∷ children_of after)) (take_front (children_of before) (child_of m ∷ children_of after))
      ∙ (ap (λ cs. children_of before ++ cs) (drop_more (children_of before) (children_of after) (child_of m))
      ∙ sym (children_join before after)))

  pub list_taken : rows.without_at m.schema index row ≡ children_of (join before after)
  list_taken = ap (remove row) at_index ∙ removed

  pub list_shifted : (to : ℕ) → rows.shifted m.schema index to row ≡ children_of (with_node_at to m below (join before after))
  list_shifted to =
      let others = children_of (join before after) in
      let count = counted m.schema (join before (node m below after)) in
      let both = instances_join before (node m below after) m.schema.0 in
      let own = instances-cons m below after m.schema.0 true (eq-eqb m.schema.0 m.schema.0 refl) in
      let within : min index (length (rows.of_schema m.schema row) - 1) ≡ index = omega (arith, count, both, own) in
      let there : slice_get row (length (children_of before)) ≡ Some (child_of m) =
      ap (λ cs. slice_get cs (length (children_of before))) (children_join before (node m below after)) ∙ get_behind (children_of before) (children_of after) (child_of m) in
      sym (shifted_is m.schema index to (length (children_of before)) row (child_of m) (sym at_index ∙ ap (λ k. rows.place_at m.schema k row) (sym within)) there)
      ∙ (ap (rows.brought (child_of m) to) removed
      ∙ sym (children_put (rows.first_place m.schema others + min to (length (rows.of_schema m.schema others))) m below (join before after)))

-- ---- changes of the tree of a store

module _ (before after : Nodes) (way : Way) (c : List Child → List Child) (changes : ChangesRow (end_of Top way) (option_map (with_children c)) before after)
    (f loose : Branches) (keeps : Keeps before (around way f) (end_of Top way) loose) where
  -- what stood in the row, or beside the tree, stands there still
  stays : (x : Branches) → ((number : ℕ) → times number x ≤ times number f + times number loose)
      → Stands before (end_of Top way) x → Stands after (end_of Top way) x
  stays x less =
      apart_kept c before after way changes (end_of Top way) x (λ number.
      let whole = weigh_around (is_number number) way f in let most = keeps.once number in let few = less number in omega (arith, whole, most, few))

  old : Stands before (end_of Top way) f
  old = (at_end before Top way f keeps.hangs).stands

  changed : (g left : Branches) → c (children_of f) ≡ children_of g
      → ((w : Numbered → ℕ) → weigh w g + weigh w left ≡ weigh w f + weigh w loose)
      → Stands after (end_of Top way) g → Stands after (end_of Top way) left → Keeps after (around way g) (end_of Top way) left
  changed g left is weights stands beside =
      record {
        hangs = hangs_changed c before after way changes f g keeps.hangs (λ number. let most = keeps.once number in omega (arith, most)) is stands;
        stands = beside;
        once = λ number.
            let was = weigh_around (is_number number) way f in
            let now = weigh_around (is_number number) way g in
            let same = weights (is_number number) in
            let most = keeps.once number in
            omega (arith, was, now, same, most);
        all =
            let counts = count_kept c before after way changes in
            let all = keeps.all in
            let was = weigh_around (λ _. 1) way f in
            let now = weigh_around (λ _. 1) way g in
            let same = weights (λ _. 1) in
            let a = size_weigh (around way f) in
            let b = size_weigh (around way g) in
            let d = size_weigh loose in
            let e = size_weigh left in
            omega (arith, counts, all, was, now, same, a, b, d, e);
      }

module _ (before after : Nodes) (way : Way) where
  pub added : (f : Branches) (n : Numbered) (below : Branches) → Keeps before (around way f) (end_of Top way) (node n below end)
      → ChangesRow (end_of Top way) (option_map (with_children (rows.added (child_of n)))) before after
      → Keeps after (around way (with_node n below f)) (end_of Top way) end
  added f n below keeps changes =
      let place = rows.end_place n.schema (children_of f) in
      let c = rows.added (child_of n) in
      let loose : Branches = node n below end in
      changed before after way c changes f loose keeps (with_node n below f) end (sym (children_put place n below f))
      (λ w. let put = weigh_put w place n below f in omega (arith, put))
      (stands_put after (end_of Top way) place n below f
      (stays before after way c changes f loose keeps loose (λ number. omega arith) keeps.stands)
      (stays before after way c changes f loose keeps f (λ number. omega arith) (old before after way c changes f loose keeps))) tt

  module _ (first rest : Branches) (m : Numbered) (under : Branches) where
    parted : (w : Numbered → ℕ) → weigh w (join first (node m under rest)) ≡ weigh w first + (w m + (weigh w under + weigh w rest))
    parted w = weigh_join w first (node m under rest)

    none_before : (loose : Branches) → Keeps before (around way (join first (node m under rest))) (end_of Top way) loose → times m.id.0 first ≡ 0
    none_before loose keeps =
        let most = keeps.once m.id.0 in
        let whole = weigh_around (is_number m.id.0) way (join first (node m under rest)) in
        let here = is_itself m in
        let parts = parted (is_number m.id.0) in
        omega (arith, most, whole, here, parts)

    pub put : (n : Numbered) (below : Branches) → Keeps before (around way (join first (node m under rest))) (end_of Top way) (node n below end) → m.schema ≡ n.schema
        → ChangesRow (end_of Top way) (option_map (with_children (rows.put (child_of m) n.id))) before after
        → Keeps after (around way (join first (node n below rest))) (end_of Top way) (node m under end)
    put n below keeps same changes =
        let c = rows.put (child_of m) n.id in
        let f = join first (node m under rest) in
        let loose : Branches = node n below end in
        let here = end_of Top way in
        let was = old before after way c changes f loose keeps in
        let second = stands_second before here first (node m under rest) was in
        let stay = stays before after way c changes f loose keeps in
        let new = stay loose (λ number. omega arith) keeps.stands in
        changed before after way c changes f loose keeps (join first (node n below rest)) (node m under end)
        (list_put first rest m under (none_before loose keeps) n below same)
        (λ w. let was = parted w in let now = weigh_join w first (node n below rest) in omega (arith, was, now))
        (stands_join after here first (node n below rest)
        (stay first (λ number. let whole = parted (is_number number) in omega (arith, whole)) (stands_first before here first (node m under rest) was))
        (new.0, new.1, stay rest (λ number. let whole = parted (is_number number) in omega (arith, whole)) second.2))
        (stay (node m under end) (λ number. let whole = parted (is_number number) in omega (arith, whole)) (second.0, second.1, tt))

    pub taken : Keeps before (around way (join first (node m under rest))) (end_of Top way) end
        → ChangesRow (end_of Top way) (option_map (with_children (rows.without_at m.schema (instances_in (tree_of first) m.schema.0)))) before after
        → Keeps after (around way (join first rest)) (end_of Top way) (node m under end)
    taken keeps changes =
        let c = rows.without_at m.schema (instances_in (tree_of first) m.schema.0) in
        let f = join first (node m under rest) in
        let here = end_of Top way in
        let was = old before after way c changes f end keeps in
        let second = stands_second before here first (node m under rest) was in
        let stay = stays before after way c changes f end keeps in
        changed before after way c changes f end keeps (join first rest) (node m under end)
        (list_taken first rest m under)
        (λ w. let was = parted w in let now = weigh_join w first rest in omega (arith, was, now))
        (stands_join after here first rest
        (stay first (λ number. let whole = parted (is_number number) in omega (arith, whole)) (stands_first before here first (node m under rest) was))
        (stay rest (λ number. let whole = parted (is_number number) in omega (arith, whole)) second.2))
        (stay (node m under end) (λ number. let whole = parted (is_number number) in omega (arith, whole)) (second.0, second.1, tt))

    pub moved : (place : ℕ) (loose : Branches) → Keeps before (around way (join first (node m under rest))) (end_of Top way) loose
        → ChangesRow (end_of Top way) (option_map (with_children (rows.shifted m.schema (instances_in (tree_of first) m.schema.0) place))) before after
        → Keeps after (around way (with_node_at place m under (join first rest))) (end_of Top way) loose
    moved place loose keeps changes =
        let c = rows.shifted m.schema (instances_in (tree_of first) m.schema.0) place in
        let f = join first (node m under rest) in
        let here = end_of Top way in
        let was = old before after way c changes f loose keeps in
        let second = stands_second before here first (node m under rest) was in
        let stay = stays before after way c changes f loose keeps in
        let p = rows.first_place m.schema (children_of (join first rest)) + min place (length (rows.of_schema m.schema (children_of (join first rest)))) in
        let others = stands_join after here first rest
        (stay first (λ number. let whole = parted (is_number number) in omega (arith, whole)) (stands_first before here first (node m under rest) was))
        (stay rest (λ number. let whole = parted (is_number number) in omega (arith, whole)) second.2) in
        changed before after way c changes f loose keeps (with_node_at place m under (join first rest)) loose
        (list_shifted first rest m under place)
        (λ w. let was = parted w in let now = weigh_join w first rest in let put = weigh_put w p m under (join first rest) in omega (arith, was, now, put))
        (stands_put after here p m under (join first rest)
        (stay (node m under end) (λ number. let whole = parted (is_number number) in omega (arith, whole)) (second.0, second.1, tt)) others)
        (stay loose (λ number. omega arith) keeps.stands)
