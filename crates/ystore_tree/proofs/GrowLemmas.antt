-- Branches that are put into a store node by node, beside its tree.
use Rattle.std.proofs.Common.{◌≡◌, ℕ, zero, suc, ◌+◌, ◌<◌, ◌≤◌, Bool, true, false, List, [], ◌∷◌, ◌++◌, length, map, Option, Some, None, is_some, option_map, refl, sym, ap, ap₂, ◌∙◌, arith, subst, eqb, cond, insert}
use Rattle.std.specs.Prelude.{IfSome}
use Rattle.std.proofs.lemmas.Bool.{eq-eqb, ne_eqb, eqb-true, false≢true}
use Rattle.std.proofs.lemmas.Option.{none-some}
use Rattle.yspec.specs.Forest.{end, node, weigh, join, preorder}
use Rattle.yspec.specs.document.Document.{Stored, Tree}
use Rattle.yschema_model.specs.declared.node.SchemaId.{SchemaId}
use Rattle.ystore_rows.specs.Rows as rows
use Rattle.ystore_rows.specs.Rows.{Child}
use Rattle.ystore.specs.Held.{Held, Label, Shape, Told, new_held, with_children}
use Rattle.ystore.specs.Store.{held_at, same_row, there, has_room, ChangesRow, Stays}
use Rattle.ystore_rows.specs.declared.row.NodeId.{NodeId}
use Rattle.ystore_rows.specs.declared.row.Row.{Row}
use Rattle.ystore_rows.specs.declared.row.Row.TheVariants.{Below}
use Rattle.ystore.specs.declared.nodes.Nodes.{Nodes}
use Rattle.ystore_tree.specs.Hanging.{Numbered, Branches, stored_of, tree_of, child_of, children_of, shape_at, shape_of, Stands, is_number, times}
use Rattle.ystore_tree.specs.Changes.{with_node}
use Rattle.ystore_tree.specs.Copies.{laid, laid_on, ids_of}
use Rattle.ystore_tree.specs.Growing.{Grows, Inserts, has_room_for}
use Rattle.ystore_tree.proofs.HangingLemmas.{weigh_join, weigh_put, size_weigh, is_itself, kept, stands_put}
use Rattle.ystore_tree.proofs.FrameLemmas.{same_rows}
use Rattle.ystore_tree.proofs.ChangeLemmas.{children_put}

-- ---- what is held stays

pub grows_itself : (nodes : Nodes) → Grows nodes nodes
grows_itself nodes = record { held = λ above h. refl; entries = λ key. refl; reads = refl; count = omega arith }

pub grows_on : (first second third : Nodes) → Grows first second → Grows second third → Grows first third
grows_on first second third a b =
    record {
      held = λ above h. b.held above (ap is_some (a.held above h) ∙ h) ∙ a.held above h;
      entries = λ key. b.entries key ∙ a.entries key;
      reads = b.reads ∙ a.reads;
      count = let x = a.count in let y = b.count in omega (arith, x, y);
    }

pub stays_grows : (before after : Nodes) → Stays before after → Grows before after
stays_grows before after stays =
    record { held = λ above h. stays.held above; entries = stays.entries; reads = stays.reads; count = let n = stays.node_count in omega (arith, n) }

pub none_held : (o : Option Held) → o ≡ None → is_some o ≡ true → ⊥
none_held o e h = false≢true (sym (ap is_some e) ∙ h)

-- what isn't held wasn't
pub was_none : (before after : Nodes) (above : Row) → Grows before after → held_at after above ≡ None → held_at before above ≡ None
was_none before after above grows none = by (held_at before above) refl
  where
    by : (o : Option Held) → held_at before above ≡ o → held_at before above ≡ None
    by None e = e
    by (Some held) e = absurd (none-some held (sym none ∙ (grows.held above (ap is_some e) ∙ e)))

-- a change of a row that wasn't there
pub beside_grows : (id : NodeId) (change : Option Held → Option Held) (first before after : Nodes) → held_at first (Below id) ≡ None → Grows first before
    → there (held_at before (Below id)) ≤ there (change (held_at before (Below id))) → ChangesRow (Below id) change before after → Grows first after
beside_grows id change first before after none grows more changes =
    record {
      held = λ above h. by above h (same_row (Below id) above) refl;
      entries = λ key. changes.entries key ∙ grows.entries key;
      reads = changes.reads ∙ grows.reads;
      count =
          let counts = changes.node_count in
          let now = ap there changes.changed in
          let was = grows.count in
          omega (arith, counts, now, was, more);
    }
  where
    by : (above : Row) → is_some (held_at first above) ≡ true → (b : Bool) → same_row (Below id) above ≡ b → held_at after above ≡ held_at first above
    by above h true e = absurd (none_held (held_at first above) (subst (λ r. held_at first r ≡ None) (same_rows (Below id) above e) none) h)
    by above h false e = changes.others above e ∙ grows.held above h

-- the nodes of a forest that stands are held
pub stands_held : (nodes : Nodes) (above : Row) (f : Branches) (id : NodeId) → Stands nodes above f → 0 < times id.0 f → is_some (held_at nodes (Below id)) ≡ true
stands_held nodes above end id stands more = absurd (omega (arith, more))
stands_held nodes above (node n below after) id stands more =
    by (λ h. stands_held nodes (Below n.id) below id stands.1 h) (λ h. stands_held nodes above after id stands.2 h) (eqb n.id.0 id.0) refl
  where
    shaped : (o : Option Held) (s : Shape) → option_map (λ held. held.shape) o ≡ Some s → is_some o ≡ true
    shaped (Some held) s e = refl
    shaped None s e = absurd (none-some s e)

    elsewhere : (0 < times id.0 below → is_some (held_at nodes (Below id)) ≡ true) → (0 < times id.0 after → is_some (held_at nodes (Below id)) ≡ true)
        → (k : ℕ) → times id.0 below ≡ k → is_number id.0 n ≡ 0 → is_some (held_at nodes (Below id)) ≡ true
    elsewhere inside beside zero e none = beside (omega (arith, more, e, none))
    elsewhere inside beside (suc k) e none = inside (omega (arith, e))

    by : (0 < times id.0 below → is_some (held_at nodes (Below id)) ≡ true) → (0 < times id.0 after → is_some (held_at nodes (Below id)) ≡ true)
        → (b : Bool) → eqb n.id.0 id.0 ≡ b → is_some (held_at nodes (Below id)) ≡ true
    by inside beside true e =
        subst (λ k. is_some (held_at nodes (Below (record { 0 = k }))) ≡ true) (eqb-true n.id.0 id.0 e)
        (shaped (held_at nodes (Below n.id)) (shape_of above n below) stands.0)
    by inside beside false e = elsewhere inside beside (times id.0 below) refl (ap (λ b. cond b 1 0) e)

-- and stand on as the store grows
pub stands_on : (before after : Nodes) (above : Row) (f : Branches) → Grows before after → Stands before above f → Stands after above f
stands_on before after above f grows stands =
    kept before after above f (λ id more. ap (option_map (λ held. held.shape)) (grows.held (Below id) (stands_held before above f id stands more))) stands

-- ---- rows that are laid

module _ (w : Numbered → ℕ) where
  pub weigh_laid_on : (row f : Branches) → weigh w (laid_on row f) ≡ weigh w row + weigh w f
  weigh_laid_on row end = omega arith
  weigh_laid_on row (node n below after) =
      let rest = weigh_laid_on (with_node n (laid_on end below) row) after in
      let put = weigh_put w (rows.end_place n.schema (children_of row)) n (laid_on end below) row in
      let under = weigh_laid_on end below in
      omega (arith, rest, put, under)

pub laid_more : (row f : Branches) (n : Numbered) (below : Branches) → laid_on row (join f (node n below end)) ≡ with_node n (laid below) (laid_on row f)
laid_more row end n below = refl
laid_more row (node m under after) n below = laid_more (with_node m (laid_on end under) row) after n below

pub tree_join : (f g : Branches) → tree_of (join f g) ≡ join (tree_of f) (tree_of g)
tree_join end g = refl
tree_join (node n below after) g = ap (node (stored_of n) (tree_of below)) (tree_join after g)

map_join : (xs ys : List Numbered) → map (λ n. n.id) (xs ++ ys) ≡ map (λ n. n.id) xs ++ map (λ n. n.id) ys
map_join [] ys = refl
map_join (x ∷ xs) ys = ap (λ is. x.id ∷ is) (map_join xs ys)

pub append_on : (xs ys zs : List NodeId) → (xs ++ ys) ++ zs ≡ xs ++ (ys ++ zs)
append_on [] ys zs = refl
append_on (x ∷ xs) ys zs = ap (λ is. x ∷ is) (append_on xs ys zs)

pub append_none : (xs : List NodeId) → xs ++ [] ≡ xs
append_none [] = refl
append_none (x ∷ xs) = ap (λ is. x ∷ is) (append_none xs)

pub ids_node : (n : Numbered) (below after : Branches) → ids_of (node n below after) ≡ n.id ∷ (ids_of below ++ ids_of after)
ids_node n below after = ap (λ is. n.id ∷ is) (map_join (preorder below) (preorder after))

ids_join : (f g : Branches) → ids_of (join f g) ≡ ids_of f ++ ids_of g
ids_join end g = refl
ids_join (node n below after) g =
    ids_node n below (join after g)
    ∙ (ap (λ is. n.id ∷ (ids_of below ++ is)) (ids_join after g)
    ∙ (ap (λ is. n.id ∷ is) (sym (append_on (ids_of below) (ids_of after) (ids_of g)))
    ∙ ap (λ is. is ++ ids_of g) (sym (ids_node n below after))))

pub ids_more : (f : Branches) (n : Numbered) (below : Branches) → ids_of (join f (node n below end)) ≡ ids_of f ++ n.id ∷ ids_of below
ids_more f n below =
    ids_join f (node n below end)
    ∙ ap (λ is. ids_of f ++ is) (ids_node n below end ∙ ap (λ is. n.id ∷ is) (append_none (ids_of below)))

-- ---- the first node

few : (number : ℕ) (n : Numbered) → is_number number n ≤ 1
few number n = by (eqb n.id.0 number)
  where
    one_if : Bool → ℕ
    one_if b = cond b 1 0

    by : (b : Bool) → one_if b ≤ 1
    by true = omega arith
    by false = omega arith

only : (n : Numbered) (id : NodeId) → 0 < is_number id.0 n → n.id ≡ id
only n id more = by (eqb n.id.0 id.0) refl
  where
    by : (b : Bool) → eqb n.id.0 id.0 ≡ b → n.id ≡ id
    by true e = ap (λ k. record { 0 = k }) (eqb-true n.id.0 id.0 e)
    by false e = let none : is_number id.0 n ≡ 0 = ap (λ b. cond b 1 0) e in absurd (omega (arith, more, none))

pub first_inserted : (above : Row) (id : NodeId) (label : Label) (seen : Stored) (told : Told) (total room : ℕ) (before after : Nodes) (had has : List NodeId)
    → label ≡ record { schema = label.schema; value = seen.value; parent = above } → label.schema.0 ≡ seen.schema_number
    → held_at before (Below id) ≡ None → ChangesRow (Below id) (λ _. Some (new_held label told total room)) before after
    → has ≡ had ++ id ∷ [] → Inserts above id seen end before after had has
first_inserted above id label seen told total room before after had has is number vacant changes numbers =
    record {
      root = record { id = id; schema = label.schema; value = seen.value };
      branches = end;
      is_id = refl;
      is_label = ap (λ k. record { schema_number = k; value = seen.value }) number;
      is_below = refl;
      stands = (
        ap (option_map (λ held. held.shape)) changes.changed ∙ ap (λ l. Some (record { label = Some l; children = [] })) is,
        tt,
        tt,
      );
      once = λ k. let most = few k (record { id = id; schema = label.schema; value = seen.value }) in omega (arith, most);
      new = λ other more.
          let same : id ≡ other = only (record { id = id; schema = label.schema; value = seen.value }) other (omega (arith, more)) in
          subst (λ i. held_at before (Below i) ≡ None) same vacant;
      count =
          let counts = changes.node_count in
          let was = ap there vacant in
          let now = ap there changes.changed in
          omega (arith, counts, was, now);
      numbers = numbers;
      grows = beside_grows id (λ _. Some (new_held label told total room)) before before after vacant (grows_itself before)
          (let was = ap there vacant in omega (arith, was)) changes;
    }

-- ---- one child more

put_length : (cs : List Child) (place : ℕ) (c : Child) → length (insert cs place c) ≡ suc (length cs)
put_length cs zero c = refl
put_length [] (suc place) c = refl
put_length (x ∷ cs) (suc place) c = ap suc (put_length cs place c)

module _ (above : Row) (id : NodeId) (label : Stored) (below : Tree) (start now mid after : Nodes) (had has more : List NodeId) (made : Inserts above id label below start now had has)
    (cid : NodeId) (schema : SchemaId) (clabel : Stored) (cbelow : Tree) (child : Inserts (Below id) cid clabel cbelow now mid has more) (number : schema.0 ≡ clabel.schema_number)
    (changes : ChangesRow (Below id) (option_map (with_children (rows.added (schema, cid)))) mid after) where
  c : Numbered
  c = child.root

  is_child : child_of child.root ≡ (schema, cid)
  is_child =
      ap₂ (λ (s : SchemaId) (i : NodeId). (s, i)) (ap (λ (k : ℕ). record { 0 = k }) (ap (λ (s : Stored). s.schema_number) child.is_label ∙ sym number)) child.is_id

  -- what was put in for the child isn't what was there
  disjoint : (k : ℕ) → times k (node made.root made.branches end) + times k (node child.root child.branches end) ≤ 1
  disjoint k = by (times k (node child.root child.branches end)) refl (times k (node made.root made.branches end)) refl
    where
      by : (b : ℕ) → times k (node child.root child.branches end) ≡ b → (a : ℕ) → times k (node made.root made.branches end) ≡ a
          → times k (node made.root made.branches end) + times k (node child.root child.branches end) ≤ 1
      by zero e a d = let most = made.once k in omega (arith, most, e)
      by (suc b) e zero d = let most = child.once k in omega (arith, most, d)
      by (suc b) e (suc a) d =
          let laid_same = weigh_laid_on (is_number k) end made.branches in
          absurd (none_held (held_at now (Below (record { 0 = k })))
          (child.new (record { 0 = k }) (omega (arith, e)))
          (stands_held now above (node made.root (laid made.branches) end) (record { 0 = k }) made.stands (omega (arith, d, laid_same))))

  is_root : made.root.id ≡ id
  is_root = made.is_id

  apart_from : (f : Branches) → ((k : ℕ) → is_number k made.root + times k f ≤ 1) → (r : Row) → Stands mid r f → Stands after r f
  apart_from f once r stands =
      kept mid after r f (λ other more. ap (option_map (λ held. held.shape)) (changes.others (Below other) (ne_eqb id.0 other.0 (differ other more)))) stands
    where
      differ : (other : NodeId) → 0 < times other.0 f → id.0 ≡ other.0 → ⊥
      differ other more same =
          let here : is_number other.0 made.root ≡ 1 =
          ap (λ b. cond b 1 0) (eq-eqb made.root.id.0 other.0 (ap (λ (i : NodeId). i.0) is_root ∙ same)) in
          let most = once other.0 in
          omega (arith, here, more, most)

  held_same : held_at mid (Below id) ≡ held_at now (Below id)
  held_same =
      child.grows.held (Below id) (stands_held now above (node made.root (laid made.branches) end) id made.stands
      (let here = subst (λ (i : NodeId). is_number i.0 made.root ≡ 1) is_root (is_itself made.root) in omega (arith, here)))

  shape_now : shape_at mid (Below id) ≡ Some (shape_of above made.root (laid made.branches))
  shape_now =
      ap (option_map (λ held. held.shape)) held_same ∙ subst (λ (i : NodeId). shape_at now (Below i) ≡ Some (shape_of above made.root (laid made.branches))) is_root made.stands.0

  with_added : (o : Option Held) (s : Shape) → option_map (λ held. held.shape) o ≡ Some s
      → option_map (λ held. held.shape) (option_map (with_children (rows.added (schema, cid))) o) ≡ Some (record s { children = rows.added (schema, cid) s.children })
  with_added (Some held) s e = ap (λ (o : Option Shape). option_map (λ (t : Shape). record t { children = rows.added (schema, cid) t.children }) o) e
  with_added None s e = absurd (none-some s e)

  list : rows.added (schema, cid) (children_of (laid made.branches)) ≡ children_of (laid (join made.branches (node child.root child.branches end)))
  list =
      ap (λ d. rows.added d (children_of (laid made.branches))) (sym is_child)
      ∙ (sym (children_put (rows.end_place child.root.schema (children_of (laid made.branches))) child.root (laid child.branches) (laid made.branches))
      ∙ ap children_of (sym (laid_more end made.branches child.root child.branches)))

  shape_after : shape_at after (Below id) ≡ Some (shape_of above made.root (laid (join made.branches (node child.root child.branches end))))
  shape_after =
      ap (option_map (λ held. held.shape)) changes.changed
      ∙ (with_added (held_at mid (Below id)) (shape_of above made.root (laid made.branches)) shape_now
      ∙ ap (λ cs. Some (record (shape_of above made.root end) { children = cs })) list)

  inner : Stands after (Below id) (laid (join made.branches (node child.root child.branches end)))
  inner =
      subst (Stands after (Below id)) (sym (laid_more end made.branches child.root child.branches))
      (stands_put after (Below id) (rows.end_place child.root.schema (children_of (laid made.branches))) child.root (laid child.branches) (laid made.branches)
      (apart_from (node child.root (laid child.branches) end)
      (λ k. let most = disjoint k in let same = weigh_laid_on (is_number k) end child.branches in omega (arith, most, same)) (Below id) child.stands)
      (apart_from (laid made.branches)
      (λ k. let most = made.once k in let same = weigh_laid_on (is_number k) end made.branches in omega (arith, most, same)) (Below id)
      (stands_on now mid (Below id) (laid made.branches) child.grows (subst (λ (i : NodeId). Stands now (Below i) (laid made.branches)) is_root made.stands.1))))

  joined : (w : Numbered → ℕ) → weigh w (join made.branches (node child.root child.branches end)) ≡ weigh w made.branches + weigh w (node child.root child.branches end)
  joined w = weigh_join w made.branches (node child.root child.branches end)

  root_new : held_at start (Below id) ≡ None
  root_new =
      made.new id (let here = subst (λ (i : NodeId). is_number i.0 made.root ≡ 1) is_root (is_itself made.root) in omega (arith, here))

  same_there : (o : Option Held) → there (option_map (with_children (rows.added (schema, cid))) o) ≡ there o
  same_there (Some held) = refl
  same_there None = refl

  pub one_more : Inserts above id label (join below (node clabel cbelow end)) start after had more
  one_more =
      record {
        root = made.root;
        branches = join made.branches (node child.root child.branches end);
        is_id = made.is_id;
        is_label = made.is_label;
        is_below = tree_join made.branches (node child.root child.branches end)
            ∙ (ap (λ t. join t (node (stored_of child.root) (tree_of child.branches) end)) made.is_below
            ∙ ap₂ (λ (s : Stored) (t : Tree). join below (node s t end)) child.is_label child.is_below);
        stands = (
          subst (λ (i : NodeId). shape_at after (Below i) ≡ Some (shape_of above made.root (laid (join made.branches (node child.root child.branches end))))) (sym is_root) shape_after,
          subst (λ (i : NodeId). Stands after (Below i) (laid (join made.branches (node child.root child.branches end)))) (sym is_root) inner,
          tt,
        );
        once = λ k. let most = disjoint k in let both = joined (is_number k) in omega (arith, most, both);
        new = λ other many. parted other many (times other.0 (node child.root child.branches end)) refl;
        count =
            let counts = changes.node_count in
            let now_there = ap there changes.changed in
            let same = same_there (held_at mid (Below id)) in
            let first = made.count in
            let second = child.count in
            let both = joined (λ _. 1) in
            let a = size_weigh (join made.branches (node child.root child.branches end)) in
            let b = size_weigh made.branches in
            let d = size_weigh (node child.root child.branches end) in
            omega (arith, counts, now_there, same, first, second, both, a, b, d);
        numbers = child.numbers
            ∙ (ap (λ is. is ++ child.root.id ∷ ids_of child.branches) made.numbers
            ∙ (append_on had (made.root.id ∷ ids_of made.branches) (child.root.id ∷ ids_of child.branches)
            ∙ ap (λ is. had ++ made.root.id ∷ is) (sym (ids_more made.branches child.root child.branches))));
        grows = beside_grows id (option_map (with_children (rows.added (schema, cid)))) start mid after root_new (grows_on start now mid made.grows child.grows)
            (let same = same_there (held_at mid (Below id)) in omega (arith, same)) changes;
      }
    where
      parted : (other : NodeId) → 0 < times other.0 (node made.root (join made.branches (node child.root child.branches end)) end)
          → (k : ℕ) → times other.0 (node child.root child.branches end) ≡ k → held_at start (Below other) ≡ None
      parted other many zero e = made.new other (let both = joined (is_number other.0) in omega (arith, many, both, e))
      parted other many (suc k) e = was_none start now (Below other) made.grows (child.new other (omega (arith, e)))

-- ---- room for children

-- a node that was put in is held while others are
pub root_held : (above : Row) (id : NodeId) (label : Stored) (below : Tree) (start now mid : Nodes) (had has : List NodeId) → Inserts above id label below start now had has
    → Grows now mid → held_at mid (Below id) ≡ held_at now (Below id)
root_held above id label below start now mid had has made grows =
    grows.held (Below id) (stands_held now above (node made.root (laid made.branches) end) id made.stands
    (let here = subst (λ (i : NodeId). is_number i.0 made.root ≡ 1) made.is_id (is_itself made.root) in omega (arith, here)))

pub room_for_one : (id : NodeId) (now mid : Nodes) (more left : ℕ) → held_at mid (Below id) ≡ held_at now (Below id) → more ≡ suc left
    → has_room_for more now (Below id) → has_room mid (Below id)
room_for_one id now mid more left same e room =
    subst (λ o. IfSome o (λ held. length held.shape.children < held.room)) (sym same) (by (held_at now (Below id)) room)
  where
    by : (o : Option Held) → IfSome o (λ held. length held.shape.children + more ≤ held.room) → IfSome o (λ held. length held.shape.children < held.room)
    by (Some held) h = omega (arith, h, e)
    by None h = tt

module _ (id : NodeId) (schema : SchemaId) (cid : NodeId) (now mid after : Nodes) (held_same : held_at mid (Below id) ≡ held_at now (Below id))
    (changes : ChangesRow (Below id) (option_map (with_children (rows.added (schema, cid)))) mid after) where
  pub room_left : (more left : ℕ) → more ≡ suc left → has_room_for more now (Below id) → has_room_for left after (Below id)
  room_left more left e room =
      subst (λ o. IfSome o (λ held. length held.shape.children + left ≤ held.room)) (sym (changes.changed ∙ ap (option_map (with_children (rows.added (schema, cid)))) held_same))
      (by (held_at now (Below id)) room)
    where
      by : (o : Option Held) → IfSome o (λ held. length held.shape.children + more ≤ held.room)
          → IfSome (option_map (with_children (rows.added (schema, cid))) o) (λ held. length held.shape.children + left ≤ held.room)
      by (Some held) h = let longer = put_length held.shape.children (rows.end_place schema held.shape.children) (schema, cid) in omega (arith, h, longer, e)
      by None h = tt

pub first_room : (nodes : Nodes) (id : NodeId) (label : Label) (told : Told) (total room left : ℕ) → held_at nodes (Below id) ≡ Some (new_held label told total room) → left ≤ room
    → has_room_for left nodes (Below id)
first_room nodes id label told total room left e less =
    subst (λ o. IfSome o (λ held. length held.shape.children + left ≤ held.room)) (sym e) (omega (arith, less))
