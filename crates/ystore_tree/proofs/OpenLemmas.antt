-- Documents put into stores.
use Rattle.std.proofs.Common.{◌≡◌, ℕ, zero, suc, ◌+◌, ◌<◌, ◌≤◌, List, [], ◌∷◌, length, drop, get_or, Some, option_map, refl, sym, ap, ap₂, ◌∙◌, arith, subst, cond}
use Rattle.std.specs.Option.{option_map_or}
use Rattle.std.proofs.lemmas.Bool.{le-leb}
use Rattle.std.proofs.lemmas.List.{at_drop_more, at_drop_all}
use Rattle.yspec.specs.Forest.{end, node, join}
use Rattle.yspec.specs.document.Document.{Stored, Tree}
use Rattle.yspec.specs.document.Sorting.{StartsAt, IsSorted}
use Rattle.yspec.proofs.ForestLemmas.{join_end, join_assoc}
use Rattle.yschema_model.specs.declared.node.SchemaId.{SchemaId}
use Rattle.yinst_tree.specs.View.{view, row_view}
use Rattle.yinst_tree.specs.declared.tree.Stored as rust
use Rattle.ystore_rows.specs.Rows as rows
use Rattle.ystore.specs.Held.{with_children, nothing_held}
use Rattle.ystore.specs.Store.{held_at, node_count, ChangesRow, MakesRoom}
use Rattle.ystore_rows.specs.declared.row.NodeId.{NodeId}
use Rattle.ystore_rows.specs.declared.row.Row.{Row}
use Rattle.ystore_rows.specs.declared.row.Row.TheVariants.{Top, Below}
use Rattle.ystore.specs.declared.nodes.Nodes.{Nodes}
use Rattle.ystore_tree.specs.Hanging.{Numbered, Branches, stored_of, tree_of, child_of, children_of, Hangs, Keeps, Holds, is_number, times}
use Rattle.ystore_tree.specs.Changes.{put_at, with_node}
use Rattle.ystore_tree.specs.Copies.{laid, laid_on}
use Rattle.ystore_tree.specs.Growing.{Grows, Inserts, Gets}
use Rattle.ystore_tree.proofs.HangingLemmas.{size_weigh}
use Rattle.ystore_tree.proofs.FrameLemmas.{room_same, keeps_same}
use Rattle.ystore_tree.proofs.ChangeLemmas.{added}
use Rattle.ystore_tree.proofs.GrowLemmas.{none_held, stands_held, stands_on, weigh_laid_on, laid_more, tree_join}

-- a branch that is put in stands beside the tree
pub keeps_inserted : (above : Row) (id : NodeId) (label : Stored) (below : Tree) (before after : Nodes) (had has : List NodeId) (tree : Branches)
    (made : Inserts above id label below before after had has) → Keeps before tree Top end → Keeps after tree above (node made.root (laid made.branches) end)
keeps_inserted above id label below before after had has tree made keeps =
    record {
      hangs = record {
        listed = ap (λ o. option_map_or (λ held. held.shape.children) o []) (made.grows.held Top refl) ∙ keeps.hangs.listed;
        stands = stands_on before after Top tree made.grows keeps.hangs.stands;
      };
      stands = made.stands;
      once = λ k. by k (times k tree) refl (times k (node made.root made.branches end)) refl;
      all =
          let all = keeps.all in
          let count = made.count in
          let same = weigh_laid_on (λ _. 1) end made.branches in
          let a = size_weigh made.branches in
          let b = size_weigh (laid made.branches) in
          omega (arith, all, count, same, a, b);
    }
  where
    by : (k a : ℕ) → times k tree ≡ a → (b : ℕ) → times k (node made.root made.branches end) ≡ b
        → times k tree + times k (node made.root (laid made.branches) end) ≤ 1
    by k zero e b d = let most = made.once k in let same = weigh_laid_on (is_number k) end made.branches in omega (arith, most, same, e)
    by k (suc a) e zero d = let most = keeps.once k in let same = weigh_laid_on (is_number k) end made.branches in omega (arith, most, same, d)
    by k (suc a) e (suc b) d =
        absurd (none_held (held_at before (Below (record { 0 = k })))
        (made.new (record { 0 = k }) (omega (arith, d)))
        (stands_held before Top tree (record { 0 = k }) keeps.hangs.stands (omega (arith, e))))

-- one more top node
pub top_more : (before done : Branches) (now mid ready after : Nodes) (id : NodeId) (schema : SchemaId) (label : Stored) (below : Tree) (had has : List NodeId)
    (made : Inserts Top id label below now mid had has) → Keeps now (laid_on before done) Top end → MakesRoom Top mid ready
    → schema.0 ≡ label.schema_number → ChangesRow Top (option_map (with_children (rows.added (schema, id)))) ready after
    → Keeps after (laid_on before (join done (node made.root made.branches end))) Top end
top_more before done now mid ready after id schema label below had has made keeps room number changes =
    let beside = keeps_inserted Top id label below now mid had has (laid_on before done) made keeps in
    let same = keeps_same mid ready (room_same Top mid ready room.room room.changed) (laid_on before done) Top (node made.root (laid made.branches) end) beside in
    let child : child_of made.root ≡ (schema, id) =
    ap₂ (λ (s : SchemaId) (i : NodeId). (s, i)) (ap (λ (k : ℕ). record { 0 = k }) (ap (λ (s : Stored). s.schema_number) made.is_label ∙ sym number)) made.is_id in
    subst (λ (g : Branches). Keeps after g Top end) (sym (laid_more before done made.root made.branches))
    (added ready after [] (laid_on before done) made.root (laid made.branches) same
    (subst (λ d. ChangesRow Top (option_map (with_children (rows.added d))) ready after) (sym child) changes))

-- ---- rows in order

abbrev UpTo : ℕ → Branches → Type 0
UpTo k end = Unit {0}
UpTo k (node n below after) = (n.schema.0 ≤ k) × UpTo k after

up_more : (j k : ℕ) (f : Branches) → j ≤ k → UpTo j f → UpTo k f
up_more j k end less up = tt
up_more j k (node n below after) less up = (omega (arith, less, up.0), up_more j k after less up.1)

up_join : (k : ℕ) (f g : Branches) → UpTo k f → UpTo k g → UpTo k (join f g)
up_join k end g up more = more
up_join k (node n below after) g up more = (up.0, up_join k after g up.1 more)

put_last : (n : Numbered) (below f : Branches) → UpTo n.schema.0 f → with_node n below f ≡ join f (node n below end)
put_last n below end up = refl
put_last n below (node m under after) up =
    let next : 1 + rows.end_place n.schema (children_of after) ≡ suc (rows.end_place n.schema (children_of after)) = omega arith in
    ap (λ b. put_at (cond b (1 + rows.end_place n.schema (children_of after)) 0) n below (node m under after)) (le-leb m.schema.0 n.schema.0 up.0)
    ∙ (ap (λ k. put_at k n below (node m under after)) next
    ∙ ap (node m under) (put_last n below after up.1))

abbrev FirstFrom : Branches → Branches → Type 0
FirstFrom row end = Unit {0}
FirstFrom row (node n below after) = UpTo n.schema.0 row

laid_in_order : (row f : Branches) → FirstFrom row f → IsSorted (tree_of f) → laid_on row f ≡ join row f
laid_in_order row end up sorted = sym (join_end row)
laid_in_order row (node n below after) up sorted =
    ap (λ b. laid_on (with_node n b row) after) (laid_in_order end below (from_none below) sorted.1)
    ∙ (ap (λ r. laid_on r after) (put_last n below row up)
    ∙ (laid_in_order (join row (node n below end)) after (next after sorted.0) sorted.2
    ∙ join_assoc row (node n below end) after))
  where
    from_none : (f : Branches) → FirstFrom end f
    from_none end = tt
    from_none (node m b a) = tt

    next : (g : Branches) → StartsAt n.schema.0 (tree_of g) → FirstFrom (join row (node n below end)) g
    next end start = tt
    next (node m b a) start =
        up_join m.schema.0 row (node n below end) (up_more n.schema.0 m.schema.0 row start up) (start, tt)

pub laid_sorted : (f : Branches) → IsSorted (tree_of f) → laid f ≡ f
laid_sorted f sorted = laid_in_order end f (from_none f) sorted
  where
    from_none : (f : Branches) → FirstFrom end f
    from_none end = tt
    from_none (node m b a) = tt

-- a new store is empty
pub keeps_nothing : (nodes : Nodes) → held_at nodes Top ≡ Some nothing_held → node_count nodes ≡ 0 → Keeps nodes end Top end
keeps_nothing nodes top none =
    record {
      hangs = record { listed = ap (λ o. option_map_or (λ held. held.shape.children) o []) top; stands = tt };
      stands = tt;
      once = λ k. omega arith;
      all = none;
    }

-- what an empty store has got is the document that it holds
pub holds_sorted : (nodes : Nodes) (tree : Tree) → IsSorted tree → Gets end tree nodes → Holds nodes tree
holds_sorted nodes tree sorted gets =
    record {
      branches = gets.branches;
      is_tree = gets.is_tree;
      keeps = subst (λ (g : Branches). Keeps nodes g Top end) (laid_sorted gets.branches (subst IsSorted (sym gets.is_tree) sorted)) gets.keeps;
    }

-- ---- rows of stored nodes

-- the next one is put behind those so far
pub next_stored : (rows : List rust.Stored) (i : ℕ) (s : rust.Stored) (t whole : Tree) → i < length rows → s ≡ get_or rows i s
    → join t (row_view (drop i rows)) ≡ whole → join (join t (node (view s).0 (view s).1 end)) (row_view (drop (i + 1) rows)) ≡ whole
next_stored rows i s t whole within is so =
    join_assoc t (node (view s).0 (view s).1 end) (row_view (drop (i + 1) rows))
    ∙ (ap (λ x. join t (node (view x).0 (view x).1 (row_view (drop (i + 1) rows)))) is
    ∙ (sym (at_drop_more (λ xs. join t (row_view xs)) rows i s within) ∙ so))

pub all_stored : (rows : List rust.Stored) (i : ℕ) (t whole : Tree) → length rows ≤ i → join t (row_view (drop i rows)) ≡ whole → t ≡ whole
all_stored rows i t whole ended so = sym (join_end t) ∙ (sym (at_drop_all (λ xs. join t (row_view xs)) rows i ended) ∙ so)

pub tree_more : (before : Branches) (n : Numbered) (below : Branches) (s : Stored) (t : Tree) → stored_of n ≡ s → tree_of below ≡ t
    → tree_of (join before (node n below end)) ≡ join (tree_of before) (node s t end)
tree_more before n below s t label under =
    tree_join before (node n below end) ∙ ap₂ (λ (l : Stored) (r : Tree). join (tree_of before) (node l r end)) label under

-- the same of a row that is taken apart
pub taken_stored : (rows rest : List rust.Stored) (s : rust.Stored) (t whole : Tree) → rows ≡ s ∷ rest → join t (row_view rows) ≡ whole
    → join (join t (node (view s).0 (view s).1 end)) (row_view rest) ≡ whole
taken_stored rows rest s t whole is so = join_assoc t (node (view s).0 (view s).1 end) (row_view rest) ∙ (ap (λ xs. join t (row_view xs)) (sym is) ∙ so)

none_left : (rows : List rust.Stored) → length rows ≡ 0 → rows ≡ []
none_left [] is = refl
none_left (s ∷ rows) is = let no : ⊥ = cc in absurd no

pub all_taken : (rows : List rust.Stored) (count : ℕ) (t whole : Tree) → count ≡ 0 → count ≡ length rows → join t (row_view rows) ≡ whole → t ≡ whole
all_taken rows count t whole ended is so = sym (join_end t) ∙ (sym (ap (λ xs. join t (row_view xs)) (none_left rows (sym is ∙ ended))) ∙ so)

pub same_store : (a b : Nodes) (t : Tree) → a ≡ b → Holds a t → Holds b t
same_store a b t same holds = subst (λ (n : Nodes). Holds n t) same holds

-- what hangs hangs on as the store grows
pub hangs_on : (before after : Nodes) (above : Row) (f : Branches) → Grows before after → Hangs before Top f → Hangs after Top f
hangs_on before after above f grows hangs =
    record {
      listed = ap (λ o. option_map_or (λ held. held.shape.children) o []) (grows.held Top refl) ∙ hangs.listed;
      stands = stands_on before after Top f grows hangs.stands;
    }
