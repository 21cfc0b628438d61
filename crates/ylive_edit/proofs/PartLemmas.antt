-- Parts of a document in its store: put into a row, in the place of another, and taken out, with all that is told of it.
use Rattle.std.proofs.Common.{◌≡◌, List, [], ◌∷◌, option_map, refl, sym, ap, ap₂, ◌∙◌, arith, subst, true, false}
use Rattle.std.specs.Prelude.{Bool, ◌+◌, ◌-◌, ◌^◌, min, ◌<◌, ◌≤◌, ℕ, None, Result, Ok, Err, IfOk, IsErrAnd, OnErr, OnOk, length}
use Rattle.std.proofs.lemmas.Bool.{lt-ltb, le-ltb}
use Rattle.std.proofs.lemmas.List.{append-nil}
use Rattle.yspec.specs.Forest.{end, node, join, size}
use Rattle.yspec.specs.schema.Schema.{Schema}
use Rattle.yspec.specs.document.Document.{Stored, Tree, Step, instances_in, document_limit}
use Rattle.yspec.proofs.LinkingProofs.LinkedLemmas.{relabelled-size}
use Rattle.yspec.specs.document.Sorting.{IsSorted}
use Rattle.yspec.specs.edit.Edit.{edit_at, instance_index}
use Rattle.yspec.specs.edit.Editing.{Branch, EditRefusal, with_branch, with_instead, with_moved, within_limit, without}
use Rattle.yschema_model.specs.declared.node.SchemaId.{SchemaId}
use Rattle.ystore_rows.specs.Rows as rows
use Rattle.ystore.specs.Store.{node_count, MakesRoom, Stays}
use Rattle.ystore.proofs.CallerLemmas.{room_is_there}
use Rattle.yinst_path.specs.declared.edit.EditFault.{EditFault}
use Rattle.yinst_path.specs.declared.edit.EditFault.TheVariants.{Refused, Memory}
use Rattle.yinst_path.specs.declared.edit.EditCode.TheVariants.{E11}
use Rattle.ystore_rows.specs.declared.row.NodeId.{NodeId}
use Rattle.ystore_rows.specs.declared.row.Row.{Row}
use Rattle.ystore_rows.specs.declared.row.Row.TheVariants.{Top}
use Rattle.ystore.specs.declared.nodes.Nodes.{Nodes}
use Rattle.ystore_tree.specs.Hanging.{Numbered, Branches, stored_of, tree_of, children_of, Keeps}
use Rattle.ystore_tree.specs.Ways.{Way, Goes, around, end_of}
use Rattle.ystore_tree.specs.Changes.{with_node, with_node_at, SameShapes}
use Rattle.ystore_tree.specs.Copies.{laid, ids_of}
use Rattle.ystore_tree.specs.Growing.{Grows, Inserts, Removes, Freshens}
use Rattle.ystore_tree.specs.declared.swapping.Swap.{Swap}
use Rattle.ystore_tree.specs.declared.swapping.Change.TheVariants.{Add, Put, Take, Move}
use Rattle.ystore_tree.proofs.FrameLemmas.{room_same, keeps_same}
use Rattle.ystore_tree.proofs.OpenLemmas.{hangs_on, keeps_inserted, laid_sorted}
use Rattle.ystore_tree.proofs.HangingLemmas.{weigh_join, weigh_around, weigh_put, size_weigh}
use Rattle.ystore_tree.proofs.GrowLemmas.{ids_node}
use Rattle.ystore_tree.proofs.RemoveLemmas.{given_back, length_ids}
use Rattle.ystore_tree.proofs.DocumentLemmas as document
use Rattle.ylive_retell.specs.IsTold.{IsFresh, IsTold}
use Rattle.ylive_retell.specs.Standing.{Every, standing}
use Rattle.ylive_retell.specs.Plans.{Prepared}
use Rattle.ylive_edit.specs.Places.{Amends, Carries, HangsPart, HoldsTold, IsAt, IsPart, Shows, Swapping}
use Rattle.ylive_edit.proofs.BesideLemmas.{fresh_inserted, told_inserted, told_removed}

-- a document that is held hangs in a store that only grew
pub shows : (s : Schema) (before after : Nodes) (tree : Tree) (steps : List Step) (above : Row) (f : Branches) → IsAt s before tree steps above f → Grows before after
    → Shows after tree
shows s before after tree steps above f at grows =
    let all = at.keeps.all in
    let more = grows.count in record {
      branches = around at.way f;
      is_tree = at.is_tree;
      hangs = hangs_on before after Top (around at.way f) grows at.keeps.hangs;
      within = omega (arith, all, more);
    }

-- and in one where other branches stand beside it
pub shows_beside : (nodes : Nodes) (tree : Tree) (branches : Branches) (above : Row) (loose : Branches) → tree_of branches ≡ tree → Keeps nodes branches above loose
    → Shows nodes tree
shows_beside nodes tree branches above loose is keeps =
    let all = keeps.all in
    record { branches = branches; is_tree = is; hangs = keeps.hangs; within = omega (arith, all) }

pub wanting : {X : Type 0} (s : Schema) (r : Result X EditFault) (tree : Tree) (answer : Result Tree EditRefusal) (nodes : Nodes) → IsErrAnd r (λ e. e ≡ Memory)
    → Shows nodes tree → Amends s tree answer nodes r
wanting s (Ok x) tree answer nodes is there = absurd is
wanting {X} s (Err e) tree answer nodes is there = subst (λ f. Amends {X = X} s tree answer nodes (Err f)) (sym is) there

-- where nothing stands beside a tree, it stands in no row
pub at_top : (nodes : Nodes) (tree : Branches) (above : Row) → Keeps nodes tree above end → Keeps nodes tree Top end
at_top nodes tree above keeps = record { hangs = keeps.hangs; stands = tt; once = keeps.once; all = keeps.all }

pub at_row : (nodes : Nodes) (tree : Branches) (above : Row) → Keeps nodes tree Top end → Keeps nodes tree above end
at_row nodes tree above keeps = record { hangs = keeps.hangs; stands = tt; once = keeps.once; all = keeps.all }

-- the row at the end of a way in a document in order is in order
sorted_below : (before : Branches) (n : Numbered) (below after : Branches) → IsSorted (tree_of (join before (node n below after))) → IsSorted (tree_of below)
sorted_below end n below after sorted = sorted.1
sorted_below (node m under rest) n below after sorted = sorted_below rest n below after sorted.2

pub sorted_end : (way : Way) (f : Branches) → IsSorted (tree_of (around way f)) → IsSorted (tree_of f)
sorted_end [] f sorted = sorted
sorted_end (frame ∷ way) f sorted = sorted_end way f (sorted_below frame.before frame.label (around way f) frame.after sorted)

-- the document once the row at the end of a way is another
held : (s : Schema) (nodes : Nodes) (tree : Tree) (steps : List Step) (way : Way) (to : Tree → Tree) (f g : Branches) (above : Row) → Goes steps way
    → tree_of (around way f) ≡ tree → to (tree_of f) ≡ tree_of g → Keeps nodes (around way g) above end → IsTold s nodes (around way g)
    → HoldsTold s nodes (edit_at steps to tree)
held s nodes tree steps way to f g above goes is changed keeps told = record {
  branches = around way g;
  is_tree = sym (document.along steps way to f g goes changed) ∙ ap (edit_at steps to) is;
  keeps = at_top nodes (around way g) above keeps;
  told = told;
}

-- a change of a row takes as many nodes as it gives more
size_around : (way : Way) (f g : Branches) → size (around way g) + size f ≡ size (around way f) + size g
size_around way f g =
    let a = weigh_around (λ _. 1) way f in
    let b = weigh_around (λ _. 1) way g in
    let c = size_weigh f in
    let d = size_weigh g in
    let e = size_weigh (around way f) in
    let h = size_weigh (around way g) in
    omega (arith, a, b, c, d, e, h)

-- and its size is that of the document
size_along : (s : Schema) (nodes : Nodes) (tree : Tree) (steps : List Step) (above : Row) (f g : Branches) (at : IsAt s nodes tree steps above f) (to : Tree → Tree)
    → to (tree_of f) ≡ tree_of g → size (edit_at steps to tree) ≡ size (around at.way g)
size_along s nodes tree steps above f g at to is =
    ap size (ap (edit_at steps to) (sym at.is_tree) ∙ document.along steps at.way to f g at.goes is) ∙ relabelled-size stored_of (around at.way g)

pub within : (t : Tree) → size t ≤ document_limit → within_limit t ≡ Ok t
within t few = rw (le-ltb document_limit (size t) few) refl

pub over : (t : Tree) → document_limit < size t → within_limit t ≡ Err (record { code = 11; document_code = None })
over t many = rw (lt-ltb document_limit (size t) many) refl

-- what was put in beside a document is given back
kept : (s : Schema) (mid after : Nodes) (tree : Tree) (branches : Branches) (above : Row) (loose : Branches) (numbers : List NodeId)
    → tree_of branches ≡ tree → Keeps mid branches above loose → IsTold s mid branches → numbers ≡ ids_of loose → Removes numbers mid after → HoldsTold s after tree
kept s mid after tree branches above loose numbers is keeps told are removes =
    let gone = subst (λ ids. Removes ids mid after) are removes in record {
      branches = branches;
      is_tree = is;
      keeps = at_top after branches above (given_back mid after branches above loose keeps gone);
      told = told_removed s mid after branches above loose keeps gone told;
    }

pub by_number : (s t : SchemaId) → s.0 ≡ t.0 → s ≡ t
by_number s t e = ap (λ k. let u : SchemaId = record { 0 = k } in u) e

module _ (s : Schema) (before mid : Nodes) (tree : Tree) (steps : List Step) (above : Row) (f : Branches) (id : NodeId) (label : Stored) (below : Tree) (has : List NodeId)
    (made : Inserts above id label below before mid [] has) (fresh : Freshens s before mid) (at : IsAt s before tree steps above f) (sorted : IsSorted below) where
  abbrev pub b : Branch
  b = record { label = label; below = below }

  abbrev pub g : Branches
  g = laid made.branches

  -- what was put in is the part
  pub part_is : (λ (n : Numbered) (b : Branches). let r : Branch = record { label = stored_of n; below = tree_of b } in r) made.root g ≡ b
  part_is = ap₂ (λ (l : Stored) (t : Tree). let r : Branch = record { label = l; below = t } in r) made.is_label
      (ap tree_of (laid_sorted made.branches (subst IsSorted (sym made.is_below) sorted)) ∙ made.is_below)

  pub beside : Keeps mid (around at.way f) above (node made.root g end)
  beside = keeps_inserted above id label below before mid [] has (around at.way f) made at.keeps

  pub told_mid : IsTold s mid (around at.way f)
  told_mid = told_inserted s before mid (around at.way f) at.keeps.hangs made.grows fresh at.told

  pub fresh_mid : Every (IsFresh s mid) (standing (end_of Top at.way) (node made.root g end))
  fresh_mid = fresh_inserted s above id label below before mid [] has made fresh (end_of Top at.way)

  pub numbers_are : has ≡ ids_of (node made.root g end)
  numbers_are = made.numbers ∙ (ap (λ h. made.root.id ∷ ids_of h) (sym (laid_sorted made.branches (subst IsSorted (sym made.is_below) sorted)))
      ∙ (ap (λ xs. made.root.id ∷ xs) (sym (append-nil (ids_of g))) ∙ sym (ids_node made.root g end)))

  pub root_schema : (own : SchemaId) → own.0 ≡ label.schema_number → made.root.schema ≡ own
  root_schema own number = by_number made.root.schema own (ap (λ (l : Stored). l.schema_number) made.is_label ∙ sym number)

  -- ---- behind those of its schema node

  abbrev pub more : Branches
  more = with_node made.root g f

  pub branch_is : with_branch b (tree_of f) ≡ tree_of more
  branch_is = ap (λ c. with_branch c (tree_of f)) (sym part_is) ∙ sym (document.added made.root g f)

  -- the document with the part has as many nodes as the store once the part is put in
  pub more_size : size (around at.way more) ≡ node_count mid
  more_size =
      let change = size_around at.way f more in
      let put = weigh_put (λ _. 1) (rows.end_place made.root.schema (children_of f)) made.root g f in
      let whole = size_weigh more in
      let one = size_weigh f in
      let two = size_weigh g in
      let all = beside.all in
      omega (arith, change, put, whole, one, two, all)

  pub added_size : size (edit_at steps (with_branch b) tree) ≡ node_count mid
  added_size = size_along s before tree steps above f more at (with_branch b) branch_is ∙ more_size

  abbrev pub adding : (all : List NodeId) → all ≡ has → (own : SchemaId) → own.0 ≡ label.schema_number
      → Swapping (record { above = above; schema = own; change = Add id }) mid [] all
  adding all is own number =
      record {
        way = at.way;
        f = f;
        loose = node made.root g end;
        g = more;
        left = end;
        at = at.ends;
        swaps = record { label = made.root; below = g; is_new = made.is_id; is_schema = root_schema own number; beside = refl; row = refl; none = refl };
        sorted = sorted_end at.way f at.sorted;
        keeps = beside;
        are_old = refl;
        are_new = sym (is ∙ numbers_are);
      }

  pub hangs : (most : ℕ) (after : Nodes) → node_count mid ≤ most → Keeps after (around at.way more) above end → IsTold s after (around at.way more)
      → HangsPart s most tree (edit_at steps (with_branch b) tree) after true
  hangs most after few keeps told = (
    subst (λ k. k ≤ most) (sym added_size) few,
    held s after tree steps at.way (with_branch b) f more above at.goes at.is_tree branch_is keeps told,
  )

  pub carries : (after : Nodes) → Keeps after (around at.way more) above end → IsTold s after (around at.way more) → Carries s after at.way (with_branch b (tree_of f))
  carries after keeps told = record { branches = more; is_row = sym branch_is; keeps = at_top after (around at.way more) above keeps; told = told }

  pub hangs_not : (most : ℕ) (after : Nodes) → most < node_count mid → Removes has mid after
      → HangsPart s most tree (edit_at steps (with_branch b) tree) after false
  hangs_not most after many removes = (
    subst (λ k. most < k) (sym added_size) many,
    kept s mid after tree (around at.way f) above (node made.root g end) has at.is_tree beside told_mid numbers_are removes,
  )

  -- ---- in the place of another

  module _ (step : Step) (schema : SchemaId) (old : NodeId) (numbers : List NodeId) (part : IsPart step schema old numbers f) where
    abbrev pub first : Branches
    first = part.found.frame.before

    abbrev pub rest : Branches
    rest = part.found.frame.after

    abbrev pub m : Numbered
    m = part.found.frame.label

    abbrev pub under : Branches
    under = part.found.below

    abbrev pub other : Branches
    other = join first (node made.root g rest)

    pub instead_is : with_instead step b (tree_of f) ≡ tree_of other
    instead_is =
        ap (λ c. with_instead step c (tree_of f)) (sym part_is)
        ∙ (ap (λ h. with_instead step (record { label = stored_of made.root; below = tree_of g }) (tree_of h)) part.found.is_row
        ∙ document.put step first rest m under made.root g (ap (λ (i : SchemaId). i.0) part.found.is_schema ∙ part.is_schema)
        (ap (λ k. instances_in (tree_of first) k) (sym part.is_schema) ∙ part.found.is_index))

    pub other_size : size (around at.way other) + length numbers ≡ node_count mid
    other_size =
        let change = size_around at.way f other in
        let new = weigh_join (λ _. 1) first (node made.root g rest) in
        let was = weigh_join (λ _. 1) first (node m under rest) in
        let row : size f ≡ size (join first (node m under rest)) = ap size part.found.is_row in
        let w1 = size_weigh other in
        let w2 = size_weigh (join first (node m under rest)) in
        let w3 = size_weigh g in
        let w4 = size_weigh under in
        let count : length numbers ≡ size (node m under end) = ap length part.are_numbers ∙ length_ids (node m under end) in
        let all = beside.all in
        omega (arith, change, new, was, row, w1, w2, w3, w4, count, all)

    pub put_size : size (edit_at steps (with_instead step b) tree) ≡ size (around at.way other)
    put_size = size_along s before tree steps above f other at (with_instead step b) instead_is

    abbrev pub putting : (all : List NodeId) → all ≡ has → (own : SchemaId) → own.0 ≡ label.schema_number → label.schema_number ≡ schema.0
        → Swapping (record { above = above; schema = own; change = Put old id }) mid numbers all
    putting all is own number same =
        record {
          way = at.way;
          f = f;
          loose = node made.root g end;
          g = other;
          left = node m under end;
          at = at.ends;
          swaps = record {
            before = first;
            from = m;
            under = under;
            to = made.root;
            below = g;
            after = rest;
            is_old = part.found.is_id;
            is_new = made.is_id;
            is_schema = part.found.is_schema ∙ sym (by_number own schema (number ∙ same));
            same_schema = root_schema own number;
            was = part.found.is_row;
            beside = refl;
            row = refl;
            goes = refl;
          };
          sorted = sorted_end at.way f at.sorted;
          keeps = beside;
          are_old = sym part.are_numbers;
          are_new = sym (is ∙ numbers_are);
        }

    pub put_part : (after : Nodes) → node_count mid ≤ document_limit + length numbers → Keeps after (around at.way other) above end → IsTold s after (around at.way other)
        → (changed : Tree) × (within_limit (edit_at steps (with_instead step b) tree) ≡ Ok changed) × HoldsTold s after changed
    put_part after few keeps told =
        let size_is = other_size in
        let is = put_size in (
          edit_at steps (with_instead step b) tree,
          within (edit_at steps (with_instead step b) tree) (omega (arith, few, size_is, is)),
          held s after tree steps at.way (with_instead step b) f other above at.goes at.is_tree instead_is keeps told,
        )

    pub put_over : (X : Type 0) (after : Nodes) (fault : EditFault) → document_limit + length numbers < node_count mid → Removes has mid after → fault ≡ Refused E11 None
        → Amends {X = X} s tree (within_limit (edit_at steps (with_instead step b) tree)) after (Err fault)
    put_over X after fault many removes told =
        let size_is = other_size in
        let is = put_size in
        subst (λ e. Amends {X = X} s tree (within_limit (edit_at steps (with_instead step b) tree)) after (Err e)) (sym told) (
          over (edit_at steps (with_instead step b) tree) (omega (arith, many, size_is, is)),
          kept s mid after tree (around at.way f) above (node made.root g end) has at.is_tree beside told_mid numbers_are removes,
        )

-- ---- out of a row

module _ (s : Schema) (before : Nodes) (tree : Tree) (steps : List Step) (above : Row) (f : Branches) (step : Step) (of : SchemaId) (old : NodeId) (numbers : List NodeId)
    (at : IsAt s before tree steps above f) (part : IsPart step of old numbers f) where
  abbrev pub less : Branches
  less = join part.found.frame.before part.found.frame.after

  abbrev pub taking : (place : ℕ) → instance_index step ≡ place → Swapping (record { above = above; schema = of; change = Take old place }) before numbers []
  taking place is =
      record {
        way = at.way;
        f = f;
        loose = end;
        g = less;
        left = node part.found.frame.label part.found.below end;
        at = at.ends;
        swaps = record {
          before = part.found.frame.before;
          from = part.found.frame.label;
          under = part.found.below;
          after = part.found.frame.after;
          is_old = part.found.is_id;
          is_schema = part.found.is_schema;
          is_place = part.found.is_index ∙ is;
          was = part.found.is_row;
          none = refl;
          row = refl;
          goes = refl;
        };
        sorted = sorted_end at.way f at.sorted;
        keeps = at_row before (around at.way f) above at.keeps;
        are_old = sym part.are_numbers;
        are_new = refl;
      }

  pub less_size : size (around at.way less) ≤ 2 ^ 28
  less_size =
      let change = size_around at.way f less in
      let now = weigh_join (λ _. 1) part.found.frame.before part.found.frame.after in
      let was = weigh_join (λ _. 1) part.found.frame.before (node part.found.frame.label part.found.below part.found.frame.after) in
      let row : size f ≡ size (join part.found.frame.before (node part.found.frame.label part.found.below part.found.frame.after)) = ap size part.found.is_row in
      let w1 = size_weigh less in
      let w2 = size_weigh (join part.found.frame.before (node part.found.frame.label part.found.below part.found.frame.after)) in
      let few = at.told.totals.small.few in
      omega (arith, change, now, was, row, w1, w2, few)

  pub taken : (after : Nodes) → Keeps after (around at.way less) above end → IsTold s after (around at.way less) → HoldsTold s after (edit_at steps (without step) tree)
  taken after keeps told =
      held s after tree steps at.way (without step) f less above at.goes at.is_tree
      (ap (λ h. without step (tree_of h)) part.found.is_row
      ∙ document.taken step part.found.frame.before part.found.frame.after part.found.frame.label part.found.below
      (ap (λ (i : SchemaId). i.0) part.found.is_schema ∙ part.is_schema) (ap (λ k. instances_in (tree_of part.found.frame.before) k) (sym part.is_schema) ∙ part.found.is_index))
      keeps told

  -- ---- at another place of it

  abbrev pub elsewhere : ℕ → Branches
  elsewhere to = with_node_at to part.found.frame.label part.found.below less

  abbrev pub moving : (from to : ℕ) → instance_index step ≡ from → Swapping (record { above = above; schema = of; change = Move old from to }) before [] []
  moving from to is =
      record {
        way = at.way;
        f = f;
        loose = end;
        g = elsewhere to;
        left = end;
        at = at.ends;
        swaps = record {
          before = part.found.frame.before;
          label = part.found.frame.label;
          under = part.found.below;
          after = part.found.frame.after;
          is_id = part.found.is_id;
          is_schema = part.found.is_schema;
          is_from = part.found.is_index ∙ is;
          was = part.found.is_row;
          none = refl;
          row = refl;
          none_left = refl;
        };
        sorted = sorted_end at.way f at.sorted;
        keeps = at_row before (around at.way f) above at.keeps;
        are_old = refl;
        are_new = refl;
      }

  pub elsewhere_size : (to : ℕ) → size (around at.way (elsewhere to)) ≤ 2 ^ 28
  elsewhere_size to =
      let place = rows.first_place part.found.frame.label.schema (children_of less) + min to (length (rows.of_schema part.found.frame.label.schema (children_of less))) in
      let change = size_around at.way f (elsewhere to) in
      let put = weigh_put (λ _. 1) place part.found.frame.label part.found.below less in
      let now = weigh_join (λ _. 1) part.found.frame.before part.found.frame.after in
      let was = weigh_join (λ _. 1) part.found.frame.before (node part.found.frame.label part.found.below part.found.frame.after) in
      let row : size f ≡ size (join part.found.frame.before (node part.found.frame.label part.found.below part.found.frame.after)) = ap size part.found.is_row in
      let w1 = size_weigh (elsewhere to) in
      let w2 = size_weigh (join part.found.frame.before (node part.found.frame.label part.found.below part.found.frame.after)) in
      let few = at.told.totals.small.few in
      omega (arith, change, put, now, was, row, w1, w2, few)

  pub elsewhere_is : (to position : ℕ) → position - 1 ≡ to → with_moved step position (tree_of f) ≡ tree_of (elsewhere to)
  elsewhere_is to position is =
      ap (λ h. with_moved step position (tree_of h)) part.found.is_row
      ∙ (document.moved step position part.found.frame.before part.found.frame.after part.found.frame.label part.found.below
      (subst (λ h. IsSorted (tree_of h)) part.found.is_row (sorted_end at.way f at.sorted))
      (ap (λ (i : SchemaId). i.0) part.found.is_schema ∙ part.is_schema) (ap (λ k. instances_in (tree_of part.found.frame.before) k) (sym part.is_schema) ∙ part.found.is_index)
      ∙ ap (λ k. tree_of (elsewhere k)) is)

  pub moved : (to position : ℕ) → position - 1 ≡ to → (after : Nodes) → Keeps after (around at.way (elsewhere to)) above end → IsTold s after (around at.way (elsewhere to))
      → HoldsTold s after (edit_at steps (with_moved step position) tree)
  moved to position is after keeps told =
      held s after tree steps at.way (with_moved step position) f (elsewhere to) above at.goes at.is_tree (elsewhere_is to position is) keeps told

-- ---- a row with room

abbrev pub prepared : (swap : Swap) (before after : Nodes) (old new : List NodeId) → Swapping swap before old new → MakesRoom swap.above before after → Prepared swap after old new
prepared swap before after old new p room =
    record {
      ready = record {
        way = p.way;
        f = p.f;
        loose = p.loose;
        g = p.g;
        left = p.left;
        at = p.at;
        swaps = p.swaps;
        sorted = p.sorted;
        keeps = keeps_same before after (room_same swap.above before after room.room room.changed) (around p.way p.f) swap.above p.loose p.keeps;
        room = room_is_there before after swap.above room;
      };
      are_old = p.are_old;
      are_new = p.are_new;
    }

pub err_then : {T E P Q : Type 0} (r : Result T E) → (P → Q) → OnErr r P → OnErr r Q
err_then (Ok x) next so = tt
err_then (Err e) next so = next so

pub ok_both : {T E P Q R : Type 0} (r : Result T E) → (P → Q → R) → OnOk r P → OnOk r Q → OnOk r R
ok_both (Ok x) next so also = next so also
ok_both (Err e) next so also = tt

pub stays_same : (before after : Nodes) → Stays before after → SameShapes before after
stays_same before after stays = record { shapes = λ above. ap (option_map (λ held. held.shape)) (stays.held above); all = stays.node_count }

-- ---- answers

pub if_err : {T E : Type 0} (P : E → Type 0) (Q : T → Type 0) (r : Result T E) → IsErrAnd r P → IfOk r Q
if_err P Q (Ok x) is = absurd is
if_err P Q (Err e) is = tt

pub hung : (s : Schema) (tree changed : Tree) (nodes : Nodes) (b : Bool) → b ≡ true → HangsPart s document_limit tree changed nodes b
    → (t : Tree) × (within_limit changed ≡ Ok t) × HoldsTold s nodes t
hung s tree changed nodes true is so = (changed, within changed so.0, so.1)
hung s tree changed nodes false is so = absurd cc

pub no_room : (s : Schema) (tree changed : Tree) (nodes : Nodes) (fault : EditFault) (b : Bool) → b ≡ false → fault ≡ Refused E11 None
    → HangsPart s document_limit tree changed nodes b → Amends {X = Unit {0}} s tree (within_limit changed) nodes (Err fault)
no_room s tree changed nodes fault true is told so = absurd cc
no_room s tree changed nodes fault false is told so =
    subst (λ e. Amends {X = Unit {0}} s tree (within_limit changed) nodes (Err e)) (sym told) (over changed so.0, so.1)
