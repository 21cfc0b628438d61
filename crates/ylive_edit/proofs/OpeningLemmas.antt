-- A document that is told of is put together in a store, row by row.
use Rattle.std.proofs.Common.{◌≡◌, ℕ, suc, ◌+◌, ◌-◌, ◌≤◌, Bool, true, false, List, [], ◌∷◌, ◌++◌, length, slice_get, Some, option_map, refl, sym, ap, ap₂, ◌∙◌, arith, subst, cond}
use Rattle.std.specs.Prelude.{OnOk, Result, Ok, Err}
use Rattle.std.proofs.lemmas.Bool.{false≢true, le-ltb}
use Rattle.std.proofs.lemmas.Option.{same_Some}
use Rattle.yspec.specs.Forest.{end, node, join}
use Rattle.yspec.specs.schema.Schema.{Schema}
use Rattle.yspec.specs.document.Document.{Step, Stored, Tree, instances_in}
use Rattle.yspec.specs.document.Sorting.{StartsAt, IsSorted}
use Rattle.yspec.specs.edit.Editing.{Branch, with_branch}
use Rattle.yinst_tree.specs.View.{view, row_view}
use Rattle.yinst_tree.specs.declared.tree.Stored as rust
use Rattle.ystore.specs.Store.{Stays, children_at}
use Rattle.ystore_rows.specs.declared.row.NodeId.{NodeId}
use Rattle.ystore_rows.specs.declared.row.Row.{Row}
use Rattle.ystore_rows.specs.declared.row.Row.TheVariants.{Top, Below}
use Rattle.ystore.specs.declared.nodes.Nodes.{Nodes}
use Rattle.ystore_tree.specs.Hanging.{Numbered, Branches, Keeps, child_of, children_of, stored_of, tree_of}
use Rattle.ystore_tree.specs.Parts.{OnlyReads}
use Rattle.ystore_tree.specs.Ways.{Way, Frame, around, end_of}
use Rattle.ystore_tree.proofs.FoundLemmas.{around_more, end_more, goes_more}
use Rattle.ystore_tree.proofs.FrameLemmas.{keeps_same}
use Rattle.ystore_tree.proofs.GrowLemmas.{tree_join}
use Rattle.ystore_tree.proofs.OpenLemmas.{taken_stored}
use Rattle.ylive_retell.specs.Empty.{IsEmpty}
use Rattle.ylive_retell.specs.IsTold.{IsTold}
use Rattle.ylive_edit.specs.Places.{Carries, HoldsTold, IsAt, IsBehind}
use Rattle.ylive_edit.proofs.BesideLemmas.{told_read}
use Rattle.ylive_edit.proofs.LocatingLemmas.{hangs_at, same_shapes}

-- ---- rows in order

abbrev UpTo : ℕ → Tree → Type 0
UpTo k end = Unit {0}
UpTo k (node s below after) = (s.schema_number ≤ k) × UpTo k after

-- what comes before a node isn't greater
up_to : (t : Tree) (s : Stored) (below after : Tree) → IsSorted (join t (node s below after)) → UpTo s.schema_number t
up_to end s below after sorted = tt
up_to (node x under rest) s below after sorted =
    let later = up_to rest s below after sorted.2 in (first rest later sorted.0, later)
  where
    first : (t : Tree) → UpTo s.schema_number t → StartsAt x.schema_number (join t (node s below after)) → x.schema_number ≤ s.schema_number
    first end up start = start
    first (node y lower more) up start = let next = up.0 in omega (arith, start, next)

-- a branch that isn't smaller than any comes last
put_last : (b : Branch) (t : Tree) → UpTo b.label.schema_number t → with_branch b t ≡ join t (node b.label b.below end)
put_last b end up = refl
put_last b (node s below after) up =
    ap (λ c. cond c (node b.label b.below (node s below after)) (node s below (with_branch b after))) (le-ltb b.label.schema_number s.schema_number up.0)
    ∙ ap (λ r. node s below r) (put_last b after up.1)

sorted_first : (t u : Tree) → IsSorted (join t u) → IsSorted t
sorted_first end u sorted = tt
sorted_first (node s below after) u sorted = (start after sorted.0, sorted.1, sorted_first after u sorted.2)
  where
    start : (t : Tree) → StartsAt s.schema_number (join t u) → StartsAt s.schema_number t
    start end starts = tt
    start (node x b a) starts = starts

sorted_second : (t u : Tree) → IsSorted (join t u) → IsSorted u
sorted_second end u sorted = sorted
sorted_second (node s below after) u sorted = sorted_second after u sorted.2

-- what stands below a node of a row in order
pub sorted_below : (t : Tree) (s : Stored) (below after : Tree) → IsSorted (join t (node s below after)) → IsSorted below
sorted_below t s below after sorted = (sorted_second t (node s below after) sorted).1

-- and the row is in order with another row in order there
pub sorted_with : (t : Tree) (s : Stored) (below other after : Tree) → IsSorted (join t (node s below after)) → IsSorted other → IsSorted (join t (node s other after))
sorted_with end s below other after sorted fine = (sorted.0, fine, sorted.2)
sorted_with (node x under rest) s below other after sorted fine = (start rest sorted.0, sorted.1, sorted_with rest s below other after sorted.2 fine)
  where
    start : (t : Tree) → StartsAt x.schema_number (join t (node s below after)) → StartsAt x.schema_number (join t (node s other after))
    start end starts = starts
    start (node y b a) starts = starts

pub sorted_around : (way : Way) (f g : Branches) → IsSorted (tree_of (around way f)) → IsSorted (tree_of g) → IsSorted (tree_of (around way g))
sorted_around [] f g sorted fine = fine
sorted_around (frame ∷ way) f g sorted fine =
    let whole = subst IsSorted (tree_join frame.before (node frame.label (around way f) frame.after)) sorted in
    let inner = sorted_around way f g (sorted_below (tree_of frame.before) (stored_of frame.label) (tree_of (around way f)) (tree_of frame.after) whole) fine in
    subst IsSorted (sym (tree_join frame.before (node frame.label (around way g) frame.after)))
    (sorted_with (tree_of frame.before) (stored_of frame.label) (tree_of (around way f)) (tree_of (around way g)) (tree_of frame.after) whole inner)

-- ---- the last node of a row

label_or : Stored → Tree → Stored
label_or d end = d
label_or d (node s below after) = s

below_or : Tree → Tree
below_or end = end
below_or (node s below after) = below

after_or : Tree → Tree
after_or end = end
after_or (node s below after) = after

is_node : Tree → Bool
is_node end = false
is_node (node s below after) = true

none_seen : (f : Branches) → tree_of f ≡ end → f ≡ end
unfolding is_node
none_seen end e = refl
none_seen (node n below after) e = absurd (false≢true (ap is_node (sym e)))

-- a row of branches with a last one
pub record Last (t : Tree) (s : Stored) (below : Tree) (g : Branches) : Type 0 where
  pub before : Branches
  pub label : Numbered
  pub under : Branches
  pub is_row : g ≡ join before (node label under end)
  pub is_before : tree_of before ≡ t
  pub is_label : stored_of label ≡ s
  pub is_under : tree_of under ≡ below

pub last_of : (t : Tree) (s : Stored) (below : Tree) (g : Branches) → tree_of g ≡ join t (node s below end) → Last t s below g
unfolding is_node after_or label_or below_or
last_of end s below end e = absurd (false≢true (ap is_node e))
last_of end s below (node n under after) e =
    record {
      before = end;
      label = n;
      under = under;
      is_row = ap (node n under) (none_seen after (ap after_or e));
      is_before = refl;
      is_label = ap (label_or s) e;
      is_under = ap below_or e;
    }
last_of (node x lower rest) s below end e = absurd (false≢true (ap is_node e))
last_of (node x lower rest) s below (node n under after) e =
    let more = last_of rest s below after (ap after_or e) in
    record {
      before = node n under more.before;
      label = more.label;
      under = more.under;
      is_row = ap (node n under) more.is_row;
      is_before = ap₂ (λ (l : Stored) (r : Tree). node l (tree_of under) r) (ap (label_or x) e) more.is_before
          ∙ ap (λ b. node x b rest) (ap below_or e);
      is_label = more.is_label;
      is_under = more.is_under;
    }

last_length : (f : Branches) (n : Numbered) (below : Branches) → length (children_of (join f (node n below end))) ≡ suc (length (children_of f))
last_length end n below = refl
last_length (node m under after) n below = ap suc (last_length after n below)

last_listed : (f : Branches) (n : Numbered) (below : Branches) → slice_get (children_of (join f (node n below end))) (length (children_of f)) ≡ Some (child_of n)
last_listed end n below = refl
last_listed (node m under after) n below = last_listed after n below

-- the one that is read last is its number
last_read : (nodes : Nodes) (row : Row) (f : Branches) (n : Numbered) (below : Branches) (id : NodeId) → children_at nodes row ≡ children_of (join f (node n below end))
    → Some id ≡ option_map (λ c. c.1) (slice_get (children_at nodes row) (length (children_at nodes row) - 1)) → n.id ≡ id
last_read nodes row f n below id listed is =
    let count : length (children_of (join f (node n below end))) - 1 ≡ length (children_of f) = let all = last_length f n below in omega (arith, all) in
    sym (same_Some id n.id (is ∙ (ap (λ cs. option_map (λ c. c.1) (slice_get cs (length cs - 1))) listed
    ∙ (ap (λ k. option_map (λ c. c.1) (slice_get (children_of (join f (node n below end))) k)) count ∙ ap (option_map (λ c. c.1)) (last_listed f n below)))))

-- ---- places

-- the row at the end of a way has become another
abbrev pub at_row : (s : Schema) (before after : Nodes) (tree : Tree) (steps : List Step) (above : Row) (f : Branches) (row : Tree)
    → (at : IsAt s before tree steps above f) → (c : Carries s after at.way row) → IsSorted row → IsAt s after (tree_of (around at.way c.branches)) steps above c.branches
at_row s before after tree steps above f row at c sorted =
    record {
      way = at.way;
      keeps = c.keeps;
      told = c.told;
      is_tree = refl;
      sorted = sorted_around at.way f c.branches at.sorted (subst IsSorted (sym c.is_row) sorted);
      goes = at.goes;
      ends = at.ends;
    }

-- a part that was put in behind all of a row
pub put_behind : (s : Schema) (nodes : Nodes) (way : Way) (b : Branch) (t : Tree) → IsSorted (join t (node b.label b.below end)) → Carries s nodes way (with_branch b t)
    → Carries s nodes way (join t (node b.label b.below end))
put_behind s nodes way b t sorted = subst (Carries s nodes way) (put_last b t (up_to t b.label b.below end sorted))

-- a node without what is to stand below it
pub bare_sorted : (t : Tree) (l : Stored) (b : Tree) (bare : Branch) → bare.label ≡ l → bare.below ≡ end → IsSorted (join t (node l b end))
    → IsSorted (join t (node bare.label bare.below end))
bare_sorted t l b bare label below sorted =
    subst (λ u. IsSorted (join t u)) (sym (ap₂ (λ (l : Stored) (r : Tree). node l r end) label below)) (sorted_with t l b end end sorted tt)

abbrev pub bare_behind : (s : Schema) (nodes : Nodes) (above : Row) (b bare : Branch) → bare.label ≡ b.label → bare.below ≡ end → IsBehind s nodes above b
    → IsBehind s nodes above bare
bare_behind s nodes above b bare label below behind =
    record {
      tree = behind.tree;
      steps = behind.steps;
      f = behind.f;
      at = behind.at;
      sorted = bare_sorted (tree_of behind.f) b.label b.below bare label below behind.sorted;
    }

pub bare_carried : (s : Schema) (nodes : Nodes) (way : Way) (t : Tree) (l : Stored) (bare : Branch) → bare.label ≡ l → bare.below ≡ end
    → Carries s nodes way (join t (node bare.label bare.below end)) → Carries s nodes way (join t (node l end end))
bare_carried s nodes way t l bare label below = subst (λ u. Carries s nodes way (join t u)) (ap₂ (λ (l : Stored) (r : Tree). node l r end) label below)

-- ---- the row below a node that was put in without one

module _ (s : Schema) (before mid read : Nodes) (tree : Tree) (steps : List Step) (above : Row) (f : Branches) (at : IsAt s before tree steps above f)
    (l : Stored) (b : Tree) (sorted : IsSorted (join (tree_of f) (node l b end))) (c : Carries s mid at.way (join (tree_of f) (node l end end)))
    (only : OnlyReads mid read) (id : NodeId)
    (is : Some id ≡ option_map (λ c. c.1) (slice_get (children_at mid above) (length (children_at mid above) - 1))) where
  abbrev last : Last (tree_of f) l end c.branches
  last = last_of (tree_of f) l end c.branches c.is_row

  abbrev there : IsAt s mid (tree_of (around at.way c.branches)) steps above c.branches
  there = at_row s before mid tree steps above f (join (tree_of f) (node l end end)) at c (sorted_with (tree_of f) l b end end sorted tt)

  pub is_id : last.label.id ≡ id
  is_id = last_read mid above last.before last.label last.under id
      ((hangs_at s mid (tree_of (around at.way c.branches)) steps above c.branches there).listed ∙ ap children_of last.is_row) is

  abbrev frame : Frame
  frame = record { before = last.before; label = last.label; after = end }

  abbrev pub way_down : Way
  way_down = at.way ++ frame ∷ []

  abbrev pub step : Step
  step = record { schema_number = last.label.schema.0; position = Some (instances_in (tree_of last.before) last.label.schema.0 + 1) }

  pub whole : around way_down end ≡ around at.way c.branches
  whole = around_more at.way frame end ∙ ap (around at.way) (sym (last.is_row ∙ ap (λ u. join last.before (node last.label u end)) (none_seen last.under last.is_under)))

  abbrev pub below_at : IsAt s read (tree_of (around at.way c.branches)) (steps ++ step ∷ []) (Below id) end
  below_at =
      record {
        way = way_down;
        keeps = subst (λ g. Keeps read g Top end) (sym whole) (keeps_same mid read (same_shapes mid read only) (around at.way c.branches) Top end c.keeps);
        told = subst (λ g. IsTold s read g) (sym whole) (told_read s mid read (around at.way c.branches) only c.told);
        is_tree = ap tree_of whole;
        sorted = subst (λ g. IsSorted (tree_of g)) (sym whole) there.sorted;
        goes = goes_more steps at.way step frame at.goes refl (omega arith);
        ends = end_more Top at.way frame ∙ ap (λ (i : NodeId). Below i) is_id;
      }

  pub carried_up : (after : Nodes) (row : Tree) → Carries s after way_down row → Carries s after at.way (join (tree_of f) (node l row end))
  carried_up after row u =
      let g = join last.before (node last.label u.branches end) in
      record {
        branches = g;
        is_row = tree_join last.before (node last.label u.branches end)
            ∙ (ap (λ t. join t (node (stored_of last.label) (tree_of u.branches) end)) last.is_before
            ∙ ap₂ (λ (s : Stored) (r : Tree). join (tree_of f) (node s r end)) last.is_label u.is_row);
        keeps = subst (λ g. Keeps after g Top end) (around_more at.way frame u.branches) u.keeps;
        told = subst (λ g. IsTold s after g) (around_more at.way frame u.branches) u.told;
      }

-- ---- one node after another

module _ (rows : List rust.Stored) (part : rust.Stored) (rest : List rust.Stored) (t whole : Tree) (is : rows ≡ part ∷ rest)
    (so : join t (row_view rows) ≡ whole) (sorted : IsSorted whole) where
  pub next_sorted : IsSorted (join t (node (view part).0 (view part).1 end))
  next_sorted = sorted_first (join t (node (view part).0 (view part).1 end)) (row_view rest) (subst IsSorted (sym (taken_stored rows rest part t whole is so)) sorted)

  pub so_far_sorted : IsSorted t
  so_far_sorted = sorted_first t (row_view rows) (subst IsSorted (sym so) sorted)

-- the next one stands behind those so far
pub behind : (s : Schema) (before now : Nodes) (tree : Tree) (steps : List Step) (above : Row) (f : Branches) (t : Tree) (b : Branch)
    (at : IsAt s before tree steps above f) → Carries s now at.way t → IsSorted t → IsSorted (join t (node b.label b.below end)) → IsBehind s now above b
behind s before now tree steps above f t b at c sorted next =
    record {
      tree = tree_of (around at.way c.branches);
      steps = steps;
      f = c.branches;
      at = at_row s before now tree steps above f t at c sorted;
      sorted = subst (λ u. IsSorted (join u (node b.label b.below end))) (sym c.is_row) next;
    }

pub further : (s : Schema) (before now after : Nodes) (tree : Tree) (steps : List Step) (above : Row) (f : Branches) (t : Tree) (b : Branch)
    (at : IsAt s before tree steps above f) → (c : Carries s now at.way t) → IsSorted t → IsSorted (join t (node b.label b.below end))
    → ((tree : Tree) (steps : List Step) (g : Branches) → (at : IsAt s now tree steps above g) → IsSorted (join (tree_of g) (node b.label b.below end))
    → Carries s after at.way (join (tree_of g) (node b.label b.below end)))
    → Carries s after at.way (join t (node b.label b.below end))
further s before now after tree steps above f t b at c sorted next hung =
    subst (λ u. Carries s after at.way (join u (node b.label b.below end))) c.is_row
    (hung (tree_of (around at.way c.branches)) steps c.branches (at_row s before now tree steps above f t at c sorted)
    (subst (λ u. IsSorted (join u (node b.label b.below end))) (sym c.is_row) next))

pub ok_then : {T E P Q : Type 0} (r : Result T E) → (P → Q) → OnOk r P → OnOk r Q
ok_then (Ok x) next so = next so
ok_then (Err e) next so = tt

-- ---- whole documents

-- an empty store that is only lent and has room is empty
pub still_empty : (first now room : Nodes) → IsEmpty first → Stays first now → Stays now room → IsEmpty room
still_empty first now room empty stays grown =
    record {
      top = grown.held Top ∙ (stays.held Top ∙ empty.top);
      none_below = λ id. grown.held (Below id) ∙ (stays.held (Below id) ∙ empty.none_below id);
      index = λ key. grown.entries key ∙ (stays.entries key ∙ empty.index key);
      count = grown.node_count ∙ (stays.node_count ∙ empty.count);
    }

pub carries_nothing : (s : Schema) (before : Nodes) (tree : Tree) (steps : List Step) (above : Row) (at : IsAt s before tree steps above end) → Carries s before at.way end
carries_nothing s before tree steps above at = record { branches = end; is_row = refl; keeps = at.keeps; told = at.told }

-- the top row of an empty document
abbrev pub at_nothing : (s : Schema) (nodes : Nodes) → Keeps nodes end Top end → IsTold s nodes end → IsAt s nodes end [] Top end
at_nothing s nodes keeps told = record { way = []; keeps = keeps; told = told; is_tree = refl; sorted = tt; goes = tt; ends = refl }

pub holds_row : (s : Schema) (nodes : Nodes) (row : Tree) → Carries s nodes [] row → HoldsTold s nodes row
holds_row s nodes row c = record { branches = c.branches; is_tree = c.is_row; keeps = c.keeps; told = c.told }
