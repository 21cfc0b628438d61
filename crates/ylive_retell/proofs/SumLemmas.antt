-- A sum over the nodes of a document changes by the row at the end of a way, and the node above it.
use Rattle.std.proofs.Common.{◌≡◌, ℕ, ◌+◌, List, [], ◌∷◌, ◌++◌, refl, sym, ap, ◌∙◌, arith, eqb, cond}
use Rattle.std.specs.Prelude.{sum_by, count_by}
use Rattle.yspec.specs.Forest.{end, node, row, join, weigh_nodes}
use Rattle.yspec.specs.types.Types.{Val}
use Rattle.yspec.specs.schema.Schema.{Schema, children_of}
use Rattle.yspec.specs.document.Document.{Stored, Tree}
use Rattle.yspec.specs.document.Play.{in_play}
use Rattle.yspec.specs.document.Instances.{is_value, value_of, times_in_use, times_below, times_at, times_in}
use Rattle.ystore_tree.specs.Hanging.{Branches, stored_of, tree_of}
use Rattle.ystore_tree.specs.Ways.{Way, around}
use Rattle.ystore_tree.proofs.GrowLemmas.{tree_join}
use Rattle.ylive_retell.specs.Sums.{top_at, times_there}

-- ---- rows

pub row_of_join : (f g : Tree) → row (join f g) ≡ row f ++ row g
row_of_join end g = refl
row_of_join (node s below after) g = ap (λ (ss : List Stored). s ∷ ss) (row_of_join after g)

pub nodes_join : (w : Stored → Tree → ℕ) (f g : Tree) → weigh_nodes w (join f g) ≡ weigh_nodes w f + weigh_nodes w g
nodes_join w end g = omega arith
nodes_join w (node s below after) g = let rest = nodes_join w after g in omega (arith, rest)

-- the labels of a row don't show what stands below one of them
pub same_labels : (before : Tree) (s : Stored) (b c after : Tree) → row (join before (node s b after)) ≡ row (join before (node s c after))
same_labels end s b c after = refl
same_labels (node r x f) s b c after = ap (λ (ss : List Stored). r ∷ ss) (same_labels f s b c after)

-- ---- sums

module _ (w : Stored → Tree → ℕ) (local : (s : Stored) (t u : Tree) → row t ≡ row u → w s t ≡ w s u) where
  pub framed : (way : Way) (top : Tree → ℕ) → ((t u : Tree) → row t ≡ row u → top t ≡ top u) → (f g : Branches)
      → (top (tree_of (around way g)) + weigh_nodes w (tree_of (around way g))) + (top_at w top way (tree_of f) + weigh_nodes w (tree_of f))
      ≡ (top (tree_of (around way f)) + weigh_nodes w (tree_of (around way f))) + (top_at w top way (tree_of g) + weigh_nodes w (tree_of g))
  framed [] top local_top f g = omega arith
  framed (frame ∷ way) top local_top f g =
      let inner = framed way (w (stored_of frame.label)) (local (stored_of frame.label)) f g in
      let left = whole f in
      let right = whole g in
      let tops = local_top (tree_of (around (frame ∷ way) g)) (tree_of (around (frame ∷ way) f)) labels in
      omega (arith, inner, left, right, tops)
    where
      below : Branches → Tree
      below h = tree_of (around way h)

      is_row : (h : Branches) → tree_of (around (frame ∷ way) h) ≡ join (tree_of frame.before) (node (stored_of frame.label) (below h) (tree_of frame.after))
      is_row h = tree_join frame.before (node frame.label (around way h) frame.after)

      whole : (h : Branches) → weigh_nodes w (tree_of (around (frame ∷ way) h))
          ≡ weigh_nodes w (tree_of frame.before) + (w (stored_of frame.label) (below h) + (weigh_nodes w (below h) + weigh_nodes w (tree_of frame.after)))
      whole h = ap (weigh_nodes w) (is_row h) ∙ nodes_join w (tree_of frame.before) (node (stored_of frame.label) (below h) (tree_of frame.after))

      labels : row (tree_of (around (frame ∷ way) g)) ≡ row (tree_of (around (frame ∷ way) f))
      labels =
          ap row (is_row g)
          ∙ (same_labels (tree_of frame.before) (stored_of frame.label) (below g) (below f) (tree_of frame.after)
          ∙ ap row (sym (is_row f)))

-- ---- how many instances have a value

times_local : (schema : Schema) (number : ℕ) (v : Val) (s : Stored) (t u : Tree) → row t ≡ row u → times_at schema number v s t ≡ times_at schema number v s u
times_local schema number v s t u rows = ap (λ (r : List Stored).
    cond (eqb s.schema_number number) (cond (is_value v (value_of schema s)) 1 0) 0
    + sum_by (times_in_use number v) (in_play (λ m. count_by (λ (x : Stored). eqb x.schema_number m) r) (children_of schema s.schema_number))) rows

top_local : (schema : Schema) (number : ℕ) (v : Val) (t u : Tree) → row t ≡ row u
    → times_below schema number v schema.nodes t ≡ times_below schema number v schema.nodes u
top_local schema number v t u rows = ap (λ (r : List Stored).
    sum_by (times_in_use number v) (in_play (λ m. count_by (λ (x : Stored). eqb x.schema_number m) r) schema.nodes)) rows

pub times_changed : (schema : Schema) (number : ℕ) (v : Val) (way : Way) (f g : Branches)
    → times_in schema (tree_of (around way g)) number v + (times_there schema number v way (tree_of f) + weigh_nodes (times_at schema number v) (tree_of f))
    ≡ times_in schema (tree_of (around way f)) number v + (times_there schema number v way (tree_of g) + weigh_nodes (times_at schema number v) (tree_of g))
times_changed schema number v way f g =
    framed (times_at schema number v) (times_local schema number v) way (times_below schema number v schema.nodes) (top_local schema number v) f g
