-- Children that are found by their schema node, and the ways to their rows.
use Rattle.std.proofs.Common.{◌≡◌, ℕ, zero, suc, ◌+◌, Bool, true, false, List, [], ◌∷◌, ◌++◌, length, map, filter, slice_get, Some, refl, sym, ap, ◌∙◌, arith, cond, eqb}
use Rattle.std.proofs.lemmas.Bool.{eqb-true}
use Rattle.std.proofs.lemmas.List.Sums.{sum_by-cons}
use Rattle.std.proofs.lemmas.Option.{same_Some, none-some}
use Rattle.yspec.specs.Forest.{end, node, row, join}
use Rattle.yspec.specs.document.Document.{Stored, Step, instances_in}
use Rattle.yspec.specs.edit.Edit.{instance_index}
use Rattle.yschema_model.specs.declared.node.SchemaId.{SchemaId}
use Rattle.ystore_rows.specs.Rows.{Child, of_schema}
use Rattle.ystore.specs.Store.{children_at}
use Rattle.ystore_rows.specs.declared.row.NodeId.{NodeId}
use Rattle.ystore_rows.specs.declared.row.Row.{Row}
use Rattle.ystore_rows.specs.declared.row.Row.TheVariants.{Below}
use Rattle.ystore.specs.declared.nodes.Nodes.{Nodes}
use Rattle.ystore_tree.specs.Hanging.{Numbered, Branches, stored_of, tree_of, child_of, children_of, Hangs}
use Rattle.ystore_tree.specs.Ways.{Frame, Way, Goes, Found, around, end_of}

pub instances-cons : (n : Numbered) (below after : Branches) (number : ℕ) (b : Bool) → eqb n.schema.0 number ≡ b
    → instances_in (tree_of (node n below after)) number ≡ cond b 1 0 + instances_in (tree_of after) number
instances-cons n below after number b e =
    sum_by-cons (λ (x : Stored). cond (eqb x.schema_number number) 1 0) (stored_of n) (row (tree_of after))
    ∙ ap (λ x. cond x 1 0 + instances_in (tree_of after) number) e

pub instances_join : (f g : Branches) (number : ℕ) → instances_in (tree_of (join f g)) number ≡ instances_in (tree_of f) number + instances_in (tree_of g) number
instances_join end g number = omega arith
instances_join (node n below after) g number =
    let here = instances-cons n below (join after g) number (eqb n.schema.0 number) refl in
    let alone = instances-cons n below after number (eqb n.schema.0 number) refl in
    let rest = instances_join after g number in
    omega (arith, here, alone, rest)

pub of_schema-cons : (s : SchemaId) (c : Child) (cs : List Child) (b : Bool) → eqb c.0.0 s.0 ≡ b → of_schema s (c ∷ cs) ≡ cond b (c.1 ∷ of_schema s cs) (of_schema s cs)
of_schema-cons s c cs true e = ap (λ b. map (λ (c : Child). c.1) (cond b (c ∷ filter (λ (d : Child). eqb d.0.0 s.0) cs) (filter (λ (d : Child). eqb d.0.0 s.0) cs))) e
of_schema-cons s c cs false e = ap (λ b. map (λ (c : Child). c.1) (cond b (c ∷ filter (λ (d : Child). eqb d.0.0 s.0) cs) (filter (λ (d : Child). eqb d.0.0 s.0) cs))) e

pub found : (s : SchemaId) (k : ℕ) (f : Branches) (id : NodeId) → slice_get (of_schema s (children_of f)) k ≡ Some id → Found s k id f
found s k end id is = absurd (none-some id is)
found s k (node n below after) id is =
    by (λ j e. found s j after id e) (eqb n.schema.0 s.0) refl k is
  where
    onward : (j k : ℕ) → instances_in (tree_of (node n below end)) s.0 + j ≡ k → Found s j id after → Found s k id (node n below after)
    onward j k count inner =
        record {
          frame = record { before = node n below inner.frame.before; label = inner.frame.label; after = inner.frame.after };
          below = inner.below;
          is_row = ap (node n below) inner.is_row;
          is_schema = inner.is_schema;
          is_id = inner.is_id;
          is_index =
              let index = inner.is_index in
              let here = instances-cons n below inner.frame.before s.0 (eqb n.schema.0 s.0) refl in
              let alone = instances-cons n below end s.0 (eqb n.schema.0 s.0) refl in
              omega (arith, index, here, alone, count);
        }

    by : ((j : ℕ) → slice_get (of_schema s (children_of after)) j ≡ Some id → Found s j id after)
        → (b : Bool) → eqb n.schema.0 s.0 ≡ b → (k : ℕ) → slice_get (of_schema s (children_of (node n below after))) k ≡ Some id → Found s k id (node n below after)
    by inner true e zero is =
        let here : Some n.id ≡ Some id = sym (ap (λ (ids : List NodeId). slice_get ids 0) (of_schema-cons s (child_of n) (children_of after) true e)) ∙ is in
        record {
          frame = record { before = end; label = n; after = after };
          below = below;
          is_row = refl;
          is_schema = ap (λ (j : ℕ). record { 0 = j }) (eqb-true n.schema.0 s.0 e);
          is_id = same_Some n.id id here;
          is_index = refl;
        }
    by inner true e (suc k) is =
        onward k (suc k) (let alone = instances-cons n below end s.0 true e in omega (arith, alone))
        (inner k (sym (ap (λ (ids : List NodeId). slice_get ids (suc k)) (of_schema-cons s (child_of n) (children_of after) true e)) ∙ is))
    by inner false e k is =
        onward k k (let alone = instances-cons n below end s.0 false e in omega (arith, alone))
        (inner k (sym (ap (λ (ids : List NodeId). slice_get ids k) (of_schema-cons s (child_of n) (children_of after) false e)) ∙ is))

pub counted : (s : SchemaId) (f : Branches) → length (of_schema s (children_of f)) ≡ instances_in (tree_of f) s.0
counted s end = refl
counted s (node n below after) = by (eqb n.schema.0 s.0) refl (counted s after)
  where
    by : (b : Bool) → eqb n.schema.0 s.0 ≡ b → length (of_schema s (children_of after)) ≡ instances_in (tree_of after) s.0
        → length (of_schema s (children_of (node n below after))) ≡ instances_in (tree_of (node n below after)) s.0
    by true e rest =
        let listed = ap length (of_schema-cons s (child_of n) (children_of after) true e) in
        let stored = instances-cons n below after s.0 true e in
        omega (arith, listed, stored, rest)
    by false e rest =
        let listed = ap length (of_schema-cons s (child_of n) (children_of after) false e) in
        let stored = instances-cons n below after s.0 false e in
        omega (arith, listed, stored, rest)

pub found_at : (nodes : Nodes) (above : Row) (f : Branches) (s : SchemaId) (k : ℕ) (id : NodeId) → Hangs nodes above f
    → slice_get (of_schema s (children_at nodes above)) k ≡ Some id → Found s k id f
found_at nodes above f s k id hangs is = found s k f id (sym (ap (λ cs. slice_get (of_schema s cs) k) hangs.listed) ∙ is)

pub counted_at : (nodes : Nodes) (above : Row) (f : Branches) (s : SchemaId) → Hangs nodes above f
    → length (of_schema s (children_at nodes above)) ≡ instances_in (tree_of f) s.0
counted_at nodes above f s hangs = ap (λ cs. length (of_schema s cs)) hangs.listed ∙ counted s f

-- ---- a step further

pub around_more : (way : Way) (frame : Frame) (f : Branches) → around (way ++ frame ∷ []) f ≡ around way (join frame.before (node frame.label f frame.after))
around_more [] frame f = refl
around_more (first ∷ way) frame f = ap (λ g. join first.before (node first.label g first.after)) (around_more way frame f)

pub end_more : (above : Row) (way : Way) (frame : Frame) → end_of above (way ++ frame ∷ []) ≡ Below frame.label.id
end_more above [] frame = refl
end_more above (first ∷ way) frame = end_more (Below first.label.id) way frame

pub goes_more : (steps : List Step) (way : Way) (step : Step) (frame : Frame) → Goes steps way → frame.label.schema.0 ≡ step.schema_number
    → instances_in (tree_of frame.before) step.schema_number ≡ instance_index step → Goes (steps ++ step ∷ []) (way ++ frame ∷ [])
goes_more [] [] step frame goes schema index = (schema, index, tt)
goes_more [] (first ∷ way) step frame goes schema index = absurd goes
goes_more (s ∷ steps) [] step frame goes schema index = absurd goes
goes_more (s ∷ steps) (first ∷ way) step frame goes schema index = (goes.0, goes.1, goes_more steps way step frame goes.2 schema index)
