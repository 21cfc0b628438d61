-- Steps of a path lead on through the rows of a store.
use Rattle.std.proofs.Common.{◌≡◌, ℕ, zero, suc, ◌+◌, Bool, true, false, List, [], ◌∷◌, ◌++◌, option_map, refl, sym, ap, ◌∙◌, arith, cond, eqb, subst}
use Rattle.std.specs.Prelude.{◌<◌, ◌≤◌, Result, Ok, Err, length}
use Rattle.yspec.specs.Results.{Fails, ◌>>=◌}
use Rattle.yspec.specs.schema.Schema.{Schema}
use Rattle.yinst_path.specs.Applying.{told_by}
use Rattle.yinst_path.specs.declared.edit.EditFault.{EditFault}
use Rattle.yinst_path.specs.declared.edit.EditFault.TheVariants.{Refused, Memory}
use Rattle.std.proofs.lemmas.Bool.{eq-eqb}
use Rattle.std.proofs.lemmas.List.{append-nil, append_assoc}
use Rattle.std.proofs.lemmas.List.Sums.{sum_by-cons}
use Rattle.yspec.specs.Forest.{end, node, join, row}
use Rattle.yspec.specs.document.Document.{Stored, Tree, Step, instances_in}
use Rattle.yspec.specs.document.Sorting.{IsSorted}
use Rattle.yspec.specs.edit.Edit.{instance_index}
use Rattle.yspec.specs.edit.Editing as spec
use Rattle.yspec.specs.edit.Editing.{row_at}
use Rattle.yschema_model.specs.declared.node.SchemaId.{SchemaId}
use Rattle.ystore_rows.specs.declared.row.NodeId.{NodeId}
use Rattle.ystore_rows.specs.declared.row.Row.{Row}
use Rattle.ystore_rows.specs.declared.row.Row.TheVariants.{Top, Below}
use Rattle.ystore.specs.declared.nodes.Nodes.{Nodes}
use Rattle.ystore_tree.specs.Hanging.{Branches, Hangs, Keeps, stored_of, tree_of}
use Rattle.ystore_tree.specs.Changes.{SameShapes}
use Rattle.ystore_tree.specs.Parts.{OnlyReads}
use Rattle.ystore_tree.specs.Ways.{Found, around}
use Rattle.ystore_tree.proofs.FrameLemmas.{keeps_same}
use Rattle.ystore_tree.proofs.GrowLemmas.{tree_join}
use Rattle.ystore_tree.proofs.HangingLemmas.{at_end}
use Rattle.ystore_tree.proofs.PartLemmas.{children_read, stands_read}
use Rattle.ystore_tree.proofs.FoundLemmas.{around_more, end_more, goes_more}
use Rattle.ylive_retell.specs.IsTold.{IsTold}
use Rattle.ylive_edit.specs.Places.{HoldsTold, IsAt}
use Rattle.ylive_edit.proofs.BesideLemmas.{told_read}
use Rattle.ylive_edit.specs.Locating.{Locates}
use Rattle.ylive_edit.specs.declared.locating.Place.{Place}

-- ---- reads

pub same_shapes : (before after : Nodes) → OnlyReads before after → SameShapes before after
same_shapes before after only = record { shapes = λ above. ap (option_map (λ held. held.shape)) (only.held above); all = only.node_count }

pub at_read : (s : Schema) (before after : Nodes) (tree : Tree) (steps : List Step) (above : Row) (f : Branches) → IsAt s before tree steps above f
    → OnlyReads before after → IsAt s after tree steps above f
at_read s before after tree steps above f at only = record {
  way = at.way;
  keeps = keeps_same before after (same_shapes before after only) (around at.way f) Top end at.keeps;
  told = told_read s before after (around at.way f) only at.told;
  is_tree = at.is_tree;
  sorted = at.sorted;
  goes = at.goes;
  ends = at.ends;
}

pub hangs_at : (s : Schema) (nodes : Nodes) (tree : Tree) (steps : List Step) (above : Row) (f : Branches) → IsAt s nodes tree steps above f → Hangs nodes above f
hangs_at s nodes tree steps above f at = subst (λ r. Hangs nodes r f) at.ends (at_end nodes Top at.way f at.keeps.hangs)

pub hangs_read : (before after : Nodes) (above : Row) (f : Branches) → OnlyReads before after → Hangs before above f → Hangs after above f
hangs_read before after above f only hangs =
    record { listed = children_read before after above only ∙ hangs.listed; stands = stands_read before after above f only hangs.stands }

-- a document that is held stands at the top
pub at_start : (s : Schema) (nodes : Nodes) (tree : Tree) (holds : HoldsTold s nodes tree) → IsSorted tree → IsAt s nodes tree [] Top holds.branches
at_start s nodes tree holds sorted = record {
  way = [];
  keeps = holds.keeps;
  told = holds.told;
  is_tree = holds.is_tree;
  sorted = subst IsSorted (sym holds.is_tree) sorted;
  goes = tt;
  ends = refl;
}

-- ---- a step further

counted : (s : Stored) (below after : Tree) (number : ℕ) (b : Bool) → eqb s.schema_number number ≡ b
    → instances_in (node s below after) number ≡ cond b 1 0 + instances_in after number
counted s below after number b e = sum_by-cons (λ (r : Stored). cond (eqb r.schema_number number) 1 0) s (row after)
    ∙ ap (λ c. cond c 1 0 + instances_in after number) e

row_is : (number k : ℕ) (first : Tree) (s : Stored) (under rest : Tree) → s.schema_number ≡ number → instances_in first number ≡ k
    → row_at number k (join first (node s under rest)) ≡ under
row_is number k end s under rest same count =
    ap (λ j. row_at number j (node s under rest)) (sym count)
    ∙ ap (λ b. cond b under (row_at number 0 rest)) (eq-eqb s.schema_number number same)
row_is number k (node r below after) s under rest same count =
    by (eqb r.schema_number number) refl k count (λ j e. row_is number j after s under rest same e)
  where
    by : (b : Bool) → eqb r.schema_number number ≡ b → (k : ℕ) → instances_in (node r below after) number ≡ k
        → ((j : ℕ) → instances_in after number ≡ j → row_at number j (join after (node s under rest)) ≡ under)
        → row_at number k (node r below (join after (node s under rest))) ≡ under
    by true e zero count inner = let all = counted r below after number true e in absurd (omega (arith, count, all))
    by true e (suc k) count inner =
        let all = counted r below after number true e in
        ap (λ b. cond b (row_at number k (join after (node s under rest))) (row_at number (suc k) (join after (node s under rest)))) e
        ∙ inner k (omega (arith, count, all))
    by false e zero count inner =
        let all = counted r below after number false e in
        ap (λ b. cond b below (row_at number zero (join after (node s under rest)))) e ∙ inner zero (omega (arith, count, all))
    by false e (suc k) count inner =
        let all = counted r below after number false e in
        ap (λ b. cond b (row_at number k (join after (node s under rest))) (row_at number (suc k) (join after (node s under rest)))) e
        ∙ inner (suc k) (omega (arith, count, all))

-- the row below the node that was found
pub row_found : (s : SchemaId) (k : ℕ) (id : NodeId) (f : Branches) (found : Found s k id f) → row_at s.0 k (tree_of f) ≡ tree_of found.below
row_found s k id f found =
    ap (λ g. row_at s.0 k (tree_of g)) found.is_row
    ∙ (ap (row_at s.0 k) (tree_join found.frame.before (node found.frame.label found.below found.frame.after))
    ∙ row_is s.0 k (tree_of found.frame.before) (stored_of found.frame.label) (tree_of found.below) (tree_of found.frame.after)
    (ap (λ (i : SchemaId). i.0) found.is_schema) found.is_index)

-- and there steps lead on
pub at_further : (schema : Schema) (nodes : Nodes) (tree : Tree) (steps : List Step) (above : Row) (f : Branches) (step : Step) (s : SchemaId) (id : NodeId)
    → IsAt schema nodes tree steps above f → (found : Found s (instance_index step) id f) → s.0 ≡ step.schema_number
    → IsAt schema nodes tree (steps ++ step ∷ []) (Below id) found.below
at_further schema nodes tree steps above f step s id at found same =
    let whole : around (at.way ++ found.frame ∷ []) found.below ≡ around at.way f = around_more at.way found.frame found.below ∙ ap (around at.way) (sym found.is_row) in
    record {
      way = at.way ++ found.frame ∷ [];
      keeps = subst (λ g. Keeps nodes g Top end) (sym whole) at.keeps;
      told = subst (λ g. IsTold schema nodes g) (sym whole) at.told;
      is_tree = ap tree_of whole ∙ at.is_tree;
      sorted = subst (λ g. IsSorted (tree_of g)) (sym whole) at.sorted;
      goes = goes_more steps at.way step found.frame at.goes (ap (λ (i : SchemaId). i.0) found.is_schema ∙ same)
          (ap (instances_in (tree_of found.frame.before)) (sym same) ∙ found.is_index);
      ends = end_more Top at.way found.frame ∙ ap (λ (i : NodeId). Below i) found.is_id;
    }

-- ---- targets

pub none_left : {X : Type 0} (xs : List X) → length xs < 1 → xs ≡ []
none_left [] less = refl
none_left (x ∷ xs) less = absurd (omega (arith, less))

-- the last step's row is found
pub last_located : (s : Schema) (nodes : Nodes) (tree : Tree) (so_far : List Step) (above : Row) (f : Branches) (b : spec.BoundStep) (steps : List spec.BoundStep)
    → steps ≡ b ∷ [] → IsAt s nodes tree so_far above f
    → (more : List Step) × (g : Branches) × IsAt s nodes tree (so_far ++ more) above g
    × (spec.target s (tree_of f) steps ≡ Ok (record { above = more; row = tree_of g; last = b }))
last_located s nodes tree so_far above f b steps e at =
    ([], f, subst (λ xs. IsAt s nodes tree xs above f) (sym (append-nil so_far)) at, ap (spec.target s (tree_of f)) e)

lowered : (s : Schema) (nodes : Nodes) (tree : Tree) (so_far : List Step) (step : Step) (answer : Result spec.Target spec.EditRefusal) (r : Result Place EditFault)
    → Locates s tree (so_far ++ step ∷ []) answer nodes r → Locates s tree so_far (answer >>= (λ t. Ok (spec.lower step t))) nodes r
lowered s nodes tree so_far step answer (Ok place) (more, g, at, e) = (
  step ∷ more,
  g,
  subst (λ xs. IsAt s nodes tree xs place.above g) (append_assoc so_far (step ∷ []) more) at,
  ap (λ a. a >>= (λ t. Ok (spec.lower step t))) e,
)
lowered s nodes tree so_far step answer (Err (Refused code doc)) e = ap (λ a. a >>= (λ t. Ok (spec.lower step t))) e
lowered s nodes tree so_far step answer (Err Memory) e = tt

-- steps lead on from the instance that the first one means
pub further_located : (s : Schema) (nodes : Nodes) (tree : Tree) (so_far : List Step) (f : Branches) (b : spec.BoundStep) (steps rest : List spec.BoundStep) (step : Step)
    (id : SchemaId) (at_id : NodeId) (r : Result Place EditFault) → steps ≡ b ∷ rest → 1 ≤ length rest
    → spec.instance_meant s 4 (tree_of f) b.schema_node b.predicate ≡ Ok step → (found : Found id (instance_index step) at_id f) → id.0 ≡ step.schema_number
    → Locates s tree (so_far ++ step ∷ []) (spec.target s (tree_of found.below) rest) nodes r → Locates s tree so_far (spec.target s (tree_of f) steps) nodes r
further_located s nodes tree so_far f b steps [] step id at_id r e some meant found same located = absurd (omega (arith, some))
further_located s nodes tree so_far f b steps (c ∷ bs) step id at_id r e some meant found same located =
    let on : Tree → Result spec.Target spec.EditRefusal = λ row. spec.target s row (c ∷ bs) >>= (λ t. Ok (spec.lower step t)) in
    let is : spec.target s (tree_of f) steps ≡ on (tree_of found.below) =
    ap (spec.target s (tree_of f)) e
    ∙ (ap (λ (a : Result Step spec.EditRefusal). a >>= (λ (st : Step). spec.target s (row_at st.schema_number (instance_index st) (tree_of f)) (c ∷ bs) >>= (λ t. Ok (spec.lower st t)))) meant
    ∙ ap on (ap (λ k. row_at k (instance_index step) (tree_of f)) (sym same) ∙ row_found id (instance_index step) at_id f found)) in
    subst (λ a. Locates s tree so_far a nodes r) (sym is) (lowered s nodes tree so_far step (spec.target s (tree_of found.below) (c ∷ bs)) r located)

-- or the first one means none
pub refused_located : (s : Schema) (nodes : Nodes) (tree : Tree) (so_far : List Step) (f : Branches) (b : spec.BoundStep) (steps rest : List spec.BoundStep) (fault : EditFault)
    → steps ≡ b ∷ rest → 1 ≤ length rest → Fails (told_by fault) (spec.instance_meant s 4 (tree_of f) b.schema_node b.predicate)
    → Locates s tree so_far (spec.target s (tree_of f) steps) nodes (Err fault)
refused_located s nodes tree so_far f b steps [] fault e some fails = absurd (omega (arith, some))
refused_located s nodes tree so_far f b steps (c ∷ bs) (Refused code doc) e some fails =
    ap (spec.target s (tree_of f)) e
    ∙ ap (λ (a : Result Step spec.EditRefusal). a >>= (λ (st : Step). spec.target s (row_at st.schema_number (instance_index st) (tree_of f)) (c ∷ bs) >>= (λ t. Ok (spec.lower st t)))) fails
refused_located s nodes tree so_far f b steps (c ∷ bs) Memory e some fails = tt
