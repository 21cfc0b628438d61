-- The instance that a step of a path means, in a row of a store.
use Rattle.std.proofs.Common.{◌≡◌, ℕ, zero, suc, ◌+◌, ◌-◌, ◌<◌, ◌≤◌, Bool, true, false, cond, eqb, List, [], ◌∷◌, ◌++◌, length, slice_get, Option, Some, None, Result, Ok, refl, sym, ap, ap₂, ◌∙◌, arith, subst}
use Rattle.std.specs.Prelude.{ltb, unwrap_or, nat_lt, if◌then◌else◌}
use Rattle.std.proofs.lemmas.Bool.{lt-ltb, le-ltb, ltb-true, ltb-false, false≢true, eq-eqb}
use Rattle.std.proofs.lemmas.List.Sums.{sum_by-cons}
use Rattle.std.proofs.lemmas.Option.{none-some, slice_get_within}
use Rattle.yspec.specs.Forest.{end, node, row, join}
use Rattle.yspec.specs.Results.{Fails}
use Rattle.yspec.specs.schema.Schema.{Schema}
use Rattle.yspec.specs.document.Document.{Stored, Tree, step_at, instances_in}
use Rattle.yspec.specs.edit.Edit.{instance_index}
use Rattle.yspec.specs.edit.EditText.{at_position}
use Rattle.yspec.specs.edit.Editing.{EditRefusal, refused, is_zero, instance_meant, the_one, positions_where}
use Rattle.yschema_model.specs.declared.node.SchemaId.{SchemaId}
use Rattle.yinst_path.specs.Applying.{told_by, edit_number}
use Rattle.yinst_path.specs.Binding.{node_of}
use Rattle.yinst_path.specs.EditView.{predicate_view}
use Rattle.yinst_path.specs.declared.edit.Predicate.{Predicate}
use Rattle.yinst_path.specs.declared.edit.EditCode.{EditCode}
use Rattle.yinst_path.specs.declared.edit.EditFault.{EditFault}
use Rattle.yinst_path.specs.declared.edit.EditFault.TheVariants.{Refused}
use Rattle.yinst.specs.Locating.{meant_in}
use Rattle.yinst.proofs.LocatingLemmas.{meant_at}
use Rattle.ystore_rows.specs.Rows.{of_schema}
use Rattle.ystore.specs.Store.{children_at}
use Rattle.ystore_rows.specs.declared.row.NodeId.{NodeId}
use Rattle.ystore_rows.specs.declared.row.Row.{Row}
use Rattle.ystore.specs.declared.nodes.Nodes.{Nodes}
use Rattle.ystore_tree.specs.Hanging.{Branches, Hangs, tree_of, stored_of}
use Rattle.ystore_tree.specs.Ways.{Found}
use Rattle.ystore_tree.proofs.FoundLemmas.{found_at, counted_at}
use Rattle.ylive_edit.specs.Instances.{Meets, step_of, instance_in, rows_of}

-- ---- answers

pub told_missing : {Y : Type 0} (code : EditCode) (fault : EditFault) (answer : Result Y EditRefusal) → fault ≡ Refused code None → answer ≡ refused (edit_number code)
    → Fails (told_by fault) answer
told_missing code fault answer e is = subst (λ x. Fails (told_by x) answer) (sym e) is

pub as_meant : (s : Schema) (missing : ℕ) (f : Branches) (id : SchemaId) (p q : Predicate) (r : Result NodeId EditFault) → p ≡ q
    → Meets id f (meant_in s missing (tree_of f) id.0 (predicate_view q)) r → Meets id f (instance_meant s missing (tree_of f) (node_of s id.0) (predicate_view p)) r
as_meant s missing f id p q r e =
    subst (λ a. Meets id f a r) (sym (meant_at s missing (tree_of f) id.0 (predicate_view p) ∙ ap (λ x. meant_in s missing (tree_of f) id.0 (predicate_view x)) e))

-- ---- a position

module _ (missing : ℕ) (row : Tree) (number : ℕ) (position : Option ℕ) where
  pub is_in : instance_index (step_of number position) < instances_in row number → instance_in missing row number position ≡ Ok (step_of number position)
  is_in less = rw (lt-ltb (instance_index (step_of number position)) (instances_in row number) less) refl

  pub is_past : instances_in row number ≤ instance_index (step_of number position) → instance_in missing row number position ≡ refused missing
  is_past less = rw (le-ltb (instance_index (step_of number position)) (instances_in row number) less) refl

-- positions count from 1
pub position_is : (s : Schema) (missing : ℕ) (row : Tree) (i p : ℕ) → is_zero (at_position p) ≡ false
    → meant_in s missing row i (at_position p) ≡ instance_in 5 row i (Some p)
position_is s missing row i zero some = absurd (false≢true (sym some))
position_is s missing row i (suc p) some = by (ltb p (instances_in row i)) refl
  where
    by : (b : Bool) → ltb p (instances_in row i) ≡ b → meant_in s missing row i (at_position (suc p)) ≡ instance_in 5 row i (Some (suc p))
    by true e = let less = ltb-true p (instances_in row i) e in
        rw (le-ltb (instances_in row i) (suc p) (omega (arith, less))) (sym (is_in 5 row i (Some (suc p)) (omega (arith, less))))
    by false e = let less = ltb-false p (instances_in row i) e in
        rw (lt-ltb (instances_in row i) (suc p) (omega (arith, less))) (sym (is_past 5 row i (Some (suc p)) (omega (arith, less))))

-- ---- one child

pub none_past : (xs : List NodeId) (k : ℕ) → slice_get xs k ≡ None → length xs ≤ k
none_past [] k e = omega arith
none_past (x ∷ xs) zero e = absurd (none-some x (sym e))
none_past (x ∷ xs) (suc k) e = let rest = none_past xs k e in omega (arith, rest)

module _ (nodes : Nodes) (above : Row) (f : Branches) (id : SchemaId) (position : Option ℕ) (place : ℕ) (child : Option NodeId) (hangs : Hangs nodes above f)
    (is : child ≡ slice_get (of_schema id (children_at nodes above)) place) (same : place ≡ unwrap_or position 1 - 1) where
  pub found_in : (found : NodeId) → child ≡ Some found → Found id (instance_index (step_of id.0 position)) found f
  found_in found some = subst (λ k. Found id k found f) same (found_at nodes above f id place found hangs (sym is ∙ some))

  pub stored_in : (missing : ℕ) (found : NodeId) → child ≡ Some found → instance_in missing (tree_of f) id.0 position ≡ Ok (step_of id.0 position)
  stored_in missing found some =
      let less = slice_get_within (of_schema id (children_at nodes above)) place found (sym is ∙ some) in
      let count = counted_at nodes above f id hangs in
      is_in missing (tree_of f) id.0 position (omega (arith, less, count, same))

  pub missing_in : (missing : ℕ) → child ≡ None → instance_in missing (tree_of f) id.0 position ≡ refused missing
  missing_in missing none =
      let past = none_past (of_schema id (children_at nodes above)) place (sym is ∙ none) in
      let count = counted_at nodes above f id hangs in
      is_past missing (tree_of f) id.0 position (omega (arith, past, count, same))

-- ---- the instances of a schema node in a row

pub one_more : (number : ℕ) (s : Stored) (below after : Tree) (b : Bool) → eqb s.schema_number number ≡ b
    → instances_in (node s below after) number ≡ cond b 1 0 + instances_in after number
one_more number s below after b e =
    sum_by-cons (λ (x : Stored). cond (eqb x.schema_number number) 1 0) s (row after) ∙ ap (λ x. cond x 1 0 + instances_in after number) e

row_first : (number : ℕ) (first : Tree) (s : Stored) (below rest : Tree) → s.schema_number ≡ number
    → slice_get (rows_of number (join first (node s below rest))) (instances_in first number) ≡ Some below
row_first number end s below rest same = ap (λ b. slice_get (cond b (below ∷ rows_of number rest) (rows_of number rest)) 0) (eq-eqb s.schema_number number same)
row_first number (node m under after) s below rest same = by (eqb m.schema_number number) refl (row_first number after s below rest same)
  where
    rows : List Tree
    rows = rows_of number (join after (node s below rest))

    by : (b : Bool) → eqb m.schema_number number ≡ b → slice_get rows (instances_in after number) ≡ Some below
        → slice_get (cond b (under ∷ rows) rows) (instances_in (node m under after) number) ≡ Some below
    by true e more =
        let index : instances_in (node m under after) number ≡ suc (instances_in after number) =
        let one = one_more number m under after true e in omega (arith, one) in
        ap (slice_get (under ∷ rows)) index ∙ more
    by false e more =
        let index : instances_in (node m under after) number ≡ instances_in after number =
        let other = one_more number m under after false e in omega (arith, other) in
        ap (slice_get rows) index ∙ more

row_count : (number : ℕ) (t : Tree) → length (rows_of number t) ≡ instances_in t number
row_count number end = refl
row_count number (node s below after) = by (eqb s.schema_number number) refl (row_count number after)
  where
    by : (b : Bool) → eqb s.schema_number number ≡ b → length (rows_of number after) ≡ instances_in after number
        → length (cond b (below ∷ rows_of number after) (rows_of number after)) ≡ instances_in (node s below after) number
    by true e more = let one = one_more number s below after true e in omega (arith, one, more)
    by false e more = let other = one_more number s below after false e in omega (arith, other, more)

-- the positions, from one on, of the rows that pass a test
abbrev pub passing : (Tree → Bool) → ℕ → List Tree → List ℕ
passing test position [] = []
passing test position (below ∷ rows) = cond (test below) (position ∷ []) [] ++ passing test (position + 1) rows

pub positions : (number : ℕ) (test : Tree → Bool) (p : ℕ) (t : Tree) → positions_where number test p t ≡ passing test p (rows_of number t)
positions number test p end = refl
positions number test p (node s below after) = by (eqb s.schema_number number) (λ q. positions number test q after)
  where
    by : (b : Bool) → ((q : ℕ) → positions_where number test q after ≡ passing test q (rows_of number after))
        → cond b (cond (test below) (p ∷ []) [] ++ positions_where number test (p + 1) after) (positions_where number test p after)
        ≡ passing test p (cond b (below ∷ rows_of number after) (rows_of number after))
    by true more = ap (λ ps. cond (test below) (p ∷ []) [] ++ ps) (more (p + 1))
    by false more = more p

tree_join : (f g : Branches) → tree_of (join f g) ≡ join (tree_of f) (tree_of g)
tree_join end g = refl
tree_join (node n below after) g = ap (node (stored_of n) (tree_of below)) (tree_join after g)

-- the row below a child that is found
pub row_found : (f : Branches) (id : SchemaId) (k : ℕ) (child : NodeId) (at : Found id k child f) → slice_get (rows_of id.0 (tree_of f)) k ≡ Some (tree_of at.below)
row_found f id k child at =
    let rest = node at.frame.label at.below at.frame.after in
    let tree = ap tree_of at.is_row ∙ tree_join at.frame.before rest in
    ap₂ (λ t i. slice_get (rows_of id.0 t) i) tree (sym at.is_index)
    ∙ row_first id.0 (tree_of at.frame.before) (stored_of at.frame.label) (tree_of at.below) (tree_of at.frame.after) (ap (λ (s : SchemaId). s.0) at.is_schema)

-- ---- a list of whose entries any fits

module _ (missing number : ℕ) (test : Tree → Bool) (always : (below : Tree) → test below ≡ true) (t : Tree) where
  pub any_of_several : 1 < instances_in t number → the_one missing number (positions_where number test 1 t) ≡ refused 6
  any_of_several more =
      ap (the_one missing number) (positions number test 1 t) ∙ by (rows_of number t) (let count = row_count number t in omega (arith, count, more))
    where
      by : (rows : List Tree) → 1 < length rows → the_one missing number (passing test 1 rows) ≡ refused 6
      by [] more = absurd (omega (arith, more))
      by (row ∷ []) more = absurd (omega (arith, more))
      by (row ∷ other ∷ rows) more = rw (always row, always other) refl

  pub only_entry : instances_in t number ≤ 1 → the_one missing number (positions_where number test 1 t) ≡ instance_in missing t number (Some 1)
  only_entry few =
      ap (the_one missing number) (positions number test 1 t)
      ∙ (by (rows_of number t) (let count = row_count number t in omega (arith, count, few))
      ∙ ap (λ k. if nat_lt 0 k then Ok (step_at number 1) else refused missing) (row_count number t))
    where
      by : (rows : List Tree) → length rows ≤ 1 → the_one missing number (passing test 1 rows) ≡ (if nat_lt 0 (length rows) then Ok (step_at number 1) else refused missing)
      by [] few = refl
      by (row ∷ []) few = rw (always row) refl
      by (row ∷ other ∷ rows) few = absurd (omega (arith, few))
