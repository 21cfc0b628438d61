-- Edits keep rows in order, and documents within the limit.
use Rattle.std.proofs.Common.{◌≡◌, ℕ, zero, suc, ◌+◌, ◌-◌, ◌≤◌, Bool, true, false, cond, eqb, ltb, List, [], ◌∷◌, Option, Some, None, Ok, refl, arith}
use Rattle.std.proofs.lemmas.Bool.{eqb-true, ltb-true, ltb-false}
use Rattle.std.specs.Prelude.{unwrap_or}
use Rattle.std.specs.Option.{option_map_or}
use Rattle.serde_json.specs.Data.{Data, Members}
use Rattle.yspec.specs.Forest.{Forest, end, node, size, find_below, joined_below, change_nth}
use Rattle.yspec.specs.text.Text.{Text}
use Rattle.yspec.specs.schema.Schema.{Schema, SchemaNode, node_at, children_of, data_row}
use Rattle.yspec.specs.document.Document.{Stored, Tree, Step, document_limit}
use Rattle.yspec.specs.document.Reading.{Refusal, members_of, json_of, first_wrong, instance_visits, stored_rows}
use Rattle.yspec.specs.document.Sorting.{StartsAt, IsSorted}
use Rattle.yspec.specs.document.Fitting.{IsNumbered}
use Rattle.yspec.specs.edit.Edit.{is_of, instance_index, edit_at}
use Rattle.yspec.specs.edit.EditText.{Edit, create, replace, remove, move_to}
use Rattle.yspec.specs.edit.Editing.{EditRefusal, refused, value_refused, Target, Branch, branch, fitting_branch, branch_at, branch_of, with_branch, with_instead, without, within_limit, is_there, created, replaced, removed, moved, with_moved, instance_branch, goes_before, with_branch_behind, last_meant, target_of, target_to_move, applied, after}
use Rattle.yspec.proofs.SchemaProofs.NumberLemmas.{number_at}
use Rattle.yspec.proofs.DocumentProofs.SortingLemmas.{fits_sorted}
use Rattle.yspec.proofs.DocumentProofs.FittingReadLemmas.{row_fits, ever_held}
use Rattle.yspec.proofs.EditProofs.MoveLemmas.{OnSome, either_branch, goes_low, stays_behind}
use Rattle.yspec.proofs.EditProofs.AnswerLemmas.{If, if_then, anyway, if_cond, IsOf, meant_of, edits_keep}

starts_lower : (t : Tree) (k m : ℕ) → StartsAt k t → m ≤ k → StartsAt m t
starts_lower end k m starts lower = tt
starts_lower (node s below after) k m starts lower = omega (arith, starts, lower)

-- ---- values

abbrev Numbered : Option (Forest SchemaNode) → Type 0
Numbered o = (j : ℕ) × IsNumbered j (unwrap_or o end)

here_or_below : (b : Bool) (below : Forest SchemaNode) (k : ℕ) (x y : Option (Forest SchemaNode)) → IsNumbered k below → Numbered x → Numbered y
    → Numbered (cond b (Some below) (joined_below x y))
here_or_below true below k x y numbered first second = (k, numbered)
here_or_below false below k (Some f) y numbered first second = first
here_or_below false below k None y numbered first second = second

numbered_below : (f : Forest SchemaNode) (k m : ℕ) → IsNumbered k f → Numbered (find_below (λ (n : SchemaNode). eqb n.number m) f)
numbered_below end k m numbered = (0, tt)
numbered_below (node n below after) k m numbered =
    here_or_below (eqb n.number m) below (k + 1) (find_below (λ (x : SchemaNode). eqb x.number m) below) (find_below (λ (x : SchemaNode). eqb x.number m) after) numbered.1
    (numbered_below below (k + 1) m numbered.1) (numbered_below after (k + 1 + size below) m numbered.2)

-- rows that members denote stand in order
rows_sorted : (schema : Schema) (parent : Option ℕ) (children : Forest SchemaNode) (k : ℕ) (ms : Members) → IsNumbered k children
    → IsSorted (stored_rows schema parent children ms)
rows_sorted schema parent children k ms numbered = fits_sorted (λ n value. Unit {0}) children 0 (stored_rows schema parent children ms)
    (row_fits schema (λ n value. Unit {0}) (λ parent children ms. Unit {0}) (λ parent children ms right. ever_held schema parent (data_row children) ms)
    parent children k ms numbered tt)

-- a branch of a node of this number, in order
abbrev IsBranch : ℕ → Branch → Type 0
IsBranch number b = (b.label.schema_number ≡ number) × IsSorted b.below

by_wrong : (schema : Schema) (number : ℕ) (n : SchemaNode) (d : Data) (o : Option Refusal) → IsBranch number (branch schema n d)
    → If {E = EditRefusal} (IsBranch number) (option_map_or (λ (r : Refusal). value_refused r.code) o (Ok (branch schema n d)))
by_wrong schema number n d None so = so
by_wrong schema number n d (Some r) so = tt

by_node : (schema : Schema) (number : ℕ) (d : Data) (o : Option SchemaNode) → node_at schema number ≡ o → IsNumbered 0 schema.nodes
    → If {E = EditRefusal} (IsBranch number) (option_map_or (λ n. fitting_branch schema n d) o (refused 2))
by_node schema number d None is numbered = tt
by_node schema number d (Some n) is numbered =
    let children = numbered_below schema.nodes 0 n.number numbered in
    by_wrong schema number n d (first_wrong (instance_visits schema n (children_of schema n.number) [] d))
    (number_at schema.nodes number n is, rows_sorted schema (Some n.module_number) (children_of schema n.number) children.0 (members_of d) children.1)

by_json : (schema : Schema) (number : ℕ) (o : Option Data) → IsNumbered 0 schema.nodes
    → If {E = EditRefusal} (IsBranch number) (option_map_or (branch_at schema number) o (refused 9))
by_json schema number None numbered = tt
by_json schema number (Some d) numbered = by_node schema number d (node_at schema number) refl numbered

branch_in_order : (schema : Schema) (number : ℕ) (text : Text) → IsNumbered 0 schema.nodes → If (IsBranch number) (branch_of schema number text)
branch_in_order schema number text numbered = by_json schema number (json_of text) numbered

-- ---- changes of a row

-- a row stays in order, and begins no lower
abbrev Keeps : Tree → Tree → Type 0
Keeps t u = IsSorted u × ((k : ℕ) → StartsAt k t → StartsAt k u)

put_before : (b : Branch) (s : Stored) (below after : Tree) (c : Bool) → ltb b.label.schema_number s.schema_number ≡ c → IsSorted b.below → IsSorted (node s below after)
    → (IsSorted (with_branch b after) × ((k : ℕ) → k ≤ b.label.schema_number → StartsAt k after → StartsAt k (with_branch b after)))
    → IsSorted (cond c (node b.label b.below (node s below after)) (node s below (with_branch b after)))
    × ((k : ℕ) → k ≤ b.label.schema_number → k ≤ s.schema_number → StartsAt k (cond c (node b.label b.below (node s below after)) (node s below (with_branch b after))))
put_before b s below after true e inner sorted rest =
    ((omega (arith, ltb-true b.label.schema_number s.schema_number e), inner, sorted), λ k lower starts. lower)
put_before b s below after false e inner sorted rest =
    ((rest.1 s.schema_number (ltb-false b.label.schema_number s.schema_number e) sorted.0, sorted.1, rest.0), λ k lower starts. starts)

with_branch_in_order : (b : Branch) (t : Tree) → IsSorted b.below → IsSorted t
    → IsSorted (with_branch b t) × ((k : ℕ) → k ≤ b.label.schema_number → StartsAt k t → StartsAt k (with_branch b t))
with_branch_in_order b end inner sorted = ((tt, inner, tt), λ k lower starts. lower)
with_branch_in_order b (node s below after) inner sorted =
    put_before b s below after (ltb b.label.schema_number s.schema_number) refl inner sorted (with_branch_in_order b after inner sorted.2)

-- what a change makes of a node of this number and of what follows it
abbrev Fills : ℕ → (Stored → Tree → Tree → Tree) → Type 0
Fills number change = (s : Stored) (below after : Tree) → s.schema_number ≡ number → IsSorted (node s below after)
    → IsSorted (change s below after) × StartsAt number (change s below after)

past : (s : Stored) (below after changed : Tree) → IsSorted (node s below after) → Keeps after changed → Keeps (node s below after) (node s below changed)
past s below after changed sorted keeps = ((keeps.1 s.schema_number sorted.0, sorted.1, keeps.0), λ k starts. starts)

either_kept : (b : Bool) (t u v : Tree) → Keeps t u → Keeps t v → Keeps t (cond b u v)
either_kept true t u v first second = first
either_kept false t u v first second = second

filled : (number : ℕ) (change : Stored → Tree → Tree → Tree) (s : Stored) (below after : Tree) (b : Bool) → eqb s.schema_number number ≡ b → Fills number change
    → IsSorted (node s below after) → Keeps after (change_nth (is_of number) zero change after)
    → Keeps (node s below after) (cond b (change s below after) (node s below (change_nth (is_of number) zero change after)))
filled number change s below after true same fills sorted rest =
    let e = eqb-true s.schema_number number same in
    let what = fills s below after e sorted in
    (what.0, λ k starts. starts_lower (change s below after) number k what.1 (omega (arith, e, starts)))
filled number change s below after false other fills sorted rest = past s below after (change_nth (is_of number) zero change after) sorted rest

changed_in_order : (number place : ℕ) (change : Stored → Tree → Tree → Tree) (t : Tree) → Fills number change → IsSorted t
    → Keeps t (change_nth (is_of number) place change t)
changed_in_order number place change end fills sorted = (tt, λ k starts. tt)
changed_in_order number zero change (node s below after) fills sorted =
    filled number change s below after (eqb s.schema_number number) refl fills sorted (changed_in_order number zero change after fills sorted.2)
changed_in_order number (suc place) change (node s below after) fills sorted = either_kept (eqb s.schema_number number) (node s below after) _ _
    (past s below after (change_nth (is_of number) place change after) sorted (changed_in_order number place change after fills sorted.2))
    (past s below after (change_nth (is_of number) (suc place) change after) sorted (changed_in_order number (suc place) change after fills sorted.2))

-- ---- a node moved

instance_in_order : (number place : ℕ) (t : Tree) → IsSorted t → OnSome (IsBranch number) (instance_branch number place t)
instance_in_order number place end sorted = tt
instance_in_order number zero (node s below after) sorted = by (eqb s.schema_number number) refl (instance_in_order number zero after sorted.2)
  where
    by : (c : Bool) → eqb s.schema_number number ≡ c → OnSome (IsBranch number) (instance_branch number zero after)
        → OnSome (IsBranch number) (cond c (Some (record { label = s; below = below })) (instance_branch number zero after))
    by true e rest = (eqb-true s.schema_number number e, sorted.1)
    by false e rest = rest
instance_in_order number (suc place) (node s below after) sorted =
    either_branch (IsBranch number) (eqb s.schema_number number) (instance_branch number place after) (instance_branch number (suc place) after)
    (instance_in_order number place after sorted.2) (instance_in_order number (suc place) after sorted.2)

put_behind : (b : Branch) (count : ℕ) (s : Stored) (below after more : Tree) (c : Bool) → goes_before b.label.schema_number count s ≡ c → IsSorted b.below → IsSorted (node s below after)
    → (IsSorted more × ((k : ℕ) → k ≤ b.label.schema_number → StartsAt k after → StartsAt k more))
    → IsSorted (cond c (node b.label b.below (node s below after)) (node s below more))
    × ((k : ℕ) → k ≤ b.label.schema_number → k ≤ s.schema_number → StartsAt k (cond c (node b.label b.below (node s below after)) (node s below more)))
put_behind b count s below after more true e inner sorted rest = ((goes_low b.label.schema_number count s e, inner, sorted), λ k lower starts. lower)
put_behind b count s below after more false e inner sorted rest =
    ((rest.1 s.schema_number (stays_behind b.label.schema_number count s e) sorted.0, sorted.1, rest.0), λ k lower starts. starts)

behind_in_order : (b : Branch) (count : ℕ) (t : Tree) → IsSorted b.below → IsSorted t
    → IsSorted (with_branch_behind b count t) × ((k : ℕ) → k ≤ b.label.schema_number → StartsAt k t → StartsAt k (with_branch_behind b count t))
behind_in_order b count end inner sorted = ((tt, inner, tt), λ k lower starts. lower)
behind_in_order b count (node s below after) inner sorted =
    put_behind b count s below after _ (goes_before b.label.schema_number count s) refl inner sorted
    (behind_in_order b (cond (is_of b.label.schema_number s) (count - 1) count) after inner sorted.2)

without_in_order : (step : Step) (u : Tree) → IsSorted u → IsSorted (without step u)
without_in_order step u sorted = (changed_in_order step.schema_number (instance_index step) (λ s below after. after) u
    (λ s below after e old. (old.2, starts_lower after s.schema_number step.schema_number old.0 (omega (arith, e)))) sorted).0

moved_row_in_order : (step : Step) (position : ℕ) (u : Tree) → IsSorted u → IsSorted (with_moved step position u)
moved_row_in_order step position u sorted =
    by (instance_branch step.schema_number (instance_index step) u) (instance_in_order step.schema_number (instance_index step) u sorted)
  where
    by : (o : Option Branch) → OnSome (IsBranch step.schema_number) o
        → IsSorted (option_map_or (λ b. with_branch_behind b (position - 1) (without step u)) o u)
    by None so = sorted
    by (Some b) so = (behind_in_order b (position - 1) (without step u) so.1 (without_in_order step u sorted)).0

-- ---- changes of a tree

abbrev Sorts : (Tree → Tree) → Type 0
Sorts change = (t : Tree) → IsSorted t → IsSorted (change t)

edit_at_in_order : (steps : List Step) (change : Tree → Tree) → Sorts change → Sorts (edit_at steps change)
edit_at_in_order [] change sorts t sorted = sorts t sorted
edit_at_in_order (step ∷ steps) change sorts t sorted =
    let inner = edit_at_in_order steps change sorts in
    (changed_in_order step.schema_number (instance_index step) (λ l below after. node l (edit_at steps change below) after) t
    (λ s below after e so. ((so.0, inner below so.1, so.2), omega (arith, e))) sorted).0

-- ---- edits

limited : (t : Tree) → IsSorted t → If IsSorted (within_limit t)
limited t sorted = if_cond IsSorted (ltb document_limit (size t)) _ _ tt sorted

module _ (schema : Schema) (numbered : IsNumbered 0 schema.nodes) (tree : Tree) (sorted : IsSorted tree) where
  created_in_order : (text : Text) (t : Target) → If IsSorted (created schema tree text t)
  created_in_order text t = if_cond IsSorted (is_there t) _ _ tt
      (if_then (IsBranch t.last.schema_node.number) IsSorted (branch_of schema t.last.schema_node.number text) _ (branch_in_order schema t.last.schema_node.number text numbered)
      (λ b so. limited (edit_at t.above (with_branch b) tree)
      (edit_at_in_order t.above (with_branch b) (λ u u_sorted. (with_branch_in_order b u so.1 u_sorted).0) tree sorted)))

  replaced_in_order : (text : Text) (t : Target) → If IsSorted (replaced schema tree text t)
  replaced_in_order text t = if_then (IsOf t.last.schema_node.number) IsSorted (last_meant schema t) _ (meant_of schema 7 t.row t.last.schema_node t.last.predicate)
      (λ step of. if_then (IsBranch t.last.schema_node.number) IsSorted (branch_of schema t.last.schema_node.number text) _ (branch_in_order schema t.last.schema_node.number text numbered)
      (λ b so. limited (edit_at t.above (with_instead step b) tree)
      (edit_at_in_order t.above (with_instead step b) (λ u u_sorted.
      (changed_in_order step.schema_number (instance_index step) (λ s below after. node b.label b.below after) u
      (λ s below after e old. ((starts_lower after s.schema_number b.label.schema_number old.0 (omega (arith, e, of, so.0)), so.1, old.2), omega (arith, of, so.0))) u_sorted).0) tree sorted)))

  removed_in_order : (t : Target) → If IsSorted (removed schema tree t)
  removed_in_order t = anyway IsSorted (last_meant schema t) _
      (λ step. edit_at_in_order t.above (without step) (λ u u_sorted.
      (changed_in_order step.schema_number (instance_index step) (λ s below after. after) u
      (λ s below after e old. (old.2, starts_lower after s.schema_number step.schema_number old.0 (omega (arith, e)))) u_sorted).0) tree sorted)

  moved_in_order : (position : ℕ) (t : Target) → If IsSorted (moved schema tree position t)
  moved_in_order position t = anyway IsSorted (last_meant schema t) _ (λ step.
      if_cond IsSorted (ltb _ position) (refused 5) (Ok (edit_at t.above (with_moved step position) tree)) tt
      (edit_at_in_order t.above (with_moved step position) (moved_row_in_order step position) tree sorted))

  applied_in_order : (e : Edit) → If IsSorted (applied schema tree e)
  unfolding applied
  applied_in_order (create path text) = anyway IsSorted (target_of schema tree true path) _ (created_in_order text)
  applied_in_order (replace path text) = anyway IsSorted (target_of schema tree false path) _ (replaced_in_order text)
  applied_in_order (remove path) = anyway IsSorted (target_of schema tree false path) _ removed_in_order
  applied_in_order (move_to path position) = anyway IsSorted (target_to_move schema tree path position) _ (moved_in_order position)

pub edits_in_order : (schema : Schema) (tree : Tree) (edits : List Edit) → IsNumbered 0 schema.nodes → IsSorted tree → IsSorted (after schema tree edits)
edits_in_order schema tree edits numbered sorted =
    edits_keep IsSorted schema tree edits (λ t e so. applied_in_order schema numbered t so e) sorted
