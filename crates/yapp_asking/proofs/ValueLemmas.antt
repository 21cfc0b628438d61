-- What is stored in a document whose rows stand in order.
use Rattle.std.proofs.Common.{◌≡◌, Bool, true, false, ℕ, zero, suc, List, [], ◌∷◌, Option, Some, None, Result, Ok, Err, refl, ap, subst}
use Rattle.std.specs.Prelude.{◌==◌, if◌then◌else◌, IfOk, IfSome}
use Rattle.std.specs.Borrow.{Bor}
use Rattle.std.proofs.lemmas.Option.{same_Some}
use Rattle.yspec.specs.Results.{◌>>=◌, Gives}
use Rattle.yspec.specs.Forest.{end, node}
use Rattle.yspec.specs.schema.Schema.{Schema}
use Rattle.yspec.specs.document.Document as document
use Rattle.yspec.specs.document.Document.{Tree, Step}
use Rattle.yspec.specs.document.Sorting.{IsSorted}
use Rattle.yspec.specs.edit.Edit.{instance_index}
use Rattle.yspec.specs.edit.EditText.{Path}
use Rattle.yspec.specs.edit.Editing.{Branch, BoundStep, EditRefusal, Target, bound, instance_branch, instance_meant, last_meant, lower, row_at, target, target_of}
use Rattle.yspec.proofs.BasicLemmas.{bind_ok}
use Rattle.yspec_session.specs.Session.{value_at}
use Rattle.yinst_tree.specs.View.{view}
use Rattle.yinst_tree.specs.declared.tree.Stored.{Stored}
use Rattle.yinst_path.specs.Applying.{told_by}
use Rattle.yinst_path.specs.declared.edit.EditFault.{EditFault}
use Rattle.yapp_asking.specs.Asking.{found_view}

ok_same : {A R : Type 0} (x y : A) → ◌≡◌ {A = Result A R} (Ok x) (Ok y) → x ≡ y
ok_same {A} {R} x y e = ap there e
  where
    there : Result A R → A
    there (Ok z) = z
    there (Err r) = x

sorted_row : (n i : ℕ) (t : Tree) → IsSorted t → IsSorted (row_at n i t)
sorted_row n i end h = tt
sorted_row n zero (node s below after) h = by (s.schema_number == n) h.1 (sorted_row n zero after h.2)
  where
    by : (b : Bool) → IsSorted below → IsSorted (row_at n zero after) → IsSorted (if b then below else row_at n zero after)
    by true here there = here
    by false here there = there
sorted_row n (suc i) (node s below after) h = by (s.schema_number == n) (sorted_row n i after h.2) (sorted_row n (suc i) after h.2)
  where
    by : (b : Bool) → IsSorted (row_at n i after) → IsSorted (row_at n (suc i) after) → IsSorted (if b then row_at n i after else row_at n (suc i) after)
    by true here there = here
    by false here there = there

-- of a row whose first node is the one, or behind which it is found
sorted_first : (c : Bool) (s : document.Stored) (below after : Tree) (rest : Option Branch) (b : Branch) → IsSorted below
    → (rest ≡ Some b → IsSorted b.below) → (if c then Some (record { label = s; below = below }) else rest) ≡ Some b → IsSorted b.below
sorted_first true s below after rest b here there e = subst (λ (x : Branch). IsSorted x.below) (same_Some (record { label = s; below = below }) b e) here
sorted_first false s below after rest b here there e = there e

sorted_either : (c : Bool) (one other : Option Branch) (b : Branch) → (one ≡ Some b → IsSorted b.below) → (other ≡ Some b → IsSorted b.below)
    → (if c then one else other) ≡ Some b → IsSorted b.below
sorted_either true one other b first second e = first e
sorted_either false one other b first second e = second e

sorted_branch : (n i : ℕ) (t : Tree) (b : Branch) → instance_branch n i t ≡ Some b → IsSorted t → IsSorted b.below
sorted_branch n i end b is h = absurd cc
sorted_branch n zero (node s below after) b is h =
    sorted_first (s.schema_number == n) s below after (instance_branch n zero after) b h.1 (λ e. sorted_branch n zero after b e h.2) is
sorted_branch n (suc i) (node s below after) b is h =
    sorted_either (s.schema_number == n) (instance_branch n i after) (instance_branch n (suc i) after) b
    (λ e. sorted_branch n i after b e h.2) (λ e. sorted_branch n (suc i) after b e h.2) is

sorted_target : (s : Schema) (row : Tree) (steps : List BoundStep) (t : Target) → target s row steps ≡ Ok t → IsSorted row → IsSorted t.row
sorted_target s row [] t is h = absurd cc
sorted_target s row (b ∷ []) t is h = subst (λ (t : Target). IsSorted t.row) (ok_same (record { above = []; row = row; last = b }) t is) h
sorted_target s row (b ∷ c ∷ bs) t is h =
    let found = bind_ok (instance_meant s 4 row b.schema_node b.predicate) _ t is in
    let step : Step = found.0 in
    let next = bind_ok (target s (row_at step.schema_number (instance_index step) row) (c ∷ bs)) _ t found.2 in
    subst (λ (t : Target). IsSorted t.row) (ok_same (lower step next.0) t next.2)
    (sorted_target s (row_at step.schema_number (instance_index step) row) (c ∷ bs) next.0 next.1 (sorted_row step.schema_number (instance_index step) row h))

-- below what a path means
sorted_value : (s : Schema) (tree : Tree) (path : Path) (found : Option Branch) → target_of s tree false path >>= value_at s ≡ Ok found → IsSorted tree
    → IfSome found (λ b. IsSorted b.below)
sorted_value s tree path None is h = tt
sorted_value s tree path (Some b) is h =
    let t = bind_ok (target_of s tree false path) (value_at s) (Some b) is in
    let steps = bind_ok (bound s false path) (target s tree) t.0 t.1 in
    let step = bind_ok (last_meant s t.0) _ (Some b) t.2 in
    sorted_branch (step.0).schema_number (instance_index step.0) (t.0).row b (ok_same _ (Some b) step.2) (sorted_target s tree steps.0 t.0 steps.2 h)

seen_sorted : (found : Option (Bor Stored)) → IfSome (found_view found) (λ b. IsSorted b.below) → IfSome found (λ stored. IsSorted (view stored.now).1)
seen_sorted None h = tt
seen_sorted (Some stored) h = h

pub found_sorted : (s : Schema) (tree : Tree) (path : Path) (r : Result (Option (Bor Stored)) EditFault)
    → Gives found_view told_by r (target_of s tree false path >>= value_at s) → IsSorted tree → IfOk r (λ found. IfSome found (λ stored. IsSorted (view stored.now).1))
found_sorted s tree path (Ok found) is h = seen_sorted found (sorted_value s tree path (found_view found) is h)
found_sorted s tree path (Err fault) is h = tt
