-- An edit does what its parts say, and nothing that the number of nodes refuses is asked of them.
use Rattle.std.proofs.Common.{◌≡◌, ℕ, Bool, true, false, cond, ltb, List, [], ◌∷◌, Option, Some, None, Result, Ok, Err, refl, subst}
use Rattle.std.specs.Prelude.{◌==◌}
use Rattle.std.specs.Option.{option_map_or}
use Rattle.yspec.specs.Forest.{Forest}
use Rattle.yspec.specs.Results.{◌>>=◌}
use Rattle.yspec.specs.text.Text.{Text}
use Rattle.yspec.specs.schema.Schema.{Schema, SchemaNode, keys_in, node_at, children_of}
use Rattle.yspec.specs.document.Document.{Tree, instances_in}
use Rattle.yspec.specs.document.Reading.{Named, child, other_form, unknown, named, first_wrong, instance_visits, json_of}
use Rattle.yspec.specs.edit.Edit.{instance_index}
use Rattle.yspec.specs.edit.EditText.{Path, Predicate, unsaid, at_position, with_keys, Edit, create, replace, remove, move_to}
use Rattle.yspec.specs.edit.Editing.{EditRefusal, BoundStep, Target, bound_named, bound_steps, is_spelled, are_in_place, bound, the_one, positions_where, fits_keys, instance_meant, row_at, target, target_of, bound_to_move, movable, ends_in_many, target_to_move, moved, branch_of, is_there, last_meant, applied}
use Rattle.yspec_reach.specs.Parts.{comes, goes, gives_way, stays, exchange_of, tree_with, tree_within}

-- ---- the document after an edit

bound_both : {A B C R : Type 0} (r : Result A R) (f : A → Result C R) (g : A → Result B R) (h : B → Result C R)
    → ((x : A) → f x ≡ (g x >>= h)) → (r >>= f) ≡ ((r >>= g) >>= h)
bound_both (Ok x) f g h same = same x
bound_both (Err e) f g h same = refl

cond_both : {B C R : Type 0} (b : Bool) (e : R) (p : Result C R) (q : Result B R) (h : B → Result C R)
    → p ≡ (q >>= h) → cond b (Err e) p ≡ (cond b (Err e) q >>= h)
cond_both true e p q h same = refl
cond_both false e p q h same = same

module _ (schema : Schema) (tree : Tree) where
  pub created_by_parts : (path : Path) (text : Text)
      → applied schema tree (create path text) ≡ tree_within tree (exchange_of schema tree (create path text))
  unfolding applied exchange_of
  created_by_parts path text = bound_both (target_of schema tree true path) _ _ _ (λ t. cond_both (is_there t) _ _ _ _
      (bound_both (branch_of schema t.last.schema_node.number text) _ (λ b. Ok (comes t b)) _ (λ b. refl)))

  pub replaced_by_parts : (path : Path) (text : Text)
      → applied schema tree (replace path text) ≡ tree_within tree (exchange_of schema tree (replace path text))
  unfolding applied exchange_of
  replaced_by_parts path text = bound_both (target_of schema tree false path) _ _ _ (λ t. bound_both (last_meant schema t) _ _ _ (λ step.
      bound_both (branch_of schema t.last.schema_node.number text) _ (λ b. Ok (gives_way t step b)) _ (λ b. refl)))

  pub removed_by_parts : (path : Path)
      → applied schema tree (remove path) ≡ tree_with tree (exchange_of schema tree (remove path))
  unfolding applied exchange_of
  removed_by_parts path = bound_both (target_of schema tree false path) _ _ _ (λ t.
      bound_both (last_meant schema t) _ (λ step. Ok (goes t step)) _ (λ step. refl))

  pub moved_by_parts : (path : Path) (position : ℕ)
      → applied schema tree (move_to path position) ≡ tree_with tree (exchange_of schema tree (move_to path position))
  unfolding applied exchange_of
  moved_by_parts path position = bound_both (target_to_move schema tree path position) _ _ _ (λ t.
      bound_both (last_meant schema t) _ _ _ (λ step. cond_both (ltb (instances_in t.row t.last.schema_node.number) position) _ _
      (Ok (stays t step position)) _ refl))

-- ---- what refuses an edit

-- it isn't the number of nodes
abbrev IsOther : {A : Type 0} → Result A EditRefusal → Type 0
IsOther (Ok x) = Unit {0}
IsOther (Err r) = (r.code == 11) ≡ false

other_bound : {A B : Type 0} (r : Result A EditRefusal) (f : A → Result B EditRefusal) → IsOther r → ((x : A) → IsOther (f x)) → IsOther (r >>= f)
other_bound (Ok x) f first later = later x
other_bound (Err e) f first later = first

other_cond : {A : Type 0} (b : Bool) (r s : Result A EditRefusal) → IsOther r → IsOther s → IsOther (cond b r s)
other_cond true r s first second = first
other_cond false r s first second = second

other_option : {A B : Type 0} (o : Option A) (f : A → Result B EditRefusal) (none : Result B EditRefusal)
    → ((x : A) → IsOther (f x)) → IsOther none → IsOther (option_map_or f o none)
other_option (Some x) f none some otherwise = some x
other_option None f none some otherwise = otherwise

other_named : (found : Named) (predicate : Predicate) (later : SchemaNode → Forest SchemaNode → Result (List BoundStep) EditRefusal)
    → ((n : SchemaNode) (below : Forest SchemaNode) → IsOther (later n below)) → IsOther (bound_named found predicate later)
other_named (child n below) predicate later each = other_bound (later n below) _ (each n below) (λ steps. tt)
other_named other_form predicate later each = refl
other_named unknown predicate later each = refl

module _ (schema : Schema) where
  other_steps : (parent : Option ℕ) (children : Forest SchemaNode) (path : Path) → IsOther (bound_steps schema parent children path)
  other_steps parent children [] = tt
  other_steps parent children (s ∷ steps) = other_named (named schema parent s.name children) s.predicate _
      (λ n below. other_steps (Some n.module_number) below steps)

  other_path : (is_create : Bool) (path : Path) → IsOther (bound schema is_create path)
  other_path is_create path = other_cond (is_spelled path) _ _ (other_bound (bound_steps schema None schema.nodes path) _
      (other_steps None schema.nodes path) (λ steps. other_cond (are_in_place schema is_create steps) _ _ tt refl)) refl

  other_one : (missing number : ℕ) (positions : List ℕ) → (missing == 11) ≡ false → IsOther (the_one missing number positions)
  other_one missing number [] is = is
  other_one missing number (position ∷ []) is = tt
  other_one missing number (first ∷ second ∷ more) is = refl

  other_meant : (missing : ℕ) (row : Tree) (n : SchemaNode) (predicate : Predicate) → (missing == 11) ≡ false
      → IsOther (instance_meant schema missing row n predicate)
  other_meant missing row n unsaid is = other_cond (ltb 0 (instances_in row n.number)) _ _ tt is
  other_meant missing row n (at_position position) is = other_cond (ltb (instances_in row n.number) position) _ _ refl tt
  other_meant missing row n (with_keys keys) is =
      other_one missing n.number (positions_where n.number (fits_keys schema (keys_in n.kind) keys) 1 row) is

  other_target : (row : Tree) (bs : List BoundStep) → IsOther (target schema row bs)
  other_target row [] = refl
  other_target row (b ∷ []) = tt
  other_target row (b ∷ c ∷ bs) = other_bound (instance_meant schema 4 row b.schema_node b.predicate) _
      (other_meant 4 row b.schema_node b.predicate refl) (λ step.
      other_bound (target schema (row_at step.schema_number (instance_index step) row) (c ∷ bs)) _
      (other_target (row_at step.schema_number (instance_index step) row) (c ∷ bs)) (λ t. tt))

  other_branch : (number : ℕ) (text : Text) → IsOther (branch_of schema number text)
  other_branch number text = other_option (json_of text) _ _ (λ d. other_option (node_at schema number) _ _ (λ n.
      other_option (first_wrong (instance_visits schema n (children_of schema n.number) [] d)) _ _ (λ r. refl) tt) refl) refl

  other_place : (tree : Tree) (is_create : Bool) (path : Path) → IsOther (target_of schema tree is_create path)
  other_place tree is_create path = other_bound (bound schema is_create path) _ (other_path is_create path) (other_target tree)

  other_to_move : (tree : Tree) (path : Path) (position : ℕ) → IsOther (target_to_move schema tree path position)
  other_to_move tree path position = other_bound (bound_to_move schema path position) _ (other_cond (position == 0) _ _ refl
      (other_bound (bound schema false path) movable (other_path false path) (λ steps. other_cond (ends_in_many steps) _ _ tt refl)))
      (other_target tree)

  other_last : (t : Target) → IsOther (last_meant schema t)
  other_last t = other_meant 7 t.row t.last.schema_node t.last.predicate refl

  other_edit : (tree : Tree) (edit : Edit) → IsOther (exchange_of schema tree edit)
  unfolding exchange_of
  other_edit tree (create path text) = other_bound (target_of schema tree true path) _ (other_place tree true path) (λ t.
      other_cond (is_there t) _ _ refl (other_bound (branch_of schema t.last.schema_node.number text) _
      (other_branch t.last.schema_node.number text) (λ b. tt)))
  other_edit tree (replace path text) = other_bound (target_of schema tree false path) _ (other_place tree false path) (λ t.
      other_bound (last_meant schema t) _ (other_last t) (λ step. other_bound (branch_of schema t.last.schema_node.number text) _
      (other_branch t.last.schema_node.number text) (λ b. tt)))
  other_edit tree (remove path) = other_bound (target_of schema tree false path) _ (other_place tree false path) (λ t.
      other_bound (last_meant schema t) _ (other_last t) (λ step. tt))
  other_edit tree (move_to path position) = other_bound (target_to_move schema tree path position) _ (other_to_move tree path position) (λ t.
      other_bound (last_meant schema t) _ (other_last t) (λ step.
      other_cond (ltb (instances_in t.row t.last.schema_node.number) position) _ _ refl tt))

  pub refused_otherwise : (tree : Tree) (edit : Edit) (refusal : EditRefusal) → exchange_of schema tree edit ≡ Err refusal
      → (refusal.code == 11) ≡ false
  refused_otherwise tree edit refusal is = subst IsOther is (other_edit tree edit)
