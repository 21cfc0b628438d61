-- Edits keep a document within the limit.
use Rattle.std.proofs.Common.{◌≡◌, ℕ, zero, suc, ◌≤◌, Bool, true, false, cond, ltb, List, [], ◌∷◌, Ok, refl, arith}
use Rattle.std.proofs.lemmas.Bool.{ltb-false}
use Rattle.yspec.specs.Forest.{end, node, size, change_nth}
use Rattle.yspec.specs.text.Text.{Text}
use Rattle.yspec.specs.schema.Schema.{Schema}
use Rattle.yspec.specs.document.Document.{Stored, Tree, Step, document_limit}
use Rattle.yspec.specs.edit.Edit.{edit_at, is_of, instance_index}
use Rattle.yspec.specs.edit.EditText.{Edit, create, replace, remove, move_to}
use Rattle.yspec.specs.edit.Editing.{refused, Target, branch_of, with_branch, with_instead, without, within_limit, is_there, created, replaced, removed, moved, with_moved, last_meant, target_of, target_to_move, applied, after}
use Rattle.yspec.proofs.EditProofs.AnswerLemmas.{If, anyway, if_cond, edits_keep}
use Rattle.yspec.proofs.EditProofs.MoveLemmas.{moved_size}

abbrev IsWithin : Tree → Type 0
IsWithin t = size t ≤ document_limit

limited : (t : Tree) → If IsWithin (within_limit t)
limited t = by (ltb document_limit (size t)) refl
  where
    by : (b : Bool) → ltb document_limit (size t) ≡ b → If IsWithin (cond b (refused 11) (Ok t))
    by true over = tt
    by false within = ltb-false document_limit (size t) within

-- ---- without a node there are no more

smaller : (b : Bool) (t u v : Tree) → size u ≤ size t → size v ≤ size t → size (cond b u v) ≤ size t
smaller true t u v one other = one
smaller false t u v one other = other

-- a change that leaves no more than were there leaves no more
shrunk : (test : Stored → Bool) (place : ℕ) (change : Stored → Tree → Tree → Tree) (t : Tree)
    → ((s : Stored) (below after : Tree) → size (change s below after) ≤ size (node s below after)) → size (change_nth test place change t) ≤ size t
shrunk test place change end less = omega arith
shrunk test zero change (node s below after) less =
    let rest = shrunk test zero change after less in
    smaller (test s) (node s below after) (change s below after) (node s below (change_nth test zero change after)) (less s below after) (omega (arith, rest))
shrunk test (suc place) change (node s below after) less =
    let one = shrunk test place change after less in let other = shrunk test (suc place) change after less in
    smaller (test s) (node s below after) (node s below (change_nth test place change after)) (node s below (change_nth test (suc place) change after))
    (omega (arith, one)) (omega (arith, other))

shrunk_at : (steps : List Step) (change : Tree → Tree) (t : Tree) → ((u : Tree) → size (change u) ≤ size u) → size (edit_at steps change t) ≤ size t
shrunk_at [] change t less = less t
shrunk_at (step ∷ steps) change t less = shrunk (is_of step.schema_number) (instance_index step) (λ s below after. node s (edit_at steps change below) after) t
    (λ s below after. let inner = shrunk_at steps change below less in omega (arith, inner))

-- ---- edits

module _ (schema : Schema) (tree : Tree) (within : IsWithin tree) where
  created_within : (text : Text) (t : Target) → If IsWithin (created schema tree text t)
  created_within text t = if_cond IsWithin (is_there t) _ _ tt
      (anyway IsWithin (branch_of schema t.last.schema_node.number text) _ (λ b. limited (edit_at t.above (with_branch b) tree)))

  replaced_within : (text : Text) (t : Target) → If IsWithin (replaced schema tree text t)
  replaced_within text t = anyway IsWithin (last_meant schema t) _ (λ step.
      anyway IsWithin (branch_of schema t.last.schema_node.number text) _ (λ b. limited (edit_at t.above (with_instead step b) tree)))

  removed_within : (t : Target) → If IsWithin (removed schema tree t)
  removed_within t = anyway IsWithin (last_meant schema t) _ (λ step.
      let less = shrunk_at t.above (without step) tree (λ u.
      shrunk (is_of step.schema_number) (instance_index step) (λ s below after. after) u (λ s below after. omega arith)) in
      omega (arith, less, within))

  moved_within : (position : ℕ) (t : Target) → If IsWithin (moved schema tree position t)
  moved_within position t = anyway IsWithin (last_meant schema t) _ (λ step.
      let less = shrunk_at t.above (with_moved step position) tree (λ u. let same = moved_size step position u in omega (arith, same)) in
      if_cond IsWithin (ltb _ position) (refused 5) (Ok (edit_at t.above (with_moved step position) tree)) tt (omega (arith, less, within)))

  applied_within : (e : Edit) → If IsWithin (applied schema tree e)
  unfolding applied
  applied_within (create path text) = anyway IsWithin (target_of schema tree true path) _ (created_within text)
  applied_within (replace path text) = anyway IsWithin (target_of schema tree false path) _ (replaced_within text)
  applied_within (remove path) = anyway IsWithin (target_of schema tree false path) _ removed_within
  applied_within (move_to path position) = anyway IsWithin (target_to_move schema tree path position) _ (moved_within position)

pub edit_within : (schema : Schema) (tree : Tree) (e : Edit) → IsWithin tree → If IsWithin (applied schema tree e)
edit_within schema tree e within = applied_within schema tree within e

pub edits_within : (schema : Schema) (tree : Tree) (edits : List Edit) → IsWithin tree → IsWithin (after schema tree edits)
edits_within schema tree edits within = edits_keep IsWithin schema tree edits (λ t e so. edit_within schema t e so) within
