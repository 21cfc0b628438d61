-- What stands outside the parts of an edit, and what it takes away, are what was there.
use Rattle.std.proofs.Common.{◌≡◌, ℕ, zero, suc, ◌+◌, Bool, true, false, cond, ltb, List, [], ◌∷◌, Ok, refl, sym, ap, ◌∙◌, subst, arith}
use Rattle.yspec.specs.Forest as forest
use Rattle.yspec.specs.Forest.{end, node, weigh, change_nth}
use Rattle.yspec.specs.schema.Schema.{Schema}
use Rattle.yspec.specs.document.Document.{Stored, Tree, Step, instances_in}
use Rattle.yspec.specs.edit.Edit.{edit_at, is_of, instance_index}
use Rattle.yspec.specs.edit.EditText.{Edit, create, replace, remove, move_to}
use Rattle.yspec.specs.edit.Editing.{refused, BoundStep, Target, bound, row_at, instance_meant, target, target_of, target_to_move, is_there, last_meant, branch_of, without}
use Rattle.yspec.proofs.EditProofs.AnswerLemmas.{If, if_then, anyway, if_cond}
use Rattle.yspec_reach.specs.Parts as parts
use Rattle.yspec_reach.specs.Parts.{Exchange, instance_alone, meant_alone, exchange_of, outside}

-- ---- the row of a target

abbrev row_along : List Step → Tree → Tree
row_along [] t = t
row_along (step ∷ steps) t = row_along steps (row_at step.schema_number (instance_index step) t)

abbrev IsAlong : Tree → Target → Type 0
IsAlong tree t = t.row ≡ row_along t.above tree

along : (schema : Schema) (tree : Tree) (bs : List BoundStep) → If (IsAlong tree) (target schema tree bs)
along schema tree [] = tt
along schema tree (b ∷ []) = refl
along schema tree (b ∷ c ∷ bs) = anyway (IsAlong tree) (instance_meant schema 4 tree b.schema_node b.predicate) _ (λ step.
    let row = row_at step.schema_number (instance_index step) tree in
    if_then (IsAlong row) (IsAlong tree) (target schema row (c ∷ bs)) _ (along schema row (c ∷ bs)) (λ t is. is))

module _ (w : Stored → ℕ) where
  -- ---- a row without a node, and that node

  parted : (number place : ℕ) (t : Tree)
      → weigh w t ≡ weigh w (change_nth (is_of number) place (λ s below after. after) t) + weigh w (instance_alone number place t)
  parted number place end = refl
  parted number zero (node s below after) = by (is_of number s) (parted number zero after)
    where
      by : (b : Bool)
          → weigh w after ≡ weigh w (change_nth (is_of number) zero (λ s below after. after) after) + weigh w (instance_alone number zero after)
          → weigh w (node s below after) ≡ weigh w (cond b after (node s below (change_nth (is_of number) zero (λ s below after. after) after)))
          + weigh w (cond b (node s below end) (instance_alone number zero after))
      by true rest = omega arith
      by false rest = omega (arith, rest)
  parted number (suc place) (node s below after) = by (is_of number s) (parted number place after) (parted number (suc place) after)
    where
      by : (b : Bool)
          → weigh w after ≡ weigh w (change_nth (is_of number) place (λ s below after. after) after) + weigh w (instance_alone number place after)
          → weigh w after ≡ weigh w (change_nth (is_of number) (suc place) (λ s below after. after) after) + weigh w (instance_alone number (suc place) after)
          → weigh w (node s below after)
          ≡ weigh w (cond b (node s below (change_nth (is_of number) place (λ s below after. after) after)) (node s below (change_nth (is_of number) (suc place) (λ s below after. after) after)))
          + weigh w (cond b (instance_alone number place after) (instance_alone number (suc place) after))
      by true one other = omega (arith, one)
      by false one other = omega (arith, other)

  -- ---- the same of the row to which steps lead

  module _ (change : Tree → Tree) (part : Tree → ℕ) (none : part end ≡ 0) (parts : (t : Tree) → weigh w t ≡ weigh w (change t) + part t) where
    below_parted : (number place : ℕ) (t : Tree)
        → weigh w t ≡ weigh w (forest.change_below (is_of number) place change t) + part (row_at number place t)
    below_parted number place end = omega (arith, none)
    below_parted number zero (node s below after) = by (is_of number s) (below_parted number zero after)
      where
        by : (b : Bool) → weigh w after ≡ weigh w (forest.change_below (is_of number) zero change after) + part (row_at number zero after)
            → weigh w (node s below after)
            ≡ weigh w (cond b (node s (change below) after) (node s below (forest.change_below (is_of number) zero change after)))
            + part (cond b below (row_at number zero after))
        by true rest = let inner = parts below in omega (arith, inner)
        by false rest = omega (arith, rest)
    below_parted number (suc place) (node s below after) =
        by (is_of number s) (below_parted number place after) (below_parted number (suc place) after)
      where
        by : (b : Bool) → weigh w after ≡ weigh w (forest.change_below (is_of number) place change after) + part (row_at number place after)
            → weigh w after ≡ weigh w (forest.change_below (is_of number) (suc place) change after) + part (row_at number (suc place) after)
            → weigh w (node s below after)
            ≡ weigh w (cond b (node s below (forest.change_below (is_of number) place change after)) (node s below (forest.change_below (is_of number) (suc place) change after)))
            + part (cond b (row_at number place after) (row_at number (suc place) after))
        by true one other = omega (arith, one)
        by false one other = omega (arith, other)

  along_end : (steps : List Step) → row_along steps end ≡ end
  along_end [] = refl
  along_end (step ∷ steps) = along_end steps

  parted_at : (steps : List Step) (change : Tree → Tree) (part : Tree → ℕ) → part end ≡ 0 → ((t : Tree) → weigh w t ≡ weigh w (change t) + part t)
      → (t : Tree) → weigh w t ≡ weigh w (edit_at steps change t) + part (row_along steps t)
  parted_at [] change part none parts t = parts t
  parted_at (step ∷ steps) change part none parts t = below_parted (edit_at steps change) (λ r. part (row_along steps r))
      (ap part (along_end steps) ∙ none) (λ r. parted_at steps change part none parts r) step.schema_number (instance_index step) t

  -- ---- edits

  module _ (schema : Schema) (tree : Tree) where
    abbrev IsParted : Exchange → Type 0
    IsParted x = weigh w tree ≡ weigh w (outside x tree) + weigh w x.old

    found : (is_create : Bool) (path : _) → If (IsAlong tree) (target_of schema tree is_create path)
    found is_create path = anyway (IsAlong tree) (bound schema is_create path) _ (along schema tree)

    stays : (t : Target) → weigh w tree ≡ weigh w (edit_at t.above (λ row. row) tree) + 0
    stays t = parted_at t.above (λ row. row) (λ row. 0) refl (λ r. omega arith) tree

    goes_from : (t : Target) (step : Step) → IsAlong tree t
        → weigh w tree ≡ weigh w (edit_at t.above (without step) tree) + weigh w (meant_alone step t.row)
    goes_from t step is = subst (λ r. weigh w tree ≡ weigh w (edit_at t.above (without step) tree) + weigh w (meant_alone step r)) (sym is)
        (parted_at t.above (without step) (λ r. weigh w (meant_alone step r)) refl (parted step.schema_number (instance_index step)) tree)

    exchange_parted : (edit : Edit) → If IsParted (exchange_of schema tree edit)
    unfolding exchange_of
    exchange_parted (create path text) = anyway IsParted (target_of schema tree true path) _ (λ t. if_cond IsParted (is_there t) _ _ tt
        (anyway IsParted (branch_of schema t.last.schema_node.number text) _ (λ b. stays t)))
    exchange_parted (replace path text) = if_then (IsAlong tree) IsParted (target_of schema tree false path) _ (found false path) (λ t is.
        anyway IsParted (last_meant schema t) _ (λ step. anyway IsParted (branch_of schema t.last.schema_node.number text) _ (λ b. goes_from t step is)))
    exchange_parted (remove path) = if_then (IsAlong tree) IsParted (target_of schema tree false path) _ (found false path) (λ t is.
        anyway IsParted (last_meant schema t) _ (λ step. goes_from t step is))
    exchange_parted (move_to path position) = anyway IsParted (target_to_move schema tree path position) _ (λ t.
        anyway IsParted (last_meant schema t) _ (λ step.
        if_cond IsParted (ltb (instances_in t.row t.last.schema_node.number) position) (refused 5) (Ok (parts.stays t step position)) tt (stays t)))

    pub parts_of_before : (edit : Edit) (x : Exchange) → exchange_of schema tree edit ≡ Ok x
        → weigh w tree ≡ weigh w (outside x tree) + weigh w x.old
    parts_of_before edit x is = subst (If IsParted) is (exchange_parted edit)
