-- Where a node stands that needn't be stored.
use Rattle.std.proofs.Common.{◌≡◌, Bool, true, ℕ, suc, ◌-◌, List, [], ◌∷◌, ◌++◌, Result, Ok, Err, Some, length, refl, sym, ap, ◌∙◌, append-nil, arith}
use Rattle.std.specs.Prelude.{if◌then◌else◌, slice_get}
use Rattle.std.proofs.lemmas.Option.{same_Some}
use Rattle.std.proofs.lemmas.List.{append_assoc}
use Rattle.yspec.specs.Results.{◌>>=◌}
use Rattle.yspec.specs.schema.Schema.{Schema}
use Rattle.yspec.specs.document.Document.{Tree, Step, step_to}
use Rattle.yspec.specs.edit.Edit.{instance_index}
use Rattle.yspec.specs.edit.EditText.{Predicate}
use Rattle.yspec.specs.edit.Editing.{BoundStep, EditRefusal, instance_meant, row_at, says_nothing}
use Rattle.yspec_session.specs.Session.{ends_bare, step_meant, steps_meant}
use Rattle.yinst_path.specs.Binding.{bound_step, node_of}
use Rattle.yinst_path.specs.EditView.{predicate_view, steps_view}
use Rattle.yinst_path.specs.declared.edit.NamedStep.{NamedStep}
use Rattle.yinst.proofs.LocatingLemmas.{number_is}
use Rattle.yapp_asking.specs.Asking.{steps_on}

steps_further : (s : Schema) (so_far : List Step) (row : Tree) (steps : List BoundStep)
    → steps_on s so_far row steps ≡ steps_meant s row steps >>= (λ more. Ok (so_far ++ more))
steps_further s so_far row [] = ap Ok (sym (append-nil so_far))
steps_further s so_far row (b ∷ bs) =
    by (step_meant s row b) (λ step. steps_further s (so_far ++ step ∷ []) (row_at step.schema_number (instance_index step) row) bs)
  where
    same : (step : Step) (r : Result (List Step) EditRefusal) → r >>= (λ more. Ok ((so_far ++ step ∷ []) ++ more))
        ≡ (r >>= (λ more. Ok (step ∷ more))) >>= (λ more. Ok (so_far ++ more))
    same step (Ok more) = ap Ok (append_assoc so_far (step ∷ []) more)
    same step (Err e) = refl

    by : (r : Result Step EditRefusal) → ((step : Step) → steps_on s (so_far ++ step ∷ []) (row_at step.schema_number (instance_index step) row) bs
        ≡ steps_meant s (row_at step.schema_number (instance_index step) row) bs >>= (λ more. Ok ((so_far ++ step ∷ []) ++ more)))
        → r >>= (λ step. steps_on s (so_far ++ step ∷ []) (row_at step.schema_number (instance_index step) row) bs)
        ≡ (r >>= (λ step. steps_meant s (row_at step.schema_number (instance_index step) row) bs >>= (λ more. Ok (step ∷ more)))) >>= (λ more. Ok (so_far ++ more))
    by (Err e) h = refl
    by (Ok step) h = h step ∙ same step (steps_meant s (row_at step.schema_number (instance_index step) row) bs)

-- from the top on
pub steps_at : (s : Schema) (row : Tree) (steps : List BoundStep) → steps_on s [] row steps ≡ steps_meant s row steps
steps_at s row steps = steps_further s [] row steps ∙ same (steps_meant s row steps)
  where
    same : (r : Result (List Step) EditRefusal) → r >>= (λ more. Ok ([] ++ more)) ≡ r
    same (Ok more) = refl
    same (Err e) = refl

-- a step with a predicate, and one without
either_meant : Schema → Tree → ℕ → Predicate → Bool → Result Step EditRefusal
either_meant s row i p bare = if bare then Ok (step_to (node_of s i).number) else instance_meant s 4 row (node_of s i) p

pub bare_meant : (s : Schema) (row : Tree) (i : ℕ) (p : Predicate) → says_nothing p ≡ true → step_meant s row (bound_step s i p) ≡ Ok (step_to i)
unfolding either_meant
bare_meant s row i p bare = ap (either_meant s row i p) bare ∙ ap (λ n. Ok (step_to n)) (number_is s i)

-- the last step decides
pub bare_last : (xs : List NamedStep) (x : NamedStep) → Some x ≡ slice_get xs (length xs - 1) → says_nothing (predicate_view x.predicate) ≡ ends_bare (steps_view xs)
bare_last [] x is = absurd cc
bare_last (y ∷ []) x is = ap (λ (s : NamedStep). says_nothing (predicate_view s.predicate)) (same_Some x y is)
bare_last (y ∷ z ∷ zs) x is =
    let next : length (y ∷ z ∷ zs) - 1 ≡ suc (length (z ∷ zs) - 1) = omega (arith) in
    bare_last (z ∷ zs) x (is ∙ ap (slice_get (y ∷ z ∷ zs)) next)
