-- Where an edit stands, step by step.
use Rattle.std.proofs.Common.{◌≡◌, ℕ, List, [], ◌∷◌, ◌++◌, Option, Some, None, Result, Ok, Err, refl, ap, ◌∙◌}
use Rattle.std.specs.Prelude.{unwrap_or, nat_lt, if◌then◌else◌}
use Rattle.yspec.specs.Results.{◌>>=◌}
use Rattle.yspec.specs.schema.Schema.{Schema, SchemaNode, node_at, keys_in}
use Rattle.yspec.specs.document.Document.{Tree, Step, step_to, step_at, instances_in}
use Rattle.yspec.specs.edit.Edit.{instance_index}
use Rattle.yspec.specs.edit.EditText.{Predicate, unsaid, at_position, with_keys}
use Rattle.yspec.specs.edit.Editing.{EditRefusal, BoundStep, Target, refused, instance_meant, the_one, positions_where, fits_keys, row_at, lower, target}
use Rattle.yspec.proofs.SchemaProofs.NumberLemmas.{number_at}
use Rattle.yinst_path.specs.Binding.{no_node, node_of}
use Rattle.yinst.specs.Locating.{meant_in, target_on}

pub number_is : (s : Schema) (i : ℕ) → (node_of s i).number ≡ i
number_is s i = by (node_at s i) refl
  where
    by : (o : Option SchemaNode) → node_at s i ≡ o → (unwrap_or o (no_node i)).number ≡ i
    by None e = refl
    by (Some n) e = number_at s.nodes i n e

pub meant_at : (s : Schema) (missing : ℕ) (row : Tree) (i : ℕ) (p : Predicate)
    → instance_meant s missing row (node_of s i) p ≡ meant_in s missing row i p
meant_at s missing row i unsaid = ap meant (number_is s i)
  where
    meant : ℕ → Result Step EditRefusal
    meant j = if nat_lt 0 (instances_in row j) then Ok (step_to j) else refused missing
meant_at s missing row i (at_position position) = ap meant (number_is s i)
  where
    meant : ℕ → Result Step EditRefusal
    meant j = if nat_lt (instances_in row j) position then refused 5 else Ok (step_at j position)
meant_at s missing row i (with_keys keys) =
    ap (λ j. the_one missing j (positions_where j (fits_keys s (keys_in (node_of s i).kind) keys) 1 row)) (number_is s i)

behind_one : (xs : List Step) (x : Step) (more : List Step) → (xs ++ x ∷ []) ++ more ≡ xs ++ x ∷ more
behind_one [] x more = refl
behind_one (y ∷ xs) x more = ap (λ ys. y ∷ ys) (behind_one xs x more)

nothing_behind : (xs : List Step) → xs ≡ xs ++ []
nothing_behind [] = refl
nothing_behind (x ∷ xs) = ap (λ ys. x ∷ ys) (nothing_behind xs)

target_further : (s : Schema) (so_far : List Step) (row : Tree) (steps : List BoundStep)
    → target_on s so_far row steps ≡ target s row steps >>= (λ t. Ok (record t { above = so_far ++ t.above }))
target_further s so_far row [] = refl
target_further s so_far row (b ∷ []) = ap (λ xs. Ok (record { above = xs; row = row; last = b })) (nothing_behind so_far)
target_further s so_far row (b ∷ c ∷ bs) =
    by (instance_meant s 4 row b.schema_node b.predicate) (λ step. target_further s (so_far ++ step ∷ []) (row_at step.schema_number (instance_index step) row) (c ∷ bs))
  where
    same : (step : Step) (r : Result Target EditRefusal) → r >>= (λ t. Ok (record t { above = (so_far ++ step ∷ []) ++ t.above }))
        ≡ (r >>= (λ t. Ok (lower step t))) >>= (λ t. Ok (record t { above = so_far ++ t.above }))
    same step (Ok t) = ap (λ xs. Ok (record t { above = xs })) (behind_one so_far step t.above)
    same step (Err e) = refl

    by : (r : Result Step EditRefusal) → ((step : Step) → target_on s (so_far ++ step ∷ []) (row_at step.schema_number (instance_index step) row) (c ∷ bs)
        ≡ target s (row_at step.schema_number (instance_index step) row) (c ∷ bs) >>= (λ t. Ok (record t { above = (so_far ++ step ∷ []) ++ t.above })))
        → r >>= (λ step. target_on s (so_far ++ step ∷ []) (row_at step.schema_number (instance_index step) row) (c ∷ bs))
        ≡ (r >>= (λ step. target s (row_at step.schema_number (instance_index step) row) (c ∷ bs) >>= (λ t. Ok (lower step t)))) >>= (λ t. Ok (record t { above = so_far ++ t.above }))
    by (Err e) h = refl
    by (Ok step) h = h step ∙ same step (target s (row_at step.schema_number (instance_index step) row) (c ∷ bs))

-- from the top on
pub target_at : (s : Schema) (row : Tree) (steps : List BoundStep) → target_on s [] row steps ≡ target s row steps
target_at s row steps = target_further s [] row steps ∙ same (target s row steps)
  where
    same : (r : Result Target EditRefusal) → r >>= (λ t. Ok (record t { above = [] ++ t.above })) ≡ r
    same (Ok t) = refl
    same (Err e) = refl
