-- What the steps of a path mean, name by name.
use Rattle.std.proofs.Common.{◌≡◌, ℕ, List, [], ◌∷◌, ◌++◌, Bool, true, false, cond, Option, Some, None, Result, Ok, Err, refl, sym, ap, ◌∙◌}
use Rattle.std.specs.Prelude.{option_map, unwrap_or}
use Rattle.std.specs.Option.{option_map_or}
use Rattle.std.proofs.lemmas.Option.{same_Some}
use Rattle.yspec.specs.Forest.{Forest, row}
use Rattle.yspec.specs.Results.{◌>>=◌}
use Rattle.yspec.specs.text.Text.{is_text}
use Rattle.std.specs.List.{list_any}
use Rattle.yspec.specs.schema.Schema.{Schema, SchemaNode, other_name, data_row, row_at, module_at, node_at, children_of, child_written}
use Rattle.yspec.specs.document.Reading.{Named, child, other_form, unknown, named}
use Rattle.yspec.specs.document.Fitting.{IsNumbered}
use Rattle.yspec.specs.edit.EditText.{NamedStep, Path}
use Rattle.yspec.specs.edit.Editing.{EditRefusal, BoundStep, refused, bound_named, bound_steps}
use Rattle.yspec.proofs.DocumentProofs.MeaningLemmas.{means_child, means_none}
use Rattle.yinst_path.specs.Binding.{no_node, bound_step, bound_on}

behind_one : (xs : List BoundStep) (x : BoundStep) (more : List BoundStep) → (xs ++ x ∷ []) ++ more ≡ xs ++ x ∷ more
behind_one [] x more = refl
behind_one (y ∷ xs) x more = ap (λ ys. y ∷ ys) (behind_one xs x more)

-- one step more
bound_further : (r : Result (List BoundStep) EditRefusal) (so_far : List BoundStep) (x y : BoundStep) → x ≡ y
    → r >>= (λ more. Ok ((so_far ++ x ∷ []) ++ more)) ≡ (r >>= (λ more. Ok (y ∷ more))) >>= (λ more. Ok (so_far ++ more))
bound_further (Ok more) so_far x y same = ap Ok (behind_one so_far x more ∙ ap (λ z. so_far ++ z ∷ more) same)
bound_further (Err e) so_far x y same = refl

bound_nowhere : (b : Bool) (step : NamedStep) (so_far : List BoundStep) (later : SchemaNode → Forest SchemaNode → Result (List BoundStep) EditRefusal)
    → refused 2 ≡ bound_named (cond b other_form unknown) step.predicate later >>= (λ more. Ok (so_far ++ more))
bound_nowhere true step so_far later = refl
bound_nowhere false step so_far later = refl

steps_bound : (s : Schema) (so_far : List BoundStep) (p : Option ℕ) (steps : Path) → IsNumbered 0 s.nodes
    → bound_on s so_far p steps ≡ bound_steps s (module_at s p) (row_at s p) steps >>= (λ more. Ok (so_far ++ more))
steps_bound s so_far p [] numbered = ap Ok (nothing_behind so_far)
  where
    nothing_behind : (xs : List BoundStep) → xs ≡ xs ++ []
    nothing_behind [] = refl
    nothing_behind (x ∷ xs) = ap (λ ys. x ∷ ys) (nothing_behind xs)
steps_bound s so_far p (step ∷ steps) numbered =
    by (child_written s p step.name) refl (λ i. steps_bound s (so_far ++ bound_step s i step.predicate ∷ []) (Some i) steps numbered)
  where
    later : SchemaNode → Forest SchemaNode → Result (List BoundStep) EditRefusal
    later n below = bound_steps s (Some n.module_number) below steps

    meant : Named
    meant = named s (module_at s p) step.name (row_at s p)

    found : (i : ℕ) (o : Option SchemaNode) → node_at s i ≡ o → option_map (λ n. child n (children_of s i)) o ≡ Some meant
        → bound_on s (so_far ++ bound_step s i step.predicate ∷ []) (Some i) steps
        ≡ bound_steps s (module_at s (Some i)) (children_of s i) steps >>= (λ more. Ok ((so_far ++ bound_step s i step.predicate ∷ []) ++ more))
        → bound_on s (so_far ++ bound_step s i step.predicate ∷ []) (Some i) steps
        ≡ bound_named meant step.predicate later >>= (λ more. Ok (so_far ++ more))
    found i None at means further = absurd cc
    found i (Some n) at means further =
        further
        ∙ (ap (λ o. bound_steps s (option_map (λ m. m.module_number) o) (children_of s i) steps >>= (λ more. Ok ((so_far ++ bound_step s i step.predicate ∷ []) ++ more))) at
        ∙ (bound_further (later n (children_of s i)) so_far (bound_step s i step.predicate) (record { schema_node = n; predicate = step.predicate })
        (ap (λ o. record { schema_node = unwrap_or o (no_node i); predicate = step.predicate }) at)
        ∙ ap (λ m. bound_named m step.predicate later >>= (λ more. Ok (so_far ++ more))) (same_Some (child n (children_of s i)) meant means)))

    by : (o : Option ℕ) → child_written s p step.name ≡ o
        → ((i : ℕ) → bound_on s (so_far ++ bound_step s i step.predicate ∷ []) (Some i) steps
        ≡ bound_steps s (module_at s (Some i)) (children_of s i) steps >>= (λ more. Ok ((so_far ++ bound_step s i step.predicate ∷ []) ++ more)))
        → option_map_or (λ number. bound_on s (so_far ++ bound_step s number step.predicate ∷ []) (Some number) steps) o (refused 2)
        ≡ bound_named meant step.predicate later >>= (λ more. Ok (so_far ++ more))
    by None e further =
        let is_other = list_any (λ n. is_text step.name (other_name s (module_at s p) n)) (row (data_row (row_at s p))) in
        bound_nowhere is_other step so_far later
        ∙ ap (λ m. bound_named m step.predicate later >>= (λ more. Ok (so_far ++ more))) (sym (means_none s p step.name is_other (sym e) refl))
    by (Some i) e further = found i (node_at s i) refl (means_child s p step.name i numbered (sym e)) (further i)

-- from the top on
pub steps_named : (s : Schema) (steps : Path) → IsNumbered 0 s.nodes → bound_steps s None s.nodes steps ≡ bound_on s [] None steps
steps_named s steps numbered = sym (steps_bound s [] None steps numbered ∙ same (bound_steps s None s.nodes steps))
  where
    same : (r : Result (List BoundStep) EditRefusal) → r >>= (λ more. Ok ([] ++ more)) ≡ r
    same (Ok more) = refl
    same (Err e) = refl
