-- Which node the last step names.
use Rattle.std.proofs.Common.{◌≡◌, ℕ, ◌-◌, List, [], ◌∷◌, Option, Some, length, ap, ◌∙◌, arith, suc}
use Rattle.std.specs.Prelude.{slice_get}
use Rattle.std.proofs.lemmas.Option.{same_Some}
use Rattle.yspec.specs.schema.Schema.{Schema, is_many}
use Rattle.yspec.specs.edit.Editing.{ends_in_many}
use Rattle.yinst_path.specs.Binding.{node_of, steps_view}
use Rattle.yinst_path.specs.declared.binding.BoundStep.{BoundStep}

pub ends_last : (s : Schema) (xs : List BoundStep) (x : BoundStep) → Some x ≡ slice_get xs (length xs - 1)
    → is_many (node_of s x.id.0).kind ≡ ends_in_many (steps_view s xs)
ends_last s [] x is = absurd cc
ends_last s (y ∷ []) x is = ap (λ (b : BoundStep). is_many (node_of s b.id.0).kind) (same_Some x y is)
ends_last s (y ∷ z ∷ zs) x is =
    let next : length (y ∷ z ∷ zs) - 1 ≡ suc (length (z ∷ zs) - 1) = omega arith in
    ends_last s (z ∷ zs) x (is ∙ ap (slice_get (y ∷ z ∷ zs)) next)
