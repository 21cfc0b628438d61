-- A path of a `unique` has no more steps than the schema has levels, at the node of a number.
use Rattle.std.proofs.Common.{◌≡◌, ℕ, Bool, true, false, cond, Option, Some, None}
use Rattle.std.specs.Prelude.{◌==◌}
use Rattle.yspec.specs.Forest.{Forest, end, node, levels, find_label, first_of}
use Rattle.yspec.specs.schema.Schema.{Schema, SchemaNode, node_at}
use Rattle.yspec_fit.specs.Fit.{Each, PathsWithin, IsFit}
use Rattle.yspec_fit.proofs.FitLemmas.{paths_of}

abbrev pub PathsWithinAt : ℕ → Option SchemaNode → Type 0
PathsWithinAt most None = Unit {0}
PathsWithinAt most (Some n) = PathsWithin most n.kind

found_label : (most : ℕ) (test : SchemaNode → Bool) (f : Forest SchemaNode) → Each (λ n. PathsWithin most n.kind) f → PathsWithinAt most (find_label test f)
found_label most test end each = tt
found_label most test (node n below after) each = by (test n) (find_label test below) (found_label most test below each.1) (found_label most test after each.2)
  where
    by : (b : Bool) (o : Option SchemaNode) → PathsWithinAt most o → PathsWithinAt most (find_label test after)
        → PathsWithinAt most (cond b (Some n) (first_of o (find_label test after)))
    by true o inner rest = each.0
    by false None inner rest = rest
    by false (Some m) inner rest = inner

pub paths_at : (schema : Schema) → ∥ IsFit schema ∥₁ → (number : ℕ) → PathsWithinAt (levels schema.nodes) (node_at schema number)
paths_at schema fit number = found_label (levels schema.nodes) (λ (n : SchemaNode). n.number == number) schema.nodes (paths_of schema fit)
