use Rattle.std.proofs.Common.{◌++◌, ◌+◌, List, map, drop, sym, ap, ◌∙◌}
use Rattle.std.proofs.lemmas.List.{append_assoc}
use Rattle.std.specs.Prelude.{Bool, slice_get, option_to_list}
use Rattle.yspec.specs.text.Text.{Text}
use Rattle.ytype_simple.specs.Patterns.{expressions_in, matching_view}
use Rattle.ytype_simple.proofs.ExpressionLemmas.{expressions_more}
use Rattle.ytype_simple.proofs.simple.expressions_in.Goals as goal

pub limits-preserved : goal.limits-preserved
limits-preserved c =
    let ls = c.args.limits.now in let i = c.limits.index in
    let before = map matching_view c.limits.found.items in
    ap (λ (made : List (Text × Bool)). made ++ expressions_in (drop (i + 1) ls)) c.in_ok-add_expression_at.ensures
    ∙ (append_assoc before (expressions_in (option_to_list (slice_get ls i))) (expressions_in (drop (i + 1) ls))
    ∙ (ap (λ (left : List (Text × Bool)). before ++ left) (expressions_more ls i) ∙ c.limits.invariant))
