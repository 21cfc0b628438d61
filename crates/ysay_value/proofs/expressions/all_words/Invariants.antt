use Rattle.std.proofs.Common.{◌≡◌, ◌++◌, drop, map, string_bytes}
use Rattle.ytype.specs.Patterns.{matching_view}
use Rattle.ysay_value.specs.ExpressionWords.{expression_words}
use Rattle.ysay_value.proofs.expressions.all_words.Given as goal

-- the texts so far, and those of the expressions that are left
abbrev pub invariant-loop-expression : goal.invariant-loop-expression
invariant-loop-expression l = map string_bytes l.texts.items ++ map expression_words (map matching_view (drop l.expression-index l.expressions))
    ≡ map expression_words (map matching_view l.expressions)
