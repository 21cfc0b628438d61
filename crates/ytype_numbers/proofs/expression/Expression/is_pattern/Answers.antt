use Rattle.std.proofs.Common.{ap, ◌∙◌}
use Rattle.std.specs.String.{string_bytes}
use Rattle.yspec.specs.types.Types.{is_pattern}
use Rattle.ytype_numbers.proofs.ExpressionLemmas.{spells}
use Rattle.ytype_numbers.proofs.expression.Expression.is_pattern.Goals as goal

pub returns : goal.returns
returns c = c.is_some.ensures ∙ spells c.self.inside.pattern (string_bytes c.self.inside.text) c.self.invariant ∙ ap is_pattern c.self.view_is
