use Rattle.std.proofs.Common.{ℕ, ◌∙◌, ap}
use Rattle.ytype_patterns.specs.SymbolView.{categories_within}
use Rattle.ytype_patterns.proofs.SetLemmas.{if_ok, group_is}
use Rattle.ytype_patterns.proofs.sets.group_class.Goals as goal

pub returns : goal.returns
returns c = if_ok _ _ c.of_categories.result (λ r is. is ∙ (ap (λ (b : ℕ × ℕ). categories_within b.0 b.1) c.bounds-first.ensures ∙ group_is c.args.group)) c.of_categories.ensures
