use Rattle.std.proofs.Common.{◌∙◌, ap₂}
use Rattle.ytype_patterns.specs.SymbolView.{categories_within}
use Rattle.ytype_patterns.proofs.SetLemmas.{if_ok, category_is}
use Rattle.ytype_patterns.proofs.sets.category_class.Goals as goal

pub returns : goal.returns
returns c = if_ok _ _ c.of_categories.result (λ r is. is ∙ (ap₂ categories_within c.number-number.ensures c.number-number.ensures ∙ category_is c.args.category)) c.of_categories.ensures
